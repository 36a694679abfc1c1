use Rattle.rina_dif_law.specs.WriteOffLaws.{Nothing}
use Rattle.rina_dif_law.specs.WriteOffs.{AnyPort}
use Rattle.rina_dif_law.proofs.Warranted.{acknowledged_write, answered_quiet, asked_noted, bound_noted, ended_write, failed_write, forgotten_write, ins_write, lost_write, made_noted, offers_noted, outs_write, passed_noted, resent_write, ticked_noted, turned_down_noted}
use Rattle.rina_dif_law.proofs.Writing.{was_lawful, writes}
use Rattle.rina_dif_law.proofs.write_offs.each_write_off_has_its_cause.Goals as goal

pub returns-clause-out : goal.returns-clause-out
returns-clause-out c = outs_write

pub returns-clause-in_ : goal.returns-clause-in_
returns-clause-in_ c = ins_write

pub returns-clause-acknowledge : goal.returns-clause-acknowledge
returns-clause-acknowledge c = acknowledged_write

pub returns-clause-resend : goal.returns-clause-resend
returns-clause-resend c = resent_write

pub returns-clause-forget : goal.returns-clause-forget
returns-clause-forget c = forgotten_write

pub returns-clause-end : goal.returns-clause-end
returns-clause-end c = ended_write

pub returns-clause-lose : goal.returns-clause-lose
returns-clause-lose c = lost_write

pub returns-clause-fail : goal.returns-clause-fail
returns-clause-fail c = failed_write

pub returns-clause-lawful : goal.returns-clause-lawful
returns-clause-lawful c = λ d lines below i off. was_lawful d lines below AnyPort i off

pub returns-clause-send : goal.returns-clause-send
returns-clause-send c = λ d lines at parts r d' lines' s. writes Nothing d d' (offers_noted Nothing d lines at parts r d' lines' s)

pub returns-clause-pass : goal.returns-clause-pass
returns-clause-pass c = λ d lines at d' lines' s. writes Nothing d d' (passed_noted Nothing d lines at d' lines' s)

pub returns-clause-bind : goal.returns-clause-bind
returns-clause-bind c = λ d lines fixed d' lines' s. writes Nothing d d' (bound_noted Nothing d lines fixed d' lines' s)

pub returns-clause-ask : goal.returns-clause-ask
returns-clause-ask c = λ d lines ask d' lines' s. writes Nothing d d' (asked_noted Nothing d lines ask d' lines' s)

pub returns-clause-time : goal.returns-clause-time
returns-clause-time c = λ d lines now d' lines' s. writes Nothing d d' (ticked_noted Nothing d lines now d' lines' s)

pub returns-clause-far : goal.returns-clause-far
returns-clause-far c = λ d lines node at d' lines' s. writes Nothing d d' (made_noted Nothing d lines node at d' lines' s)

pub returns-clause-answer : goal.returns-clause-answer
returns-clause-answer c = answered_quiet

pub returns-clause-turn_down : goal.returns-clause-turn_down
returns-clause-turn_down c = λ d at state d' s. writes Nothing d d' (turned_down_noted Nothing d at state d' s)
