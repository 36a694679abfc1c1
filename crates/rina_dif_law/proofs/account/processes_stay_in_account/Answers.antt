use Rattle.rina_dif_law.proofs.Accounting.{acknowledged_accounted, lost_accounted, passed_accounted, resent_accounted}
use Rattle.rina_dif_law.proofs.Answered.{told_accounted}
use Rattle.rina_dif_law.proofs.Asked.{asked_accounted}
use Rattle.rina_dif_law.proofs.FarMade.{made_accounted}
use Rattle.rina_dif_law.proofs.Founding.{bound_accounted, failed_accounted, start_accounted}
use Rattle.rina_dif_law.proofs.Landing.{ins_accounted}
use Rattle.rina_dif_law.proofs.Lifted.{beside_accounted, passes_of_others_account, sends_of_others_account, time_accounted}
use Rattle.rina_dif_law.proofs.Making.{offers_accounted}
use Rattle.rina_dif_law.proofs.Receiving.{ended_accounted, forgotten_accounted}
use Rattle.rina_dif_law.proofs.Relaying.{outs_accounted}
use Rattle.rina_dif_law.proofs.TurnedDown.{down_accounted}
use Rattle.rina_dif_law.proofs.account.processes_stay_in_account.Goals as goal

pub returns-clause-pass : goal.returns-clause-pass
returns-clause-pass c = passed_accounted

pub returns-clause-acknowledge : goal.returns-clause-acknowledge
returns-clause-acknowledge c = acknowledged_accounted

pub returns-clause-resend : goal.returns-clause-resend
returns-clause-resend c = resent_accounted

pub returns-clause-lose : goal.returns-clause-lose
returns-clause-lose c = lost_accounted

pub returns-clause-out : goal.returns-clause-out
returns-clause-out c = outs_accounted

pub returns-clause-forget : goal.returns-clause-forget
returns-clause-forget c = forgotten_accounted

pub returns-clause-end : goal.returns-clause-end
returns-clause-end c = ended_accounted

pub returns-clause-in_ : goal.returns-clause-in_
returns-clause-in_ c = ins_accounted

pub returns-clause-time : goal.returns-clause-time
returns-clause-time c = time_accounted

pub returns-clause-beside : goal.returns-clause-beside
returns-clause-beside c = beside_accounted

pub returns-clause-others_send : goal.returns-clause-others_send
returns-clause-others_send c = sends_of_others_account

pub returns-clause-others_pass : goal.returns-clause-others_pass
returns-clause-others_pass c = passes_of_others_account

pub returns-clause-send : goal.returns-clause-send
returns-clause-send c = offers_accounted

pub returns-clause-start : goal.returns-clause-start
returns-clause-start c = start_accounted

pub returns-clause-fail : goal.returns-clause-fail
returns-clause-fail c = failed_accounted

pub returns-clause-bind : goal.returns-clause-bind
returns-clause-bind c = bound_accounted

pub returns-clause-ask : goal.returns-clause-ask
returns-clause-ask c = λ d lines below ask d' lines' st n accounted s. asked_accounted d lines below st n ask d' lines' s accounted

pub returns-clause-far : goal.returns-clause-far
returns-clause-far c = λ d lines below node at d' lines' st n accounted s. made_accounted d lines below st n node at d' lines' s accounted

pub returns-clause-answer : goal.returns-clause-answer
returns-clause-answer c = λ d lines below at d' st n accounted s. told_accounted d lines below st n at d' s accounted

pub returns-clause-turn_down : goal.returns-clause-turn_down
returns-clause-turn_down c = λ d lines below at state d' st n accounted s. down_accounted d lines below st n at state d' s accounted
