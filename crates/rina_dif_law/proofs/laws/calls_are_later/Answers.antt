use Rattle.rina_dif_law.proofs.FarEnds.{silent_on}
use Rattle.rina_dif_law.proofs.Finishing.{ended_silent}
use Rattle.rina_dif_law.proofs.Upper.{acknowledged_silent, forgotten_silent, ins_silent, resent_silent, offers_later, outs_silent, passed_later, ticked_silent}
use Rattle.rina_dif_law.proofs.Linkless.{failed_silent, lost_silent}
use Rattle.rina_dif_law.proofs.laws.calls_are_later.Goals as goal

pub returns-clause-send : goal.returns-clause-send
returns-clause-send c = offers_later

pub returns-clause-pass : goal.returns-clause-pass
returns-clause-pass c = passed_later

pub returns-clause-out : goal.returns-clause-out
returns-clause-out c = outs_silent

pub returns-clause-in_ : goal.returns-clause-in_
returns-clause-in_ c = ins_silent

pub returns-clause-time : goal.returns-clause-time
returns-clause-time c = ticked_silent

pub returns-clause-acknowledge : goal.returns-clause-acknowledge
returns-clause-acknowledge c = acknowledged_silent

pub returns-clause-resend : goal.returns-clause-resend
returns-clause-resend c = resent_silent

pub returns-clause-forget : goal.returns-clause-forget
returns-clause-forget c = forgotten_silent

pub returns-clause-end : goal.returns-clause-end
returns-clause-end c = ended_silent

pub returns-clause-lose : goal.returns-clause-lose
returns-clause-lose c = lost_silent

pub returns-clause-fail : goal.returns-clause-fail
returns-clause-fail c = failed_silent

pub returns-clause-both : goal.returns-clause-both
returns-clause-both c = silent_on
