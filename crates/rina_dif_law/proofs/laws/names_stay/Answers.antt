use Rattle.rina_dif_law.proofs.Numbering.{acknowledged_numbered, beside_numbered, ended_numbered, forgotten_numbered, ins_numbered, offers_numbered, outs_numbered, passed_numbered, resent_numbered, send_of_others_numbered, time_numbered}
use Rattle.rina_dif_law.proofs.Linkless.{failed_numbered, lost_numbered}
use Rattle.rina_dif_law.proofs.laws.names_stay.Goals as goal

pub returns-clause-send : goal.returns-clause-send
returns-clause-send c = offers_numbered

pub returns-clause-pass : goal.returns-clause-pass
returns-clause-pass c = passed_numbered

pub returns-clause-out : goal.returns-clause-out
returns-clause-out c = outs_numbered

pub returns-clause-in_ : goal.returns-clause-in_
returns-clause-in_ c = ins_numbered

pub returns-clause-acknowledge : goal.returns-clause-acknowledge
returns-clause-acknowledge c = acknowledged_numbered

pub returns-clause-resend : goal.returns-clause-resend
returns-clause-resend c = resent_numbered

pub returns-clause-forget : goal.returns-clause-forget
returns-clause-forget c = forgotten_numbered

pub returns-clause-end : goal.returns-clause-end
returns-clause-end c = ended_numbered

pub returns-clause-time : goal.returns-clause-time
returns-clause-time c = time_numbered

pub returns-clause-beside : goal.returns-clause-beside
returns-clause-beside c = beside_numbered

pub returns-clause-others_send : goal.returns-clause-others_send
returns-clause-others_send c = send_of_others_numbered

pub returns-clause-lose : goal.returns-clause-lose
returns-clause-lose c = lost_numbered

pub returns-clause-fail : goal.returns-clause-fail
returns-clause-fail c = failed_numbered
