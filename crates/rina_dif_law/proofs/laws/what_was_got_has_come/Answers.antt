use Rattle.rina_dif_law.proofs.Finishing.{ended_carries}
use Rattle.rina_dif_law.proofs.Carries.{acknowledged_carries, beside_carries, forgotten_carries, resent_carries, ins_carry, offers_carry, outs_carry, passed_carries, passes_of_others_carry, sends_of_others_carry, start_carries, time_carries}
use Rattle.rina_dif_law.proofs.Linkless.{failed_carries, lost_carries}
use Rattle.rina_dif_law.proofs.laws.what_was_got_has_come.Goals as goal

pub returns-clause-start : goal.returns-clause-start
returns-clause-start c = start_carries

pub returns-clause-send : goal.returns-clause-send
returns-clause-send c = offers_carry

pub returns-clause-pass : goal.returns-clause-pass
returns-clause-pass c = passed_carries

pub returns-clause-out : goal.returns-clause-out
returns-clause-out c = outs_carry

pub returns-clause-in_ : goal.returns-clause-in_
returns-clause-in_ c = ins_carry

pub returns-clause-time : goal.returns-clause-time
returns-clause-time c = time_carries

pub returns-clause-beside : goal.returns-clause-beside
returns-clause-beside c = beside_carries

pub returns-clause-others_send : goal.returns-clause-others_send
returns-clause-others_send c = sends_of_others_carry

pub returns-clause-others_pass : goal.returns-clause-others_pass
returns-clause-others_pass c = passes_of_others_carry

pub returns-clause-acknowledge : goal.returns-clause-acknowledge
returns-clause-acknowledge c = acknowledged_carries

pub returns-clause-resend : goal.returns-clause-resend
returns-clause-resend c = resent_carries

pub returns-clause-forget : goal.returns-clause-forget
returns-clause-forget c = forgotten_carries

pub returns-clause-end : goal.returns-clause-end
returns-clause-end c = ended_carries

pub returns-clause-lose : goal.returns-clause-lose
returns-clause-lose c = lost_carries

pub returns-clause-fail : goal.returns-clause-fail
returns-clause-fail c = failed_carries
