use Rattle.rina_dif_law.proofs.Finishing.{ended_stands}
use Rattle.rina_dif_law.proofs.Rows.{acknowledged_stands, forgotten_stands, resent_stands}
use Rattle.rina_dif_law.proofs.Coming.{ins_stand}
use Rattle.rina_dif_law.proofs.Giving.{offers_stand}
use Rattle.rina_dif_law.proofs.Going.{outs_stand}
use Rattle.rina_dif_law.proofs.Starting.{start_stands}
use Rattle.rina_dif_law.proofs.Taking.{passed_stands}
use Rattle.rina_dif_law.proofs.Linkless.{failed_stands, lost_stands}
use Rattle.rina_dif_law.proofs.laws.calls_keep_standing.Goals as goal

pub returns-clause-start : goal.returns-clause-start
returns-clause-start c = start_stands

pub returns-clause-send : goal.returns-clause-send
returns-clause-send c = offers_stand

pub returns-clause-pass : goal.returns-clause-pass
returns-clause-pass c = passed_stands

pub returns-clause-out : goal.returns-clause-out
returns-clause-out c = outs_stand

pub returns-clause-in_ : goal.returns-clause-in_
returns-clause-in_ c = ins_stand

pub returns-clause-acknowledge : goal.returns-clause-acknowledge
returns-clause-acknowledge c = acknowledged_stands

pub returns-clause-resend : goal.returns-clause-resend
returns-clause-resend c = resent_stands

pub returns-clause-forget : goal.returns-clause-forget
returns-clause-forget c = forgotten_stands

pub returns-clause-end : goal.returns-clause-end
returns-clause-end c = ended_stands

pub returns-clause-lose : goal.returns-clause-lose
returns-clause-lose c = lost_stands

pub returns-clause-fail : goal.returns-clause-fail
returns-clause-fail c = failed_stands
