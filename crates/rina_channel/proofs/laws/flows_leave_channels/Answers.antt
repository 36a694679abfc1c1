use Rattle.rina_channel.proofs.Noting.{noting_leaves_links}
use Rattle.rina_channel.proofs.Frame.{other_pdus_stand}
use Rattle.rina_channel.proofs.Leaving.{acknowledging_leaves, ending_leaves, failing_leaves, forgetting_leaves, losing_leaves, passes_leave, resending_leaves, sends_leave, settling_leaves}
use Rattle.rina_channel.proofs.laws.flows_leave_channels.Goals as goal

pub returns-clause-stand : goal.returns-clause-stand
returns-clause-stand c = other_pdus_stand

pub returns-clause-send : goal.returns-clause-send
returns-clause-send c = sends_leave

pub returns-clause-pass : goal.returns-clause-pass
returns-clause-pass c = passes_leave

pub returns-clause-settle : goal.returns-clause-settle
returns-clause-settle c = λ d lines i member process at hop end d' lines' is s. settling_leaves d lines i member process at hop d' lines' is end s

pub returns-clause-acknowledge : goal.returns-clause-acknowledge
returns-clause-acknowledge c = acknowledging_leaves

pub returns-clause-resend : goal.returns-clause-resend
returns-clause-resend c = resending_leaves

pub returns-clause-forget : goal.returns-clause-forget
returns-clause-forget c = forgetting_leaves

pub returns-clause-end : goal.returns-clause-end
returns-clause-end c = ending_leaves

pub returns-clause-fail : goal.returns-clause-fail
returns-clause-fail c = failing_leaves

pub returns-clause-lose : goal.returns-clause-lose
returns-clause-lose c = losing_leaves

pub returns-clause-note : goal.returns-clause-note
returns-clause-note c = noting_leaves_links
