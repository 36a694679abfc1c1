use Rattle.rina_channel.proofs.Kept.{ended_stands, forgotten_stands}
use Rattle.rina_channel.proofs.Putting.{acknowledged_stands, offered_stands, resent_stands}
use Rattle.rina_channel.proofs.laws.rows_keep_channels.Goals as goal

pub returns-clause-offer : goal.returns-clause-offer
returns-clause-offer c = offered_stands

pub returns-clause-acknowledge : goal.returns-clause-acknowledge
returns-clause-acknowledge c = acknowledged_stands

pub returns-clause-resend : goal.returns-clause-resend
returns-clause-resend c = resent_stands

pub returns-clause-forget : goal.returns-clause-forget
returns-clause-forget c = forgotten_stands

pub returns-clause-end : goal.returns-clause-end
returns-clause-end c = ended_stands
