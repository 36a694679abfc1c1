use Rattle.rina_channel.proofs.Arriving.{acks_stand, passes_stand, pieces_stand}
use Rattle.rina_channel.proofs.Coming.{coming_is_awaited, coming_is_covered}
use Rattle.rina_channel.proofs.Received.{taking_on_links_is_lawful, taking_on_links_stands}
use Rattle.rina_channel.proofs.laws.arrivals_keep_channels.Goals as goal

pub returns-clause-awaited : goal.returns-clause-awaited
returns-clause-awaited c = coming_is_awaited

pub returns-clause-piece : goal.returns-clause-piece
returns-clause-piece c = pieces_stand

pub returns-clause-ack : goal.returns-clause-ack
returns-clause-ack c = acks_stand

pub returns-clause-pass : goal.returns-clause-pass
returns-clause-pass c = passes_stand

pub returns-clause-covered : goal.returns-clause-covered
returns-clause-covered c = coming_is_covered

pub returns-clause-take : goal.returns-clause-take
returns-clause-take c = taking_on_links_stands

pub returns-clause-lawful : goal.returns-clause-lawful
returns-clause-lawful c = taking_on_links_is_lawful
