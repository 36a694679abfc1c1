use Rattle.std.proofs.Common.{◌∙◌, ap}
use Rattle.rina_dtcp.specs.Senders.{raised}
use Rattle.rina_dtcp.proofs.Standing.{told_row}
use Rattle.rina_dtcp.proofs.tx.Tx.on_control.Goals as goal

pub returns : goal.returns
returns c = told_row c.args.ack c.args.right c.args.self.now c.raise_edge.new.self (c.raise_edge.ensures ∙ ap (raised c.args.right) c.drop_acknowledged.ensures)
