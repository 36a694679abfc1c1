use Rattle.rina_dtcp.proofs.Standing.{idle_row}
use Rattle.rina_dtcp.proofs.tx.Tx.idle.Goals as goal

pub returns : goal.returns
returns c = idle_row c.args.self.now c.has_no_unacked.result c.has_no_unacked.ensures
