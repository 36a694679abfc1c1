use Rattle.rina_dtcp.proofs.Standing.{late_row}
use Rattle.rina_dtcp.proofs.tx.Tx.gave_up.Goals as goal

pub returns : goal.returns
returns c = late_row c.args.now c.args.self.now c.least_given_up.result c.least_given_up.ensures
