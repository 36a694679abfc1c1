use Rattle.std.proofs.Common.{rules}
use Rattle.rina_dtcp.proofs.Standing.{has_due_row}
use Rattle.rina_dtcp.proofs.tx.Tx.has_due.Goals as goal

pub returns-clause-machine : goal.returns-clause-machine
returns-clause-machine c = has_due_row c.args.now c.args.self.now c.is_some.result (search rules)
