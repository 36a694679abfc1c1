use Rattle.std.proofs.Common.{arith}
use Rattle.rina_dif.proofs.Clocked.{quiet_at, quiet_without}
use Rattle.rina_dif.proofs.dif.Dif.is_quiet_at.Goals as goal

pub returns-then-at-len : goal.returns-then-at-len
returns-then-at-len c = λ told.
    let count = c.len.ensures in
    let past = c.if-at-len.true in
    quiet_without c.args.self.now c.args.node c.args.at (omega (arith, count, past))

pub returns : goal.returns
returns c = λ told.
    quiet_at c.args.self.now c.args.node c.args.at c.is_due_at.result c.is_due_at-else-is_due_at.result c.is_due_at-else-is_due_at-2.result c.is_due_at-else-is_due_at-3.result c.is_due_at.ensures c.is_due_at-else-is_due_at.ensures c.is_due_at-else-is_due_at-2.ensures c.is_due_at-else-is_due_at-3.ensures c.if-is_due_at.false c.if-is_due_at-2.false c.if-is_due_at-3.false c.if-is_due_at-4.false
