use Rattle.std.proofs.Common.{arith}
use Rattle.rina_dif.proofs.LinkFirst.{quiet_at, quiet_without}
use Rattle.rina_dif.proofs.dif.Dif.is_link_quiet.Goals as goal

pub returns-then-place-len : goal.returns-then-place-len
returns-then-place-len c = λ told.
    let count = c.len.ensures in
    let past = c.if-place-len.true in
    quiet_without c.args.self.now c.args.place (omega (arith, count, past))

pub returns : goal.returns
returns c = λ told.
    quiet_at c.args.self.now c.args.place c.is_due.result c.is_due-else-is_due.result c.is_due-else-is_due-2.result c.is_due-else-is_due-3.result c.is_due.ensures c.is_due-else-is_due.ensures c.is_due-else-is_due-2.ensures c.is_due-else-is_due-3.ensures c.if-is_due.false c.if-is_due-2.false c.if-is_due-3.false c.if-is_due-4.false
