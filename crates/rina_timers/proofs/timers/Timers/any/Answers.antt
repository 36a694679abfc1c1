use Rattle.std.proofs.Common.{arith}
use Rattle.rina_timers.proofs.Placing.{some_due}
use Rattle.rina_timers.proofs.timers.Timers.any.Goals as goal

pub returns-then-at-now-clause-due : goal.returns-then-at-now-clause-due
returns-then-at-now-clause-due c =
    let placed = rw c.deref.ensures.value at c.advance-self-inside.ensures.placed in
    let tick = rw c.deref-2.ensures.value at c.tick_of-at.ensures in
    rw (← c.self.view_is) (some_due _ _ _ c.args.now placed c.in_ok-id.id c.in_ok-id.ensures (omega (arith, tick, c.if-at-now.true)))
