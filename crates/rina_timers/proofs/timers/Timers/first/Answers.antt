use Rattle.std.proofs.Common.{arith}
use Rattle.rina_timers.proofs.Placing.{is_due, not_due}
use Rattle.rina_timers.proofs.timers.Timers.first.Goals as goal
use Rattle.rina_timers.proofs.timers.Timers.first.Goals.{then-tick_of-now, else-tick_of-now}

pub returns-clause-due : goal.returns-clause-due
returns-clause-due c =
    let placed = rw c.deref.ensures.value at c.advance-self-inside.ensures.placed in
    let earliest = rw c.deref-2.ensures.value at c.in_ok-id.ensures in
    let tick = rw c.deref-3.ensures.value at c.tick_of.ensures in
    rw (← c.self.view_is) (elim c.if-tick_of-now.branch [
      | then-tick_of-now w ↦ rw w.result-is (is_due _ _ _ c.args.now placed c.in_ok-id.id earliest (omega (arith, tick, w.if-tick_of-now.true)))
      | else-tick_of-now w ↦ rw w.result-is (not_due _ _ _ c.args.now placed c.in_ok-id.id earliest (omega (arith, tick, w.if-tick_of-now.false)))
    ])
