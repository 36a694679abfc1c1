use Rattle.rina_timers.proofs.Placing.{spread_ends}
use Rattle.rina_timers.proofs.wheel.spread.Goals as goal

pub returns : goal.returns
returns c = spread_ends _ _ _ _ c.loop-id.invariant c.in_default.ensures
