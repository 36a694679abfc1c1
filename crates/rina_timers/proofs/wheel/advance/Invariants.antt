use Rattle.std.proofs.Common.{◌-◌}
use Rattle.rina_timers.specs.Wheel.{IsPlaced}
use Rattle.rina_timers.proofs.wheel.advance.Given as goal

abbrev pub invariant-loop-chain : goal.invariant-loop-chain
invariant-loop-chain l = IsPlaced l.times l.chains l.reached

abbrev pub decreases-loop-chain : goal.decreases-loop-chain
decreases-loop-chain l = l.now - l.reached
