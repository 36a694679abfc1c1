use Rattle.std.specs.List.{sum_by}
use Rattle.rina_timers.specs.Wheel.{IsPlacedBut}
use Rattle.rina_timers.proofs.wheel.spread.Given as goal

abbrev pub invariant-loop-id : goal.invariant-loop-id
invariant-loop-id l = IsPlacedBut l.times l.chains l.clock l.chain

abbrev pub decreases-loop-id : goal.decreases-loop-id
decreases-loop-id l = sum_by (λ c. c) l.chains
