use Rattle.rina_tower.proofs.Timing.{IsHalfway}
use Rattle.rina_tower.proofs.difs.clock.clock_all.Given as goal

-- the clocks of the first are set
abbrev pub invariant-loop-at : goal.invariant-loop-at
invariant-loop-at l = IsHalfway l.at l.now l.fn.difs.items l.difs.items
