-- The bound is at most the end of each rest that was looked at.
use Rattle.rina_ids.specs.Ids.{IsLowest}
use Rattle.rina_ids.proofs.slot.bound_of.Given as goal

abbrev pub invariant-loop-at : goal.invariant-loop-at
invariant-loop-at l = IsLowest l.bound l.slots l.from l.at
