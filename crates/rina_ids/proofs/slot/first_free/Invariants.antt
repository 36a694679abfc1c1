-- None of those that were looked at is free.
use Rattle.rina_ids.specs.Ids.{AllHeld}
use Rattle.rina_ids.proofs.slot.first_free.Given as goal

abbrev pub invariant-loop-at : goal.invariant-loop-at
invariant-loop-at l = AllHeld l.tick l.slots l.from l.at
