-- No id of the blocks that were looked at is free.
use Rattle.std.proofs.Common.{◌*◌}
use Rattle.rina_ids.specs.Ids.{AllHeld}
use Rattle.rina_ids.proofs.slot.free_of_all.Given as goal

abbrev pub invariant-loop-block : goal.invariant-loop-block
invariant-loop-block l = AllHeld l.tick l.slots 0 (64 * l.block)
