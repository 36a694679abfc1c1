-- The entries so far were copied.
use Rattle.std.proofs.Common.{◌≡◌, take}
use Rattle.rina_newest.proofs.newest.items_copy.Given as goal

abbrev pub invariant-loop-at : goal.invariant-loop-at
invariant-loop-at l = l.copied.items ≡ take l.at-index l.items
