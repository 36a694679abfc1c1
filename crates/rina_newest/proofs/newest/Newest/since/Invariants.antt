-- The items so far are those from the place on, and so many are still to be left out.
use Rattle.std.proofs.Common.{◌≡◌, ◌-◌, drop, take}
use Rattle.std.specs.Map.{values_of}
use Rattle.rina_newest.proofs.newest.Newest.since.Given as goal

abbrev pub invariant-loop-item : goal.invariant-loop-item
invariant-loop-item l = (l.items ≡ drop l.place (values_of (take l.item-index l.item-items))) × (l.before ≡ l.place - l.item-index)
