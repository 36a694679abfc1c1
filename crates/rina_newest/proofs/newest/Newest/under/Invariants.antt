-- The items so far are those whose keys begin with the text.
use Rattle.std.proofs.Common.{◌≡◌, map, take}
use Rattle.std.specs.Map.{values_of}
use Rattle.rina_newest.specs.Newest.{items_under}
use Rattle.rina_newest.proofs.newest.Newest.under.Given as goal

abbrev pub invariant-loop-item : goal.invariant-loop-item
invariant-loop-item l = map (λ x. x.now) l.found.items ≡ items_under l.text (values_of (take l.item-index l.item-items))
