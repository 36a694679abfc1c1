-- So far these items were told.
use Rattle.std.proofs.Common.{◌≡◌, take}
use Rattle.std.specs.List.{fold}
use Rattle.rina_member.specs.Objects.{item_told}
use Rattle.rina_member.proofs.objects.tell_items.Given as goal

abbrev pub invariant-loop-item : goal.invariant-loop-item
invariant-loop-item l = l.rib ≡ fold item_told l.fn.rib (take l.item-index l.items)
