use Rattle.std.proofs.Common.{◌≡◌, length, All}
use Rattle.rina_dtp.specs.Shelf.{HasRoomOf, IsUnused}
use Rattle.rina_dtp.proofs.shelf.make_places.Given as goal

abbrev pub invariant-loop-made : goal.invariant-loop-made
invariant-loop-made l = (length l.places.items ≡ l.made) × All (HasRoomOf l.piece) l.places.items × All IsUnused l.places.items
