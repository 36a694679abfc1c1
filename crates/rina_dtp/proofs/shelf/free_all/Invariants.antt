use Rattle.std.proofs.Common.{ℕ, ◌<◌, All, get_or}
use Rattle.rina_dtp.specs.Shelf.{HasRoomOf, IsUnused, no_place}
use Rattle.rina_dtp.proofs.shelf.free_all.Given as goal

abbrev pub invariant-loop-place : goal.invariant-loop-place
invariant-loop-place l = All (HasRoomOf l.piece) l.place-items × ((k : ℕ) → k < l.place-index → IsUnused (get_or l.place-items k no_place))
