use Rattle.std.proofs.Common.{◌≡◌, length, All}
use Rattle.rina_dtp.specs.Joins.{HasRoomOf}
use Rattle.rina_dtp.proofs.join.make_slots.Given as goal

abbrev pub invariant-loop-made : goal.invariant-loop-made
invariant-loop-made l = (length l.slots.items ≡ l.made) × All (HasRoomOf l.largest) l.slots.items
