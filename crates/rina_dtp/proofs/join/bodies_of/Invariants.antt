use Rattle.std.proofs.Common.{◌≡◌, map, take}
use Rattle.rina_dtp.specs.Slots.{Waiting}
use Rattle.rina_dtp.proofs.join.bodies_of.Given as goal

abbrev pub invariant-loop-slot : goal.invariant-loop-slot
invariant-loop-slot l = l.bodies ≡ map (λ (w : Waiting). w.bytes) (take l.slot-index l.slots)
