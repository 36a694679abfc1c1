-- A call of a tower that answers anything but `Memory` finds that no allocation failed before it.
use Rattle.std.proofs.Common.{◌≡◌, Bool, true, false, Ok, Err, refl}

-- no allocation of the tower failed before, where what would follow from a failed one does not hold
pub alive : {X : Type 0} (b : Bool) → (b ≡ true → X) → (X → ⊥) → b ≡ false
alive true wanted never = absurd (never (wanted refl))
alive false wanted never = refl

-- an answer is not `Memory`
pub answered : {T E : Type 0} (x : T) (e : E) → Ok x ≡ Err e → ⊥
answered x e h = cc
