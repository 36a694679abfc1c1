-- Lines that begin with the same fields.
use Rattle.std.specs.Prelude.{◌≡◌, ℕ, zero, suc, List, Option, Some, None}
use Rattle.rina_schedule.specs.Fields.{next_of}

-- two texts end, or have the same first field and then what is told of the rest
abbrev pub BothHave : (List ℕ → List ℕ → Type 0) → Option (List ℕ × List ℕ) → Option (List ℕ × List ℕ) → Type 0
BothHave Rest None None = Unit {0}
BothHave Rest None (Some g) = ⊥
BothHave Rest (Some f) None = ⊥
BothHave Rest (Some f) (Some g) = (f.0 ≡ g.0) × Rest f.1 g.1

-- the first so many fields of two texts are the same, or both end before that with the same fields
abbrev pub SameFields : ℕ → List ℕ → List ℕ → Type 0
SameFields zero a b = Unit {0}
SameFields (suc k) a b = BothHave (λ x y. SameFields k x y) (next_of a) (next_of b)
