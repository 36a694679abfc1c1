-- Drawing several values, one after the other.
use Rattle.std.specs.Prelude.{ℕ, zero, suc, List, [], ◌∷◌, ◌++◌}
use Rattle.rand_pcg.specs.Lcg.{Lcg}

abbrev pub one_more : {X : Type 0} → (Lcg → X × Lcg) → List X × Lcg → List X × Lcg
one_more one before = ((before.0) ++ ((one (before.1)).0) ∷ [], (one (before.1)).1)

-- as many values as a count says, each drawn with the number of those before it, and the generator after them
abbrev pub several : {X : Type 0} → (ℕ → Lcg → X × Lcg) → ℕ → Lcg → List X × Lcg
several one zero g = ([], g)
several one (suc n) g = one_more (one n) (several one n g)
