-- Words on lists that the machine's definitions use.
use Rattle.std.specs.Prelude.{◌≡◌, ℕ, ◌⊎◌, max, Bool, false, ◌||◌, ◌==◌, List, [], ◌∷◌}

-- x stands somewhere in a list
abbrev pub In : {X : Type 0} → X → List X → Type 0
In x [] = ⊥
In x (y ∷ ys) = (x ≡ y) ⊎ In x ys

-- whether a number stands in a list
abbrev pub has : ℕ → List ℕ → Bool
has n [] = false
has n (k ∷ ks) = (n == k) || has n ks

-- the greatest number of a list, 0 where it is empty
abbrev pub highest : List ℕ → ℕ
highest [] = 0
highest (n ∷ ns) = max n (highest ns)
