-- Steps that may fail, one after the other, and over a list.
use Rattle.std.specs.Prelude.{ℕ, ◌+◌, List, [], ◌∷◌, Result, Ok, Err}

infixl 10 ◌>>=◌
abbrev pub ◌>>=◌ : {A B E : Type 0} → Result A E → (A → Result B E) → Result B E
(Ok x) >>= f = f x
(Err e) >>= f = Err e

-- what a step makes of each element, which is told its number, or the first error
unfoldable pub traverse : {A B E : Type 0} → (ℕ → A → Result B E) → ℕ → List A → Result (List B) E
traverse f n [] = Ok []
traverse f n (x ∷ xs) = f n x >>= λ y. traverse f (n + 1) xs >>= λ ys. Ok (y ∷ ys)
