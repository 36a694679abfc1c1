-- Numbers in decimal.
use Rattle.std.proofs.Common.{◌≡◌, ℕ, ◌+◌, ◌≤◌, ◌<◌, ◌^◌, ◌/◌, ◌%◌, List, [], ◌∷◌, ◌++◌, Result, Ok, Err, sym, ap, ◌∙◌, append_assoc}
use Rattle.std.specs.Prelude.{OnOk}
use Rattle.std.specs.Fmt.{decimal}
use Rattle.std.proofs.lemmas.Fmt.{decimal_step}

-- the last digit was added behind those of a tenth
pub last_digit : {E : Type 0} (r : Result (Unit {0}) E) (old mid new : List ℕ) (n : ℕ) → 10 ≤ n → n < 2 ^ 64 → mid ≡ old ++ decimal (n / 10)
    → OnOk r (new ≡ mid ++ (48 + n % 10) ∷ []) → OnOk r (new ≡ old ++ decimal n)
last_digit (Ok _) old mid new n large fits tenth last =
    last ∙ ap (λ (x : List ℕ). x ++ (48 + n % 10) ∷ []) tenth ∙ append_assoc old (decimal (n / 10)) ((48 + n % 10) ∷ []) ∙ ap (λ (x : List ℕ). old ++ x) (sym (decimal_step n large fits))
last_digit (Err _) old mid new n large fits tenth last = tt
