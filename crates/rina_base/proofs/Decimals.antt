-- A number that is printed in decimal is read again, and what is read is in range.
use Rattle.std.proofs.Common.{◌≡◌, ℕ, ◌+◌, ◌-◌, ◌*◌, ◌/◌, ◌%◌, ◌^◌, ◌<◌, ◌≤◌, Bool, true, false, cond, eqb, leb, ◌&&◌, List, [], ◌∷◌, ◌++◌, length, Some, None, refl, ap, ◌∙◌, append_assoc, arith}
use Rattle.std.specs.Fmt.{decimal}
use Rattle.std.proofs.lemmas.Bool.{and_parts, and_from, le-leb, leb-true, ne_eqb}
use Rattle.std.proofs.lemmas.List.{append-nil}
use Rattle.std.proofs.lemmas.Option.{same_Some}
use Rattle.std.proofs.lemmas.Fmt.{decimal_by_steps, decimal_nonempty}
use Rattle.rina_base.specs.Decimals.{is_digit, decimal_from, decimal_of}

pub a_digit : (n : ℕ) → n < 10 → is_digit (48 + n) ≡ true
unfolding is_digit
a_digit n lt = and_from (leb 48 (48 + n)) (leb (48 + n) 57) (le-leb 48 (48 + n) (omega arith)) (le-leb (48 + n) 57 (omega arith))

one_digit : (max n d : ℕ) (rest : List ℕ) → d < 10 → n * 10 + d ≤ max → decimal_from max n ((48 + d) ∷ rest) ≡ decimal_from max (n * 10 + d) rest
unfolding decimal_from
one_digit max n d rest small fits =
    let same : 48 + d - 48 ≡ d = omega arith in
    rw (same, a_digit d small, le-leb (n * 10 + d) max fits) refl

-- the digits of a number are read as the number
pub digits_read : (max n : ℕ) → n < 2 ^ 64 → n ≤ max → (rest : List ℕ) → decimal_from max 0 (decimal n ++ rest) ≡ decimal_from max n rest
digits_read max n lt = decimal_by_steps (λ n ds. n ≤ max → (rest : List ℕ) → decimal_from max 0 (ds ++ rest) ≡ decimal_from max n rest) one more n lt
  where
    one : (n : ℕ) → n < 10 → n ≤ max → (rest : List ℕ) → decimal_from max 0 (((48 + n) ∷ []) ++ rest) ≡ decimal_from max n rest
    one n small fits rest = one_digit max 0 n rest small (omega arith) ∙ ap (λ (k : ℕ). decimal_from max k rest) (omega arith)

    more : (n : ℕ) (ds : List ℕ) → 10 ≤ n → (n / 10 ≤ max → (rest : List ℕ) → decimal_from max 0 (ds ++ rest) ≡ decimal_from max (n / 10) rest) → n ≤ max → (rest : List ℕ) → decimal_from max 0 ((ds ++ ((48 + n % 10) ∷ [])) ++ rest) ≡ decimal_from max n rest
    more n ds le h fits rest =
        let whole : n / 10 * 10 + n % 10 ≡ n = omega arith in
        ap (decimal_from max 0) (append_assoc ds ((48 + n % 10) ∷ []) rest) ∙ h (omega arith) ((48 + n % 10) ∷ rest)
        ∙ one_digit max (n / 10) (n % 10) rest (omega arith) (omega arith) ∙ ap (λ (k : ℕ). decimal_from max k rest) whole

-- what is printed is read
pub decimal_back : (max n : ℕ) → n < 2 ^ 64 → n ≤ max → decimal_of max (decimal n) ≡ Some n
unfolding decimal_of decimal_from
decimal_back max n lt fits =
    let some = decimal_nonempty n lt in
    let read : decimal_from max 0 (decimal n ++ []) ≡ Some n = digits_read max n lt fits [] in
    rw (ne_eqb (length (decimal n)) 0 (λ e. omega arith)) (rw append-nil at read)

in_range : (max m : ℕ) (text : List ℕ) (n : ℕ) → m ≤ max → decimal_from max m text ≡ Some n → n ≤ max
unfolding decimal_from
in_range max m [] n fits e = (let same : m ≡ n = same_Some m n e in omega arith)
in_range max m (b ∷ text) n fits e = by_test (λ k le h. in_range max k text n le h) (is_digit b && leb (m * 10 + (b - 48)) max) refl e
  where
    by_test : ((k : ℕ) → k ≤ max → decimal_from max k text ≡ Some n → n ≤ max) → (c : Bool) → (is_digit b && leb (m * 10 + (b - 48)) max) ≡ c
        → cond c (decimal_from max (m * 10 + (b - 48)) text) None ≡ Some n → n ≤ max
    by_test again true t e = again (m * 10 + (b - 48)) (leb-true _ _ (and_parts (is_digit b) (leb (m * 10 + (b - 48)) max) t).1) e
    by_test again false t e = absurd cc

-- what is read is in range
pub decimal_fits : (max : ℕ) (text : List ℕ) (n : ℕ) → decimal_of max text ≡ Some n → n ≤ max
unfolding decimal_of
decimal_fits max text n e = by_test (eqb (length text) 0) e
  where
    by_test : (c : Bool) → cond c None (decimal_from max 0 text) ≡ Some n → n ≤ max
    by_test true e = absurd cc
    by_test false e = in_range max 0 text n (omega arith) e

-- a text that is read has digits, which are read from nought
pub decimal_inside : (max : ℕ) (text : List ℕ) (n : ℕ) → decimal_of max text ≡ Some n → decimal_from max 0 text ≡ Some n
unfolding decimal_of
decimal_inside max text n e = by_test (eqb (length text) 0) e
  where
    by_test : (c : Bool) → cond c None (decimal_from max 0 text) ≡ Some n → decimal_from max 0 text ≡ Some n
    by_test true e = absurd cc
    by_test false e = e
