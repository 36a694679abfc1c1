-- A numeral is what is printed of its number.
use Rattle.std.proofs.Common.{◌≡◌, ℕ, ◌+◌, ◌-◌, ◌*◌, ◌^◌, ◌<◌, ◌≤◌, Bool, true, false, not, cond, eqb, leb, ◌&&◌, List, [], ◌∷◌, length, get_or, Some, None, inl, inr, refl, sym, ap, ◌∙◌, arith}
use Rattle.std.specs.List.{list_all}
use Rattle.std.specs.Fmt.{decimal}
use Rattle.std.proofs.lemmas.Bool.{and_parts, and_from, or_right, le-leb, leb-true, ne_eqb, cases_lt, eq-eqb, false≢true}
use Rattle.std.proofs.lemmas.Option.{same_Some}
use Rattle.std.proofs.lemmas.Fmt.{decimal_digit, first_decimal, decimal_nonempty, decimal-digits_value}
use Rattle.std.proofs.lemmas.Str.Parse.{IsDigitsTest, FoldsDigits, numerals_by_fold}
use Rattle.rina_base.specs.Decimals.{is_digit, decimal_from, decimal_of}
use Rattle.rina_base.proofs.Decimals.{decimal_back, decimal_inside}
use Rattle.rina_report.specs.Fields.{is_numeral, numeral_of}

-- ---- what is printed is read

numeral_first : (ds : List ℕ) → 0 < length ds → 48 < get_or ds 0 0 → is_numeral ds ≡ true
unfolding is_numeral
numeral_first [] some large = absurd (omega arith)
numeral_first (b ∷ ds) some large = or_right (eqb (length ds) 0) (not (eqb b 48)) (rw (ne_eqb b 48 (λ e. omega arith)) refl)

decimal_numeral : (n : ℕ) → n < 2 ^ 64 → is_numeral (decimal n) ≡ true
unfolding is_numeral
decimal_numeral n lt =
    elim (cases_lt n 10) [
      | inl small ↦ rw (decimal_digit n small) refl
      | inr large ↦ numeral_first (decimal n) (decimal_nonempty n lt) (first_decimal n (omega arith) lt)
    ]

pub numeral_back : (max n : ℕ) → n < 2 ^ 64 → n ≤ max → numeral_of max (decimal n) ≡ Some n
unfolding numeral_of
numeral_back max n lt fits = rw (decimal_numeral n lt) (decimal_back max n lt fits)

-- ---- what is read is printed so

value : ℕ → List ℕ → ℕ
value n [] = n
value n (b ∷ text) = value (n * 10 + (b - 48)) text

abbrev AreDigits : List ℕ → Type 0
AreDigits text = list_all is_digit text ≡ true

tells : IsDigitsTest AreDigits
unfolding is_digit
tells = record {
  empty = refl;
  parts = λ c cs h. (let p = and_parts (is_digit c) (list_all is_digit cs) h in let q = and_parts (leb 48 c) (leb c 57) p.0 in ((leb-true 48 c q.0, leb-true c 57 q.1), p.1));
  more = λ c cs r h. and_from (is_digit c) (list_all is_digit cs) (and_from (leb 48 c) (leb c 57) (le-leb 48 c (omega arith)) (le-leb c 57 (omega arith))) h;
}

folds : FoldsDigits value
unfolding value
folds = record { empty = λ n. refl; more = λ n c cs r. refl }

record Valued (max n : ℕ) (text : List ℕ) (x : ℕ) : Type 0 where
  digits : AreDigits text
  same : value n text ≡ x
  fits : x ≤ max

valued : (max n : ℕ) (text : List ℕ) (x : ℕ) → n ≤ max → decimal_from max n text ≡ Some x → Valued max n text x
unfolding decimal_from value
valued max n [] x le e = (let same : n ≡ x = same_Some n x e in record { digits = refl; same = same; fits = omega arith })
valued max n (b ∷ text) x le e = by_test (λ m le h. valued max m text x le h) (is_digit b && leb (n * 10 + (b - 48)) max) refl e
  where
    by_test : ((m : ℕ) → m ≤ max → decimal_from max m text ≡ Some x → Valued max m text x) → (c : Bool) → (is_digit b && leb (n * 10 + (b - 48)) max) ≡ c
        → cond c (decimal_from max (n * 10 + (b - 48)) text) None ≡ Some x → Valued max n (b ∷ text) x
    by_test again true t e =
        let p = and_parts (is_digit b) (leb (n * 10 + (b - 48)) max) t in
        let v = again (n * 10 + (b - 48)) (leb-true _ _ p.1) e in
        record { digits = and_from (is_digit b) (list_all is_digit text) p.0 v.digits; same = v.same; fits = v.fits }
    by_test again false t e = absurd cc

-- a numeral that begins with a zero is that zero
alone : (text : List ℕ) → is_numeral text ≡ true → (0 < length text) × (get_or text 0 0 ≡ 48 → length text ≡ 1)
unfolding is_numeral
alone [] h = absurd cc
alone (b ∷ []) h = (omega arith, λ e. refl)
alone (b ∷ c ∷ text) h = (omega arith, λ e. absurd (no_zero (rw (ne_eqb (length (c ∷ text)) 0 (λ e. omega arith)) at h) e))
  where
    no_zero : not (eqb b 48) ≡ true → b ≡ 48 → ⊥
    no_zero h e = false≢true (ap not (sym (eq-eqb b 48 e)) ∙ h)

pub numeral_is : (max : ℕ) (text : List ℕ) (x : ℕ) → max < 2 ^ 64 → numeral_of max text ≡ Some x → (text ≡ decimal x) × (x ≤ max)
unfolding numeral_of
numeral_is max text x small e = by_test (is_numeral text) refl e
  where
    by_test : (c : Bool) → is_numeral text ≡ c → cond c (decimal_of max text) None ≡ Some x → (text ≡ decimal x) × (x ≤ max)
    by_test true t e =
        let v = valued max 0 text x (omega arith) (decimal_inside max text x e) in
        let a = alone text t in
        let printed : decimal (value 0 text) ≡ text = decimal-digits_value (numerals_by_fold AreDigits tells value folds) text v.digits a.0 a.1 (rw v.same (omega (arith, v.fits))) in
        (sym printed ∙ ap decimal v.same, v.fits)
    by_test false t e = absurd cc
