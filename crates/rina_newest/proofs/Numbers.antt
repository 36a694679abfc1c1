-- Entries in the rising order of their numbers: the one at an index is the only one of its number.
use Rattle.std.proofs.Common.{◌≡◌, ℕ, ◌<◌, ◌≤◌, zero, suc, List, [], ◌∷◌, ◌++◌, length, get_or, take, drop, Some, None, Result, Ok, Err, MatchOption, ◌+◌, refl, sym, ap, ◌∙◌, arith}
use Rattle.std.specs.Result.{result_ok}
use Rattle.std.specs.List.Sorted.{IsStrictlySortedBy, IsSearchInRange, IsBinarySearchResult, IsNonDecreasingBy}
use Rattle.std.specs.Map.{lookup, remove_entry, keys_of, values_of}
use Rattle.std.specs.Ordering.{nat_cmp, ordering_index}
use Rattle.std.proofs.Math.ListN.{get_or-map}
use Rattle.std.proofs.lemmas.Bool.Decides.{nat_tests}
use Rattle.std.proofs.lemmas.Cmp.{ranked}
use Rattle.std.proofs.lemmas.Grind.{common_steps}
use Rattle.std.proofs.lemmas.List.{map_more}
use Rattle.std.proofs.lemmas.Map.Keys.{below_from_sorted}
use Rattle.rina_newest.specs.Newest.{IsNumbered}
use Rattle.rina_newest.proofs.Index.{Numbered, at, split, at_same, at_itself}

-- ---- the first entry of a number
abbrev NoneBefore : ℕ → Numbered → List Numbered → ℕ → Type 0
NoneBefore s d es i = (k : ℕ) → k < i → (get_or es k d).0 ≡ s → ⊥

lookup_first : (s i : ℕ) (d : Numbered) (es : List Numbered) → i < length es → (get_or es i d).0 ≡ s → NoneBefore s d es i → lookup (at s) es ≡ Some (get_or es i d).1
lookup_first s i d [] within is before = absurd (omega (arith, within))
lookup_first s zero d (e ∷ es) within is before = rw (at_itself s e.0 (sym is)) refl
lookup_first s (suc i) d (e ∷ es) within is before =
    split (at s e.0) (λ yes. absurd (before 0 (omega arith) (sym (at_same s e.0 yes)))) (λ no. rw no (lookup_first s i d es (omega (arith, within)) is (λ k lt. before (suc k) (omega (arith, lt)))))

remove_first : (s i : ℕ) (d : Numbered) (es : List Numbered) → i < length es → (get_or es i d).0 ≡ s → NoneBefore s d es i → remove_entry (at s) es ≡ take i es ++ drop (suc i) es
remove_first s i d [] within is before = absurd (omega (arith, within))
remove_first s zero d (e ∷ es) within is before = rw (at_itself s e.0 (sym is)) refl
remove_first s (suc i) d (e ∷ es) within is before =
    split (at s e.0) (λ yes. absurd (before 0 (omega arith) (sym (at_same s e.0 yes)))) (λ no. rw no (ap (λ (ys : List Numbered). e ∷ ys) (remove_first s i d es (omega (arith, within)) is (λ k lt. before (suc k) (omega (arith, lt))))))

-- ---- no entry of a number
lookup_none : (s : ℕ) (es : List Numbered) → ((k : ℕ) (d : Numbered) → k < length es → (get_or es k d).0 ≡ s → ⊥) → lookup (at s) es ≡ None
lookup_none s [] apart = refl
lookup_none s (e ∷ es) apart =
    split (at s e.0) (λ yes. absurd (apart 0 e (omega arith) (sym (at_same s e.0 yes)))) (λ no. rw no (lookup_none s es (λ k d within. apart (suc k) d (omega (arith, within)))))

pub remove_none : (s : ℕ) (es : List Numbered) → lookup (at s) es ≡ None → remove_entry (at s) es ≡ es
remove_none s [] none = refl
remove_none s (e ∷ es) none =
    split (at s e.0) (λ yes. absurd (grind (arith, none, yes))) (λ no. rw no (ap (λ (ys : List Numbered). e ∷ ys) (remove_none s es (grind (arith, none, no)))))

module _ (es : List Numbered) (rising : IsStrictlySortedBy nat_cmp (keys_of es)) where
  keys_rise : (d : Numbered) (i j : ℕ) → i < j → j < length es → (get_or es i d).0 < (get_or es j d).0
  keys_rise d i j lt within =
      let rise = below_from_sorted (keys_of es) i j d.0 rising lt (grind (arith, common_steps, within)) in
      omega (arith, rise, get_or-map (λ (e : Numbered). e.0) es i d, get_or-map (λ (e : Numbered). e.0) es j d)

  none_before : (s : ℕ) (d : Numbered) (i : ℕ) → i < length es → (get_or es i d).0 ≡ s → NoneBefore s d es i
  none_before s d i within is k lt same = omega (arith, keys_rise d k i lt within, is, same)

  -- the entry at an index is found by its number
  pub lookup_numbered : (s i : ℕ) (d : Numbered) → IsNumbered es s i → lookup (at s) es ≡ Some (get_or es i d).1
  lookup_numbered s i d here = lookup_first s i d es here.0 (here.1 d) (none_before s d i here.0 (here.1 d))

  -- and removed by it
  remove_by : (s i : ℕ) (d : Numbered) → IsNumbered es s i → remove_entry (at s) es ≡ take i es ++ drop (suc i) es
  remove_by s i d here = remove_first s i d es here.0 (here.1 d) (none_before s d i here.0 (here.1 d))

  comparisons_rise : (s : ℕ) → IsNonDecreasingBy (λ e. ordering_index (nat_cmp e.0 s)) es
  comparisons_rise s i j d le within =
      let rise : (get_or es i d).0 ≤ (get_or es j d).0 = grind (arith, keys_rise d i j, λ (same : i ≡ j). ap (λ (k : ℕ). (get_or es k d).0) same) in
      grind (arith, nat_tests)

  -- a binary search for a number ends at its entry, where it has one
  pub searched : (s : ℕ) (r : Result ℕ ℕ) → IsSearchInRange r (length es) → IsBinarySearchResult (λ e. nat_cmp e.0 s) es r → MatchOption (result_ok r) (lookup (at s) es ≡ None) (IsNumbered es s)
  searched s (Ok i) within equal = (within, λ d. ranked _ s _ (sym (equal d)))
  searched s (Err i) within parted =
      lookup_none s es (λ k d lt same.
      let smaller : k < i → (get_or es k d).0 < s = λ before. ranked _ s _ (sym ((parted (comparisons_rise s)).0 k d (omega arith) before)) in
      let greater : i ≤ k → s < (get_or es k d).0 = λ after. ranked _ s _ (sym ((parted (comparisons_rise s)).1 k d after lt)) in
      grind (arith, smaller, greater, same))

pub remove_numbered : (es : List Numbered) → IsStrictlySortedBy nat_cmp (keys_of es) → (s i : ℕ) → IsNumbered es s i → remove_entry (at s) es ≡ take i es ++ drop (suc i) es
remove_numbered [] rising s i here = absurd (omega (arith, here.0))
remove_numbered (e ∷ es) rising s i here = remove_by (e ∷ es) rising s i e here

-- ---- the items of the first entries
pub values_more : (xs : List Numbered) (i : ℕ) (x : Numbered) → i < length xs → x ≡ get_or xs i x → values_of (take (i + 1) xs) ≡ values_of (take i xs) ++ x.1 ∷ []
values_more xs i x within is = map_more (λ (e : Numbered). e.1) xs i x within ∙ ap (λ (e : Numbered). values_of (take i xs) ++ e.1 ∷ []) (sym is)

pub values_taken : (xs : List Numbered) (i : ℕ) → i ≤ length xs → length (values_of (take i xs)) ≡ i
values_taken xs i within = grind (arith, common_steps, within)
