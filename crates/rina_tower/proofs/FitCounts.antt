-- How many there are, list by list.
use Rattle.std.proofs.Common.{◌≡◌, ◌≢◌, ℕ, zero, suc, ◌+◌, ◌≤◌, ◌<◌, ◌∙◌, cond, Bool, true, false, List, [], ◌∷◌, ◌++◌, length, length-append, map, slice_get, get_or, take, Some, Option, ◌⊎◌, nat_lt, inl, inr, refl, sym, ap, subst, arith}
use Rattle.std.specs.Prelude.{count_by, flat_map, sum_by}
use Rattle.std.specs.List.{range_with_len}
use Rattle.std.proofs.lemmas.List.{append_assoc}
use Rattle.std.proofs.lemmas.List.Sums.{count_by_more_yes, sum_by-append, sum_by-cons, sum_by-take-le}
use Rattle.std.proofs.lemmas.Bool.Decides.{eqb_tells, nat_tests}
use Rattle.std.proofs.lemmas.Option.{get_or_from_slice_get, slice_get_within}

-- 1 where it holds
abbrev pub one_if : Bool → ℕ
one_if b = cond b 1 0

pub count_cons : {X : Type 0} (p : X → Bool) (x : X) (xs : List X) → count_by p (x ∷ xs) ≡ one_if (p x) + count_by p xs
count_cons p x xs = sum_by-cons (λ y. one_if (p y)) x xs

pub count_append : {X : Type 0} (p : X → Bool) (xs ys : List X) → count_by p (xs ++ ys) ≡ count_by p xs + count_by p ys
count_append p xs ys = sum_by-append (λ y. one_if (p y)) xs ys

-- of lists in a row
pub count_flat : {X Y : Type 0} (p : Y → Bool) (g : X → List Y) (xs : List X) → count_by p (flat_map g xs) ≡ sum_by (λ x. count_by p (g x)) xs
count_flat p g [] = refl
count_flat p g (x ∷ xs) =
    let front : count_by p (g x ++ flat_map g xs) ≡ count_by p (g x) + count_by p (flat_map g xs) = count_append p (g x) (flat_map g xs) in
    let rest : count_by p (flat_map g xs) ≡ sum_by (λ y. count_by p (g y)) xs = count_flat p g xs in
    let whole : sum_by (λ y. count_by p (g y)) (x ∷ xs) ≡ count_by p (g x) + sum_by (λ y. count_by p (g y)) xs = sum_by-cons (λ y. count_by p (g y)) x xs in
    front ∙ (ap (λ n. count_by p (g x) + n) rest ∙ sym whole)

-- of the images, where each that counts is the image of one that counts
pub count_map : {X Y : Type 0} (p : Y → Bool) (q : X → Bool) (f : X → Y) (xs : List X) → ((k : ℕ) (x : X) → slice_get xs k ≡ Some x → p (f x) ≡ true → q x ≡ true) → count_by p (map f xs) ≤ count_by q xs
count_map p q f [] each = omega arith
count_map p q f (x ∷ xs) each =
    let one : one_if (p (f x)) ≤ one_if (q x) = elim (p (f x)) as (λ b. (b ≡ true → q x ≡ true) → one_if b ≤ one_if (q x)) [
      | true ↦ λ h. rw (h refl) (omega arith)
      | false ↦ λ h. omega arith
    ] (each 0 x refl) in
    let rest : count_by p (map f xs) ≤ count_by q xs = count_map p q f xs (λ k y h. each (suc k) y h) in
    omega (arith, one, rest, count_cons p (f x) (map f xs), count_cons q x xs)

-- none of the images counts
pub count_none : {X Y : Type 0} (p : Y → Bool) (f : X → Y) (xs : List X) → ((x : X) → p (f x) ≡ false) → count_by p (map f xs) ≡ 0
count_none p f [] each = refl
count_none p f (x ∷ xs) each =
    let one : one_if (p (f x)) ≡ 0 = ap one_if (each x) in
    let rest : count_by p (map f xs) ≡ 0 = count_none p f xs each in
    count_cons p (f x) (map f xs) ∙ omega (arith, one, rest)

-- a sum over the places of a list
at_end : {X : Type 0} (ys : List X) (z : X) (zs : List X) → slice_get (ys ++ z ∷ zs) (length ys) ≡ Some z
at_end [] z zs = refl
at_end (y ∷ ys) z zs = at_end ys z zs

over_from : {X : Type 0} (g : Option X → ℕ) (ys zs : List X) → sum_by (λ j. g (slice_get (ys ++ zs) j)) (range_with_len (length ys) (length zs)) ≡ sum_by (λ z. g (Some z)) zs
over_from g ys [] = refl
over_from g ys (z ∷ zs) =
    let moved : ys ++ z ∷ zs ≡ (ys ++ z ∷ []) ++ zs = sym (append_assoc ys (z ∷ []) zs) in
    let longer : length (ys ++ z ∷ []) ≡ length ys + 1 = length-append ys (z ∷ []) in
    let rest : sum_by (λ j. g (slice_get (ys ++ z ∷ zs) j)) (range_with_len (length ys + 1) (length zs)) ≡ sum_by (λ y. g (Some y)) zs =
    subst (λ (xs : List _). sum_by (λ j. g (slice_get xs j)) (range_with_len (length ys + 1) (length zs)) ≡ sum_by (λ y. g (Some y)) zs) (sym moved) (subst (λ (n : ℕ). sum_by (λ j. g (slice_get ((ys ++ z ∷ []) ++ zs) j)) (range_with_len n (length zs)) ≡ sum_by (λ y. g (Some y)) zs) longer (over_from g (ys ++ z ∷ []) zs)) in
    let split : sum_by (λ j. g (slice_get (ys ++ z ∷ zs) j)) (length ys ∷ range_with_len (length ys + 1) (length zs)) ≡ g (slice_get (ys ++ z ∷ zs) (length ys)) + sum_by (λ j. g (slice_get (ys ++ z ∷ zs) j)) (range_with_len (length ys + 1) (length zs)) = sum_by-cons (λ j. g (slice_get (ys ++ z ∷ zs) j)) (length ys) (range_with_len (length ys + 1) (length zs)) in
    let here : g (slice_get (ys ++ z ∷ zs) (length ys)) ≡ g (Some z) = ap g (at_end ys z zs) in
    let whole : sum_by (λ y. g (Some y)) (z ∷ zs) ≡ g (Some z) + sum_by (λ y. g (Some y)) zs = sum_by-cons (λ y. g (Some y)) z zs in
    omega (arith, split, here, rest, whole)

pub over_places : {X : Type 0} (g : Option X → ℕ) (xs : List X) → sum_by (λ j. g (slice_get xs j)) (range_with_len 0 (length xs)) ≡ sum_by (λ z. g (Some z)) xs
over_places g xs = over_from g [] xs

-- a sum of which only one place counts
sum_none : (f : ℕ → ℕ) (i a n : ℕ) → ((j : ℕ) → j ≢ i → f j ≡ 0) → i < a → sum_by f (range_with_len a n) ≡ 0
sum_none f i a zero others past = refl
sum_none f i a (suc n) others past =
    let here : f a ≡ 0 = others a (λ e. omega (arith, e, past)) in
    let rest : sum_by f (range_with_len (a + 1) n) ≡ 0 = sum_none f i (a + 1) n others (omega (arith, past)) in
    sum_by-cons f a (range_with_len (a + 1) n) ∙ omega (arith, here, rest)

pub sum_only : (f : ℕ → ℕ) (i a n : ℕ) → ((j : ℕ) → j ≢ i → f j ≡ 0) → sum_by f (range_with_len a n) ≤ f i
sum_only f i a zero others = omega arith
sum_only f i a (suc n) others = elim (eqb_tells a i) [
  | inl t ↦ let here : f a ≡ f i = ap f t.1 in
      let rest : sum_by f (range_with_len (a + 1) n) ≡ 0 = sum_none f i (a + 1) n others (let e = t.1 in omega (arith, e)) in
      omega (arith, here, rest, sum_by-cons f a (range_with_len (a + 1) n))
  | inr u ↦ let here : f a ≡ 0 = others a u.1 in
      let rest : sum_by f (range_with_len (a + 1) n) ≤ f i = sum_only f i (a + 1) n others in
      omega (arith, here, rest, sum_by-cons f a (range_with_len (a + 1) n))
]

-- how many come before a place tells the place, among those that count
take_within : {X : Type 0} (xs : List X) (k i : ℕ) → k ≤ i → take k (take i xs) ≡ take k xs
take_within xs zero i le = refl
take_within [] (suc k) zero le = absurd (omega (arith, le))
take_within [] (suc k) (suc i) le = refl
take_within (x ∷ xs) (suc k) zero le = absurd (omega (arith, le))
take_within (x ∷ xs) (suc k) (suc i) le = ap (λ ys. x ∷ ys) (take_within xs k i (omega (arith, le)))

pub count_grows : {X : Type 0} (p : X → Bool) (xs : List X) (j i : ℕ) (x : X) → slice_get xs j ≡ Some x → p x ≡ true → j < i → count_by p (take j xs) < count_by p (take i xs)
count_grows p xs j i x at holds before =
    let within : j < length xs = slice_get_within xs j x at in
    let is : get_or xs j x ≡ x = get_or_from_slice_get xs j x x at in
    let more : count_by p (take (j + 1) xs) ≡ count_by p (take j xs) + 1 = count_by_more_yes p xs j x within (ap p is ∙ holds) in
    let up : count_by p (take (j + 1) (take i xs)) ≤ count_by p (take i xs) = sum_by-take-le (λ y. one_if (p y)) (take i xs) (j + 1) in
    let same : count_by p (take (j + 1) (take i xs)) ≡ count_by p (take (j + 1) xs) = ap (count_by p) (take_within xs (j + 1) i (omega (arith, before))) in
    omega (arith, more, up, same)

below_or : (j i : ℕ) → j ≢ i → (j < i) ⊎ (i < j)
below_or j i ne = elim (nat_lt j i) as (λ b. nat_lt j i ≡ b → (j < i) ⊎ (i < j)) [ true ↦ λ e. inl (grind (arith, nat_tests)) | false ↦ λ e. inr (grind (arith, nat_tests)) ] refl

pub same_place : {X : Type 0} (p : X → Bool) (xs : List X) (j i : ℕ) (x y : X) → slice_get xs j ≡ Some x → slice_get xs i ≡ Some y → p x ≡ true → p y ≡ true → count_by p (take j xs) ≡ count_by p (take i xs) → j ≡ i
same_place p xs j i x y at_j at_i holds_j holds_i same =
    elim (eqb_tells j i) [
      | inl t ↦ t.1
      | inr u ↦ absurd (elim (below_or j i u.1) [
        | inl lt ↦ let g = count_grows p xs j i x at_j holds_j lt in omega (arith, g, same)
        | inr gt ↦ let g = count_grows p xs i j y at_i holds_i gt in omega (arith, g, same)
      ])
    ]
