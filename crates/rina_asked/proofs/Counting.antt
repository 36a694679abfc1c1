-- Sums over lists of which little changed.
use Rattle.std.proofs.Common.{◌≡◌, ◌∙◌, ℕ, zero, suc, ◌+◌, ◌≤◌, Bool, cond, List, [], ◌∷◌, ◌++◌, Contains, drop, filter, length, slice_get, slice_set, Option, Some, None, refl, sym, ap, subst, arith, map, ⊎_elim}
use Rattle.std.specs.Prelude.{find, position, remove}
use Rattle.std.specs.List.{position_or_len, sum_by}
use Rattle.std.proofs.Math.Nat.{le_refl}
use Rattle.std.proofs.lemmas.Bool.{cases_Bool, lt-ltb}
use Rattle.std.proofs.lemmas.List.Folds.{find_at}
use Rattle.std.proofs.lemmas.List.Sums.{sum_by-append, sum_by-cons}
use Rattle.std.proofs.lemmas.Option.{none-some, same_Some, slice_get_within}
use Rattle.rina_agent.specs.Agenda.{without_at}
use Rattle.rina_route.proofs.Lists.{cases, head, in_none, tail}

module _ {X : Type 0} (F : X → ℕ) where
  pub sum_more : (xs ys : List X) → sum_by F (xs ++ ys) ≡ sum_by F xs + sum_by F ys
  sum_more xs ys = sum_by-append F xs ys

  pub sum_push : (xs : List X) (y : X) → sum_by F (xs ++ y ∷ []) ≡ sum_by F xs + F y
  sum_push xs y = (let more = sum_by-append F xs (y ∷ []) in omega (arith, more))

  pub sum_none : (xs : List X) → ((x : X) → Contains xs x → F x ≡ 0) → sum_by F xs ≡ 0
  sum_none [] none = refl
  sum_none (x ∷ xs) none = (let here = none x (head x xs) in let rest = sum_none xs (λ y has. none y (tail x xs y has)) in let whole = sum_by-cons F x xs in omega (arith, here, rest, whole))

  pub sum_filter : (p : X → Bool) (xs : List X) → sum_by F (filter p xs) ≤ sum_by F xs
  sum_filter p [] = omega arith
  sum_filter p (x ∷ xs) =
      let rest = sum_filter p xs in
      let whole = sum_by-cons F x xs in
      ⊎_elim
      (λ keeps. (let is : sum_by F (filter p (x ∷ xs)) ≡ sum_by F (x ∷ filter p xs) = rw keeps refl in let more = sum_by-cons F x (filter p xs) in omega (arith, rest, whole, is, more)))
      (λ drops. (let is : sum_by F (filter p (x ∷ xs)) ≡ sum_by F (filter p xs) = rw drops refl in omega (arith, rest, whole, is)))
      (cases_Bool (p x))

  sum_removed : (xs : List X) (at : ℕ) → sum_by F (remove xs at) ≤ sum_by F xs
  sum_removed [] zero = le_refl (sum_by F [])
  sum_removed [] (suc at) = le_refl (sum_by F [])
  sum_removed (x ∷ xs) zero = (let whole = sum_by-cons F x xs in omega (arith, whole))
  sum_removed (x ∷ xs) (suc at) = (let rest = sum_removed xs at in let whole = sum_by-cons F x xs in let now = sum_by-cons F x (remove xs at) in omega (arith, rest, whole, now))

  pub sum_without : (o : Option ℕ) (xs : List X) → sum_by F (without_at o xs) ≤ sum_by F xs
  sum_without None xs = omega arith
  sum_without (Some at) xs = sum_removed xs at

  sum_taken : (xs : List X) (k : ℕ) (x : X) → slice_get xs k ≡ Some x → sum_by F (remove xs k) + F x ≡ sum_by F xs
  sum_taken [] k x is = absurd (none-some x is)
  sum_taken (z ∷ zs) zero x is = (let same : F z ≡ F x = ap F (same_Some z x is) in let whole = sum_by-cons F z zs in omega (arith, same, whole))
  sum_taken (z ∷ zs) (suc k) x is = (let rest = sum_taken zs k x is in let whole = sum_by-cons F z zs in let now = sum_by-cons F z (remove zs k) in omega (arith, rest, whole, now))

  -- without the first that passes
  pub sum_first : (p : X → Bool) (xs : List X) (x : X) → find p xs ≡ Some x → sum_by F (without_at (position p xs) xs) + F x ≡ sum_by F xs
  sum_first p xs x is =
      let k : ℕ = position_or_len p xs in
      let at : slice_get xs k ≡ Some x = sym (find_at p xs) ∙ is in
      let place : position p xs ≡ Some k = ap (λ (b : Bool). cond b (Some k) None) (lt-ltb k (length xs) (slice_get_within xs k x at)) in
      subst (λ (o : Option ℕ). sum_by F (without_at o xs) + F x ≡ sum_by F xs) (sym place) (sum_taken xs k x at)

  pub sum_set : (xs : List X) (i : ℕ) (x y : X) → slice_get xs i ≡ Some x → sum_by F (slice_set xs i y) + F x ≡ sum_by F xs + F y
  sum_set [] i x y is = absurd (none-some x is)
  sum_set (z ∷ zs) zero x y is = (let same : F z ≡ F x = ap F (same_Some z x is) in let whole = sum_by-cons F z zs in let now = sum_by-cons F y zs in omega (arith, same, whole, now))
  sum_set (z ∷ zs) (suc i) x y is = (let rest = sum_set zs i x y is in let whole = sum_by-cons F z zs in let now = sum_by-cons F z (slice_set zs i y) in omega (arith, rest, whole, now))

  pub sum_drop : (m n : ℕ) (xs : List X) → m ≤ n → sum_by F (drop n xs) ≤ sum_by F (drop m xs)
  sum_drop zero zero xs le = le_refl (sum_by F xs)
  sum_drop zero (suc n) [] le = le_refl (sum_by F [])
  sum_drop zero (suc n) (x ∷ xs) le = (let rest = sum_drop zero n xs (omega arith) in let whole = sum_by-cons F x xs in omega (arith, rest, whole))
  sum_drop (suc m) zero xs le = absurd (omega (arith, le))
  sum_drop (suc m) (suc n) [] le = le_refl (sum_by F [])
  sum_drop (suc m) (suc n) (x ∷ xs) le = sum_drop m n xs (omega (arith, le))

  -- where each of the old elements stands there still, as heavy as before
  abbrev pub StandOn : List X → List X → Type 0
  StandOn old new = (i : ℕ) (x : X) → slice_get old i ≡ Some x → (y : X) × (slice_get new i ≡ Some y) × (F y ≡ F x)

  pub sum_same : (old new : List X) → length new ≡ length old → StandOn old new → sum_by F new ≡ sum_by F old
  sum_same [] [] long stands = refl
  sum_same [] (y ∷ ys) long stands = absurd (omega (arith, long))
  sum_same (x ∷ xs) [] long stands = absurd (omega (arith, long))
  sum_same (x ∷ xs) (y ∷ ys) long stands =
      let s = stands zero x refl in
      let same : F y ≡ F x = ap F (same_Some y s.0 s.1) ∙ s.2 in
      let rest = sum_same xs ys (omega (arith, long)) (λ i z is. stands (suc i) z is) in
      let whole = sum_by-cons F x xs in
      let now = sum_by-cons F y ys in
      omega (arith, same, rest, whole, now)

-- and where each is at least as heavy there, be there more behind them
pub sum_rises : {X : Type 0} (F : X → ℕ) (old new : List X) → ((i : ℕ) (x : X) → slice_get old i ≡ Some x → (y : X) × (slice_get new i ≡ Some y) × (F x ≤ F y)) → sum_by F old ≤ sum_by F new
sum_rises F [] new stands = omega arith
sum_rises F (x ∷ xs) [] stands = absurd (let s = stands zero x refl in none-some s.0 s.1)
sum_rises F (x ∷ xs) (y ∷ ys) stands =
    let s = stands zero x refl in
    let same : F y ≡ F s.0 = ap F (same_Some y s.0 s.1) in
    let more = s.2 in
    let rest = sum_rises F xs ys (λ i z is. stands (suc i) z is) in
    let whole = sum_by-cons F x xs in
    let now = sum_by-cons F y ys in
    omega (arith, same, more, rest, whole, now)

-- through a map
pub sum_map : {X Y : Type 0} (F : Y → ℕ) (f : X → Y) (xs : List X) → sum_by (λ (x : X). F (f x)) xs ≡ sum_by F (map f xs)
sum_map F f [] = refl
sum_map F f (x ∷ xs) = (let rest = sum_map F f xs in let whole = sum_by-cons (λ z. F (f z)) x xs in let now = sum_by-cons F (f x) (map f xs) in omega (arith, rest, whole, now))

pub sum_mapped : {X : Type 0} (F : X → ℕ) (f : X → X) → ((x : X) → F (f x) ≡ F x) → (xs : List X) → sum_by F (map f xs) ≤ sum_by F xs
sum_mapped F f same [] = le_refl (sum_by F [])
sum_mapped F f same (x ∷ xs) = (let here = same x in let rest = sum_mapped F f same xs in let whole = sum_by-cons F x xs in let now = sum_by-cons F (f x) (map f xs) in omega (arith, here, rest, whole, now))

-- what is there counts
pub sum_has : {X : Type 0} (F : X → ℕ) (xs : List X) (x : X) → Contains xs x → F x ≤ sum_by F xs
sum_has F [] x has = absurd (in_none x has)
sum_has F (y ∷ ys) x has =
    let whole = sum_by-cons F y ys in
    ⊎_elim (λ same. (let here : F y ≡ F x = ap F same in omega (arith, here, whole))) (λ more. (let rest = sum_has F ys x more in omega (arith, rest, whole))) (cases y ys x has)

pub sum_at : {X : Type 0} (F : X → ℕ) (xs : List X) (k : ℕ) (x : X) → slice_get xs k ≡ Some x → F x ≤ sum_by F xs
sum_at F [] k x is = absurd (none-some x is)
sum_at F (z ∷ zs) zero x is = (let same : F z ≡ F x = ap F (same_Some z x is) in let whole = sum_by-cons F z zs in omega (arith, same, whole))
sum_at F (z ∷ zs) (suc k) x is = (let rest = sum_at F zs k x is in let whole = sum_by-cons F z zs in omega (arith, rest, whole))

-- and what counts nowhere
pub sum_each : {X : Type 0} (F : X → ℕ) (xs : List X) → ((k : ℕ) (x : X) → slice_get xs k ≡ Some x → F x ≡ 0) → sum_by F xs ≡ 0
sum_each F [] none = refl
sum_each F (x ∷ xs) none = (let here = none zero x refl in let rest = sum_each F xs (λ k y is. none (suc k) y is) in let whole = sum_by-cons F x xs in omega (arith, here, rest, whole))
