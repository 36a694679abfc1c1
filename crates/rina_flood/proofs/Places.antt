-- What stands in lists, and one place of a map.
use Rattle.std.proofs.Common.{◌≡◌, ℕ, suc, ◌⊎◌, Bool, true, false, ◌==◌, cond, List, ◌∷◌, Contains, length, arith, refl, sym, ◌∙◌, ap, subst, inl, inr, [], ◌≤◌, drop, zero, slice_get}
use Rattle.std.specs.Prelude.{flat_map, position, nat_lt, Option, Some, None, option_map, ◌+◌}
use Rattle.std.specs.List.{position_or_len}
use Rattle.std.proofs.lemmas.Bool.{cases_Bool, and_parts, eqb-true, eq-eqb, both_ways}
use Rattle.std.proofs.lemmas.Option.{none-some, same_Some}
use Rattle.std.proofs.lemmas.List.Elements.{Contains-append_left, Contains-append_right, Contains-append_cases, Contains-push, Contains-push_cases}
use Rattle.rina_agent.specs.Agenda.{without_at}
use Rattle.rina_flood.specs.Network.{Side, Near, Far, other, is_side, is_direction}

pub nothing_in : {X : Type 0} (x : X) → Contains [] x → ⊥
nothing_in x e = omega (arith, e.1)

pub in_cons : {X : Type 0} (y : X) (ys : List X) (x : X) → Contains (y ∷ ys) x → (y ≡ x) ⊎ Contains ys x
in_cons y ys x e = elim (Contains-append_cases (y ∷ []) ys x e) [
  | inl a ↦ elim (Contains-push_cases [] y x a) [
    | inl z ↦ absurd (nothing_in x z)
    | inr is ↦ inl is
  ]
  | inr b ↦ inr b
]

pub in_one : {X : Type 0} (y x : X) → Contains (y ∷ []) x → y ≡ x
in_one y x e = elim (in_cons y [] x e) [ inl is ↦ is | inr z ↦ absurd (nothing_in x z) ]

pub in_first : {X : Type 0} (y : X) (ys : List X) → Contains (y ∷ ys) y
in_first y ys = Contains-append_left (y ∷ []) ys y (Contains-push [] y)

pub in_rest : {X : Type 0} (y : X) (ys : List X) (x : X) → Contains ys x → Contains (y ∷ ys) x
in_rest y ys x e = Contains-append_right (y ∷ []) ys x e

-- what one of the messages has, and the other way round
pub flat_in : {X Y : Type 0} (f : X → List Y) (xs : List X) (x : X) (y : Y) → Contains xs x → Contains (f x) y → Contains (flat_map f xs) y
flat_in f [] x y e has = absurd (nothing_in x e)
flat_in {X} {Y} f (z ∷ xs) x y e has = elim (in_cons z xs x e) [
  | inl is ↦ (let P : X → Type 0 = λ w. Contains (f w) y in Contains-append_left (f z) (flat_map f xs) y (subst P (sym is) has))
  | inr rest ↦ Contains-append_right (f z) (flat_map f xs) y (flat_in f xs x y rest has)
]

pub flat_from : {X Y : Type 0} (f : X → List Y) (xs : List X) (y : Y) → Contains (flat_map f xs) y → (x : X) × Contains xs x × Contains (f x) y
flat_from f [] y e = absurd (nothing_in y e)
flat_from f (z ∷ xs) y e = elim (Contains-append_cases (f z) (flat_map f xs) y e) [
  | inl a ↦ (z, in_first z xs, a)
  | inr b ↦ (let r = flat_from f xs y b in (r.0, in_rest z xs r.0 r.1, r.2))
]

-- one place of a map
pub put_case : {X : Type 0} (P : X → Type 0) (j i : ℕ) (b a : X) → (j ≡ i → P b) → ((j ≡ i → ⊥) → P a) → P (cond (j == i) b a)
put_case P j i b a here apart = elim (cases_Bool (j == i)) [
  | inl e ↦ rw e (here (eqb-true j i e))
  | inr e ↦ rw e (apart (λ is. both_ways (j == i) e (eq-eqb j i is)))
]

pub is_equal : {X : Type 0} (j i : ℕ) (b a : X) → j ≡ i → cond (j == i) b a ≡ b
is_equal j i b a is = (let e = eq-eqb j i is in rw e refl)

side_is : (a b : Side) → is_side a b ≡ true → b ≡ a
side_is Near Near e = refl
side_is Near Far e = absurd (cc)
side_is Far Near e = absurd (cc)
side_is Far Far e = refl

pub side_itself : (a : Side) → is_side a a ≡ true
side_itself Near = refl
side_itself Far = refl

pub other_back : (d : Side) → other (other d) ≡ d
other_back Near = refl
other_back Far = refl

pub direction_itself : (link : ℕ) (side : Side) (l : ℕ) (d : Side) → l ≡ link → d ≡ side → is_direction link side l d ≡ true
direction_itself link side l d a b =
    let P : Side → Type 0 = λ t. is_direction link side l t ≡ true in
    let e = eq-eqb l link a in
    subst P (sym b) (rw (e, side_itself side) refl)

-- one direction
pub direction_case : {X : Type 0} (P : X → Type 0) (link : ℕ) (side : Side) (l : ℕ) (d : Side) (b a : X) → (l ≡ link → d ≡ side → P b) → (((l ≡ link) × (d ≡ side) → ⊥) → P a) → P (cond (is_direction link side l d) b a)
direction_case P link side l d b a here apart = elim (cases_Bool (is_direction link side l d)) [
  | inl e ↦ (let both = and_parts _ _ e in rw e (here (eqb-true l link both.0) (side_is side d both.1)))
  | inr e ↦ rw e (apart (λ is. both_ways (is_direction link side l d) e (direction_itself link side l d is.0 is.1)))
]

pub same_direction : (link : ℕ) (side : Side) (l : ℕ) (d : Side) → ((l ≡ link) × (d ≡ side)) ⊎ ((l ≡ link) × (d ≡ side) → ⊥)
same_direction link side l d = direction_case {X = Bool} (λ b. ((l ≡ link) × (d ≡ side)) ⊎ ((l ≡ link) × (d ≡ side) → ⊥)) link side l d true true (λ a b. inl (a, b)) (λ apart. inr apart)

-- The first that passes a test is taken out

step_up : (k n : ℕ) → cond (nat_lt (1 + k) (suc n)) (Some (1 + k)) None ≡ option_map suc (cond (nat_lt k n) (Some k) None)
step_up k n = elim (cases_Bool (nat_lt k n)) [
  | inl e ↦
      (let more : nat_lt (1 + k) (suc n) ≡ true = grind (arith, e) in
      let same : 1 + k ≡ suc k = omega arith in
      rw (e, more) (ap Some same))
  | inr e ↦ (let more : nat_lt (1 + k) (suc n) ≡ false = grind (arith, e) in rw (e, more) refl)
]

some_there : (n : ℕ) → nat_lt 0 (suc n) ≡ true
some_there n = grind arith

remove_more : {X : Type 0} (x : X) (xs : List X) (o : Option ℕ) → without_at (option_map suc o) (x ∷ xs) ≡ x ∷ without_at o xs
remove_more x xs None = refl
remove_more x xs (Some i) = refl

pub without_cons : {X : Type 0} (p : X → Bool) (x : X) (xs : List X) → without_at (position p (x ∷ xs)) (x ∷ xs) ≡ cond (p x) xs (x ∷ without_at (position p xs) xs)
without_cons p x xs = elim (cases_Bool (p x)) [
  | inl is ↦ (let there = some_there (length xs) in rw (is, there) refl)
  | inr isnt ↦ rw isnt (ap (λ (o : Option ℕ). without_at o (x ∷ xs)) (step_up (position_or_len p xs) (length xs)) ∙ remove_more x xs (position p xs))
]

pub position_cons : {X : Type 0} (p : X → Bool) (x : X) (xs : List X) → position p (x ∷ xs) ≡ cond (p x) (Some 0) (option_map suc (position p xs))
position_cons p x xs = elim (cases_Bool (p x)) [
  | inl is ↦ (let there = some_there (length xs) in rw (is, there) refl)
  | inr isnt ↦ rw isnt (step_up (position_or_len p xs) (length xs))
]

-- What stands from a place on

pub past_all : {X : Type 0} (xs : List X) (k : ℕ) → length xs ≤ k → drop k xs ≡ []
past_all [] zero le = refl
past_all [] (suc k) le = refl
past_all (x ∷ xs) zero le = absurd (omega (arith, le))
past_all (x ∷ xs) (suc k) le = past_all xs k (omega (arith, le))

pub drop_at : {X : Type 0} (xs : List X) (k : ℕ) (x : X) → slice_get xs k ≡ Some x → drop k xs ≡ x ∷ drop (suc k) xs
drop_at [] k x is = absurd (none-some x is)
drop_at (y ∷ xs) zero x is = ap (λ z. z ∷ xs) (same_Some y x is)
drop_at (y ∷ xs) (suc k) x is = drop_at xs k x is
