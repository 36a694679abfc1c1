-- Lists with two elements more.
use Rattle.std.proofs.Common.{◌≡◌, ℕ, zero, suc, ◌+◌, ◌⊎◌, List, [], ◌∷◌, ◌++◌, length, length-append, slice_get, Some, refl, sym, ◌∙◌, ap, arith, inl, inr}
use Rattle.std.proofs.lemmas.Option.{slice_get_within}

pub two_at : {X : Type 0} → (xs : List X) (y z : X) (i : ℕ) (x : X) → slice_get (xs ++ y ∷ z ∷ []) i ≡ Some x → (slice_get xs i ≡ Some x) ⊎ (((i ≡ length xs) × (x ≡ y)) ⊎ ((i ≡ suc (length xs)) × (x ≡ z)))
two_at [] y z zero x h = inr (inl (refl, cc))
two_at [] y z (suc zero) x h = inr (inr (refl, cc))
two_at [] y z (suc (suc i)) x h = cc
two_at (w ∷ ws) y z zero x h = inl h
two_at (w ∷ ws) y z (suc i) x h = elim (two_at ws y z i x h) [
  | inl o ↦ inl o
  | inr (inl a) ↦ inr (inl (ap suc a.0, a.1))
  | inr (inr b) ↦ inr (inr (ap suc b.0, b.1))
]

pub first_at : {X : Type 0} → (xs : List X) (y z : X) → slice_get (xs ++ y ∷ z ∷ []) (length xs) ≡ Some y
first_at [] y z = refl
first_at (w ∷ ws) y z = first_at ws y z

pub second_at : {X : Type 0} → (xs : List X) (y z : X) → slice_get (xs ++ y ∷ z ∷ []) (suc (length xs)) ≡ Some z
second_at [] y z = refl
second_at (w ∷ ws) y z = second_at ws y z

-- lists of one length: where one has an old element, so has the other, and so with the new ones
pub old_beside : {X Y : Type 0} → (xs : List X) (ys : List Y) (u v : Y) (i : ℕ) (x : X) (w : Y) → length ys ≡ length xs → slice_get xs i ≡ Some x → slice_get (ys ++ u ∷ v ∷ []) i ≡ Some w → slice_get ys i ≡ Some w
old_beside xs ys u v i x w same h g = elim (two_at ys u v i w g) [
  | inl o ↦ o
  | inr (inl a) ↦ (let lt = slice_get_within xs i x h in let at = a.0 in absurd (omega (arith, lt, at, same)))
  | inr (inr b) ↦ (let lt = slice_get_within xs i x h in let at = b.0 in absurd (omega (arith, lt, at, same)))
]

pub first_beside : {X Y : Type 0} → (xs : List X) (ys : List Y) (u v : Y) (i : ℕ) (w : Y) → length ys ≡ length xs → i ≡ length xs → slice_get (ys ++ u ∷ v ∷ []) i ≡ Some w → w ≡ u
first_beside xs ys u v i w same at g = elim (two_at ys u v i w g) [
  | inl o ↦ (let lt = slice_get_within ys i w o in absurd (omega (arith, lt, at, same)))
  | inr (inl a) ↦ a.1
  | inr (inr b) ↦ (let is = b.0 in absurd (omega (arith, is, at, same)))
]

pub second_beside : {X Y : Type 0} → (xs : List X) (ys : List Y) (u v : Y) (i : ℕ) (w : Y) → length ys ≡ length xs → i ≡ suc (length xs) → slice_get (ys ++ u ∷ v ∷ []) i ≡ Some w → w ≡ v
second_beside xs ys u v i w same at g = elim (two_at ys u v i w g) [
  | inl o ↦ (let lt = slice_get_within ys i w o in absurd (omega (arith, lt, at, same)))
  | inr (inl a) ↦ (let is = a.0 in absurd (omega (arith, is, at, same)))
  | inr (inr b) ↦ b.1
]

pub two_long : {X Y : Type 0} → (xs : List X) (ys : List Y) (u v : X) (w z : Y) → length xs ≡ length ys → length (xs ++ u ∷ v ∷ []) ≡ length (ys ++ w ∷ z ∷ [])
two_long xs ys u v w z same = length-append xs (u ∷ v ∷ []) ∙ ap (λ (n : ℕ). n + 2) same ∙ sym (length-append ys (w ∷ z ∷ []))
