-- Lists with one element more.
use Rattle.std.proofs.Common.{◌≡◌, ℕ, zero, suc, ◌+◌, ◌⊎◌, List, [], ◌∷◌, ◌++◌, length, length-append, slice_get, Some, refl, sym, ◌∙◌, ap, arith, inl, inr}
use Rattle.std.proofs.lemmas.Option.{slice_get_within}

pub one_at : {X : Type 0} → (xs : List X) (y : X) (i : ℕ) (x : X) → slice_get (xs ++ y ∷ []) i ≡ Some x → (slice_get xs i ≡ Some x) ⊎ ((i ≡ length xs) × (x ≡ y))
one_at [] y zero x h = inr (refl, cc)
one_at [] y (suc i) x h = cc
one_at (w ∷ ws) y zero x h = inl h
one_at (w ∷ ws) y (suc i) x h = elim (one_at ws y i x h) [
  | inl o ↦ inl o
  | inr a ↦ inr (ap suc a.0, a.1)
]

pub end_at_last : {X : Type 0} → (xs : List X) (y : X) → slice_get (xs ++ y ∷ []) (length xs) ≡ Some y
end_at_last [] y = refl
end_at_last (w ∷ ws) y = end_at_last ws y

-- lists of one length: where one has an old element, so has the other, and so with the new one
pub kept_beside : {X Y : Type 0} → (xs : List X) (ys : List Y) (u : Y) (i : ℕ) (x : X) (w : Y) → length ys ≡ length xs → slice_get xs i ≡ Some x → slice_get (ys ++ u ∷ []) i ≡ Some w → slice_get ys i ≡ Some w
kept_beside xs ys u i x w same h g = elim (one_at ys u i w g) [
  | inl o ↦ o
  | inr a ↦ (let lt = slice_get_within xs i x h in let at = a.0 in absurd (omega (arith, lt, at, same)))
]

pub last_beside : {X Y : Type 0} → (xs : List X) (ys : List Y) (u : Y) (i : ℕ) (w : Y) → length ys ≡ length xs → i ≡ length xs → slice_get (ys ++ u ∷ []) i ≡ Some w → w ≡ u
last_beside xs ys u i w same at g = elim (one_at ys u i w g) [
  | inl o ↦ (let lt = slice_get_within ys i w o in absurd (omega (arith, lt, at, same)))
  | inr a ↦ a.1
]

pub one_long : {X Y : Type 0} → (xs : List X) (ys : List Y) (u : X) (w : Y) → length xs ≡ length ys → length (xs ++ u ∷ []) ≡ length (ys ++ w ∷ [])
one_long xs ys u w same = length-append xs (u ∷ []) ∙ ap (λ (n : ℕ). n + 1) same ∙ sym (length-append ys (w ∷ []))
