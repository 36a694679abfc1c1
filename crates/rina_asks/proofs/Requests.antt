-- One request of a list changes.
use Rattle.std.proofs.Common.{◌≡◌, ℕ, zero, suc, ◌⊎◌, List, [], ◌∷◌, ◌++◌, length, slice_get, Some, None, refl, sym, ◌∙◌, ap, subst, inl, inr}
use Rattle.std.proofs.lemmas.Bool.{cases_eq}
use Rattle.std.proofs.lemmas.Option.{none-some, same_Some}
use Rattle.rina_asks.specs.Allocation.{Request, put_request}

-- the list has x at i, and elsewhere what it had
pub record IsChanged (requests requests' : List Request) (i : ℕ) (x : Request) : Type 0 where
  pub at : slice_get requests' i ≡ Some x
  pub others : (j : ℕ) → (j ≡ i → ⊥) → slice_get requests' j ≡ slice_get requests j

put_at : (requests : List Request) (i : ℕ) (f x : Request) → slice_get requests i ≡ Some f → slice_get (put_request i x requests) i ≡ Some x
put_at [] i f x e = absurd (none-some f e)
put_at (g ∷ requests) zero f x e = refl
put_at (g ∷ requests) (suc i) f x e = put_at requests i f x e

put_others : (requests : List Request) (i : ℕ) (x : Request) (j : ℕ) → (j ≡ i → ⊥) → slice_get (put_request i x requests) j ≡ slice_get requests j
put_others [] i x j ne = refl
put_others (g ∷ requests) zero x zero ne = absurd (ne refl)
put_others (g ∷ requests) zero x (suc j) ne = refl
put_others (g ∷ requests) (suc i) x zero ne = refl
put_others (g ∷ requests) (suc i) x (suc j) ne = put_others requests i x j (λ e. ne (ap suc e))

pub put_changed : (requests : List Request) (i : ℕ) (f x : Request) → slice_get requests i ≡ Some f → IsChanged requests (put_request i x requests) i x
put_changed requests i f x e = record { at = put_at requests i f x e; others = put_others requests i x }

push_at : (requests : List Request) (x : Request) → slice_get (requests ++ x ∷ []) (length requests) ≡ Some x
push_at [] x = refl
push_at (g ∷ requests) x = push_at requests x

push_others : (requests : List Request) (x : Request) (j : ℕ) → (j ≡ length requests → ⊥) → slice_get (requests ++ x ∷ []) j ≡ slice_get requests j
push_others [] x zero ne = absurd (ne refl)
push_others [] x (suc j) ne = refl
push_others (g ∷ requests) x zero ne = refl
push_others (g ∷ requests) x (suc j) ne = push_others requests x j (λ e. ne (ap suc e))

pub push_changed : (requests : List Request) (x : Request) → IsChanged requests (requests ++ x ∷ []) (length requests) x
push_changed requests x = record { at = push_at requests x; others = push_others requests x }

pub past_none : (requests : List Request) → slice_get requests (length requests) ≡ None
past_none [] = refl
past_none (g ∷ requests) = past_none requests

pub same_request : (requests : List Request) (i j : ℕ) (f g : Request) → i ≡ j → slice_get requests i ≡ Some f → slice_get requests j ≡ Some g → f ≡ g
same_request requests i j f g e x y =
    let P : ℕ → Type 0 = λ k. slice_get requests k ≡ Some g in
    same_Some f g (sym x ∙ subst P (sym e) y)

-- a request of the new list is x at i, or an old one elsewhere
pub new_or_old : (requests requests' : List Request) (i : ℕ) (x : Request) (j : ℕ) (g : Request) → IsChanged requests requests' i x → slice_get requests' j ≡ Some g → ((j ≡ i) × (x ≡ g)) ⊎ ((j ≡ i → ⊥) × (slice_get requests j ≡ Some g))
new_or_old requests requests' i x j g changed e = elim (cases_eq j i) [
  | inl same ↦ inl (same, same_request requests' i j x g (sym same) changed.at e)
  | inr ne ↦ inr (ne, sym (changed.others j ne) ∙ e)
]
