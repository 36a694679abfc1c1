-- One flow of a list changes.
use Rattle.std.proofs.Common.{◌≡◌, ℕ, zero, suc, ◌⊎◌, List, [], ◌∷◌, ◌++◌, length, slice_get, Some, None, refl, sym, ◌∙◌, ap, subst, inl, inr}
use Rattle.std.proofs.lemmas.Bool.{cases_eq}
use Rattle.std.proofs.lemmas.Option.{none-some, same_Some}
use Rattle.rina_rest.specs.Flows.{Flow}
use Rattle.rina_rest.specs.Ledger.{put}

-- the list has x at i, and elsewhere what it had
pub record IsChanged (flows flows' : List Flow) (i : ℕ) (x : Flow) : Type 0 where
  pub at : slice_get flows' i ≡ Some x
  pub others : (j : ℕ) → (j ≡ i → ⊥) → slice_get flows' j ≡ slice_get flows j

put_at : (flows : List Flow) (i : ℕ) (f x : Flow) → slice_get flows i ≡ Some f → slice_get (put i x flows) i ≡ Some x
put_at [] i f x e = absurd (none-some f e)
put_at (g ∷ flows) zero f x e = refl
put_at (g ∷ flows) (suc i) f x e = put_at flows i f x e

put_others : (flows : List Flow) (i : ℕ) (x : Flow) (j : ℕ) → (j ≡ i → ⊥) → slice_get (put i x flows) j ≡ slice_get flows j
put_others [] i x j ne = refl
put_others (g ∷ flows) zero x zero ne = absurd (ne refl)
put_others (g ∷ flows) zero x (suc j) ne = refl
put_others (g ∷ flows) (suc i) x zero ne = refl
put_others (g ∷ flows) (suc i) x (suc j) ne = put_others flows i x j (λ e. ne (ap suc e))

pub put_changed : (flows : List Flow) (i : ℕ) (f x : Flow) → slice_get flows i ≡ Some f → IsChanged flows (put i x flows) i x
put_changed flows i f x e = record { at = put_at flows i f x e; others = put_others flows i x }

push_at : (flows : List Flow) (x : Flow) → slice_get (flows ++ x ∷ []) (length flows) ≡ Some x
push_at [] x = refl
push_at (g ∷ flows) x = push_at flows x

push_others : (flows : List Flow) (x : Flow) (j : ℕ) → (j ≡ length flows → ⊥) → slice_get (flows ++ x ∷ []) j ≡ slice_get flows j
push_others [] x zero ne = absurd (ne refl)
push_others [] x (suc j) ne = refl
push_others (g ∷ flows) x zero ne = refl
push_others (g ∷ flows) x (suc j) ne = push_others flows x j (λ e. ne (ap suc e))

pub push_changed : (flows : List Flow) (x : Flow) → IsChanged flows (flows ++ x ∷ []) (length flows) x
push_changed flows x = record { at = push_at flows x; others = push_others flows x }

pub past_none : (flows : List Flow) → slice_get flows (length flows) ≡ None
past_none [] = refl
past_none (g ∷ flows) = past_none flows

pub same_flow : (flows : List Flow) (i j : ℕ) (f g : Flow) → i ≡ j → slice_get flows i ≡ Some f → slice_get flows j ≡ Some g → f ≡ g
same_flow flows i j f g e x y =
    let P : ℕ → Type 0 = λ k. slice_get flows k ≡ Some g in
    same_Some f g (sym x ∙ subst P (sym e) y)

-- a flow of the new list is x at i, or an old one elsewhere
pub new_or_old : (flows flows' : List Flow) (i : ℕ) (x : Flow) (j : ℕ) (g : Flow) → IsChanged flows flows' i x → slice_get flows' j ≡ Some g → ((j ≡ i) × (x ≡ g)) ⊎ ((j ≡ i → ⊥) × (slice_get flows j ≡ Some g))
new_or_old flows flows' i x j g changed e = elim (cases_eq j i) [
  | inl same ↦ inl (same, same_flow flows' i j x g (sym same) changed.at e)
  | inr ne ↦ inr (ne, sym (changed.others j ne) ∙ e)
]
