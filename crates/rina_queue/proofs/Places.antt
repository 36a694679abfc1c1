-- Where a test holds in a list: first, and at the places that it keeps.
use Rattle.std.proofs.Common.{◌≡◌, ◌∙◌, ℕ, ◌+◌, ◌<◌, zero, suc, Bool, true, false, cond, List, [], ◌∷◌, filter, position, Some, slice_get, refl, sym, ap, subst, arith}
use Rattle.std.specs.List.{position_from}
use Rattle.std.proofs.lemmas.Iterator.Adapters.{position_from-zero}

-- an element at a place of a list passes the test
pub record PassesAt {X : Type 0} (p : X → Bool) (xs : List X) (place : ℕ) (x : X) : Type 0 where
  pub stands : slice_get xs place ≡ Some x
  pub passes : p x ≡ true

-- the test fails before
abbrev pub FailsBefore : {X : Type 0} → (X → Bool) → List X → ℕ → Type 0
FailsBefore p xs k = (j : ℕ) (y : _) → j < k → slice_get xs j ≡ Some y → p y ≡ false

from_first : {X : Type 0} (p : X → Bool) (n : ℕ) (xs : List X) (k : ℕ) (x : X) → PassesAt p xs k x → FailsBefore p xs k → position_from p n xs ≡ Some (n + k)
from_first p n [] k x at before = absurd (let e = at.stands in cc)
from_first p n (y ∷ ys) zero x at before =
    let same : y ≡ x = let e = at.stands in cc in
    let passes : p y ≡ true = ap p same ∙ at.passes in
    rw passes (ap (λ m. Some m) (omega arith))
from_first p n (y ∷ ys) (suc k) x at before =
    let fails : p y ≡ false = before 0 y (omega arith) refl in
    let rest = from_first p (n + 1) ys k x (record { stands = at.stands; passes = at.passes }) (λ j z lt e. before (suc j) z (omega (arith, lt)) e) in
    rw fails (rest ∙ ap (λ m. Some m) (omega arith))

-- a test that holds at a place and not before holds there first
pub first_at : {X : Type 0} (p : X → Bool) (xs : List X) (k : ℕ) (x : X) → slice_get xs k ≡ Some x → p x ≡ true → FailsBefore p xs k → position p xs ≡ Some k
first_at p xs k x stands passes before =
    position_from-zero p xs ∙ from_first p 0 xs k x (record { stands = stands; passes = passes }) before ∙ ap (λ m. Some m) (omega arith)

pub record IsFrom {X : Type 0} (p : X → Bool) (n : ℕ) (xs : List X) (k : ℕ) : Type 0 where
  pub place : ℕ
  pub item : X
  pub at : PassesAt p xs place item
  pub is : k ≡ n + place

from_found : {X : Type 0} (p : X → Bool) (n : ℕ) (xs : List X) (k : ℕ) → position_from p n xs ≡ Some k → IsFrom p n xs k
from_found p n [] k e = absurd cc
from_found p n (x ∷ xs) k e =
    elim (p x) as (λ b. p x ≡ b → cond b (Some n) (position_from p (n + 1) xs) ≡ Some k → IsFrom p n (x ∷ xs) k) [
      | true ↦ λ passes h. record { place = 0; item = x; at = record { stands = refl; passes = passes }; is = let same : n ≡ k = cc in omega (arith, same) }
      | false ↦ λ fails h.
          let rest = from_found p (n + 1) xs k h in
          record { place = suc rest.place; item = rest.item; at = record { stands = rest.at.stands; passes = rest.at.passes }; is = omega (arith, rest.is) }
    ] refl e

-- where a test holds first, it holds
pub first_passes : {X : Type 0} (p : X → Bool) (xs : List X) (k : ℕ) → position p xs ≡ Some k → (x : X) × PassesAt p xs k x
first_passes p xs k e =
    let found = from_found p 0 xs k (sym (position_from-zero p xs) ∙ e) in
    let same : found.place ≡ k = omega (arith, found.is) in
    (found.item, subst (λ m. PassesAt p xs m found.item) same found.at)

-- what passes a test stands in the whole list, and passes
pub kept_at : {X : Type 0} (p : X → Bool) (xs : List X) (j : ℕ) (x : X) → slice_get (filter p xs) j ≡ Some x → (k : ℕ) × PassesAt p xs k x
kept_at p [] j x e = absurd cc
kept_at p (y ∷ ys) j x e =
    elim (p y) as (λ b. p y ≡ b → slice_get (cond b (y ∷ filter p ys) (filter p ys)) j ≡ Some x → (k : ℕ) × PassesAt p (y ∷ ys) k x) [
      | true ↦ λ passes h.
          elim j as (λ m. slice_get (y ∷ filter p ys) m ≡ Some x → (k : ℕ) × PassesAt p (y ∷ ys) k x) [
            | zero ↦ λ g. (0, record { stands = g; passes = let same : y ≡ x = cc in ap p (sym same) ∙ passes })
            | suc m ↦ λ g. let rest = kept_at p ys m x g in (suc rest.0, record { stands = rest.1.stands; passes = rest.1.passes })
          ] h
      | false ↦ λ fails h. let rest = kept_at p ys j x h in (suc rest.0, record { stands = rest.1.stands; passes = rest.1.passes })
    ] refl e
