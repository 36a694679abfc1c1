-- What stands in a list after one element was changed, and at a port.
use Rattle.std.proofs.Common.{◌≡◌, ◌≢◌, ℕ, zero, suc, ◌+◌, ◌<◌, add-one, arith, drop, get_or, length, map, take, ◌++◌, List, [], ◌∷◌, slice_get, slice_set, Some, None, Option, option_and_then, refl, sym, ◌∙◌, ap, subst, inl, inr, ◌⊎◌, All}
use Rattle.std.proofs.lemmas.Option.{get_or_from_slice_get, same_Some, slice_get-get_or, slice_get_within}
use Rattle.std.proofs.lemmas.Bool.Decides.{eqb_tells}
use Rattle.std.proofs.lemmas.List.Elements.{All-get_or}
use Rattle.rina_base.specs.declared.number.Port.{Port}
use Rattle.rina_iface.specs.declared.ends.End.{End}
use Rattle.rina_iface.specs.Ends.{end_in, place_in}

-- after a write at a place that is there
pub slice_get-set_same : {X : Type 0} (xs : List X) (i : ℕ) (x y : X) → slice_get xs i ≡ Some x → slice_get (slice_set xs i y) i ≡ Some y
slice_get-set_same [] i x y h = cc
slice_get-set_same (z ∷ xs) zero x y h = refl
slice_get-set_same (z ∷ xs) (suc i) x y h = slice_get-set_same xs i x y h

pub slice_get-set_other : {X : Type 0} (xs : List X) (i k : ℕ) (y : X) → k ≢ i → slice_get (slice_set xs i y) k ≡ slice_get xs k
slice_get-set_other [] i k y ne = refl
slice_get-set_other (z ∷ xs) zero zero y ne = absurd (ne refl)
slice_get-set_other (z ∷ xs) zero (suc k) y ne = refl
slice_get-set_other (z ∷ xs) (suc i) zero y ne = refl
slice_get-set_other (z ∷ xs) (suc i) (suc k) y ne = slice_get-set_other xs i k y (λ e. ne (ap suc e))

-- what stands after a write at a place that is there
pub set_at : {X : Type 0} (xs : List X) (i k : ℕ) (x y z : X) → slice_get xs i ≡ Some x → slice_get (slice_set xs i y) k ≡ Some z → ((k ≡ i) × (z ≡ y)) ⊎ ((k ≢ i) × (slice_get xs k ≡ Some z))
set_at xs i k x y z is h = elim (eqb_tells k i) [
  | inl t ↦
      let h' : slice_get (slice_set xs i y) i ≡ Some z = rw t.1 at h in
      let same : Some z ≡ Some y = sym h' ∙ slice_get-set_same xs i x y is in
      inl (t.1, same_Some z y same)
  | inr f ↦ inr (f.1, sym (slice_get-set_other xs i k y f.1) ∙ h)
]

-- what holds of all holds of the one at a place
pub all_at : {X : Type 0} (P : X → Type 0) (xs : List X) (i : ℕ) (x : X) → All P xs → slice_get xs i ≡ Some x → P x
all_at P xs i x all h = subst P (get_or_from_slice_get xs i x x h) (All-get_or P xs i x (slice_get_within xs i x h) all)

-- an end and its place
pub record IsAt (port : Port) (ends : List End) (e : End) : Type 0 where
  pub place : ℕ
  pub found : place_in port ends ≡ Some place
  pub is : slice_get ends place ≡ Some e

at_place : (port : Port) (ends : List End) (e : End) (o : Option ℕ) → place_in port ends ≡ o → option_and_then (λ i. slice_get ends i) o ≡ Some e → IsAt port ends e
at_place port ends e None found h = cc
at_place port ends e (Some i) found h = record { place = i; found = found; is = h }

-- the end of a port has a place
pub end_has_place : (port : Port) (ends : List End) (e : End) → end_in port ends ≡ Some e → IsAt port ends e
end_has_place port ends e h = at_place port ends e (place_in port ends) refl h

-- a write of what stands there
pub slice_set-same : {X : Type 0} (xs : List X) (i : ℕ) (x : X) → slice_get xs i ≡ Some x → slice_set xs i x ≡ xs
slice_set-same [] i x h = refl
slice_set-same (z ∷ xs) zero x h = let same : z ≡ x = cc in rw same refl
slice_set-same (z ∷ xs) (suc i) x h = ap (λ ys. z ∷ ys) (slice_set-same xs i x h)

-- ---- a list of which the first elements were changed

seen_after : {X : Type 0} (f : X → X) (xs : List X) (i : ℕ) → slice_get (map f (take i xs) ++ drop i xs) i ≡ slice_get xs i
seen_after f [] zero = refl
seen_after f [] (suc i) = refl
seen_after f (x ∷ xs) zero = refl
seen_after f (x ∷ xs) (suc i) = seen_after f xs i

set_after : {X : Type 0} (f : X → X) (xs : List X) (i : ℕ) (x : X) → slice_get xs i ≡ Some x → slice_set (map f (take i xs) ++ drop i xs) i (f x) ≡ map f (take (suc i) xs) ++ drop (suc i) xs
set_after f [] i x h = cc
set_after f (y ∷ xs) zero x h = let same : y ≡ x = same_Some y x h in rw same refl
set_after f (y ∷ xs) (suc i) x h = ap (λ zs. f y ∷ zs) (set_after f xs i x h)

-- one more was changed
pub changed_more : {X : Type 0} (f : X → X) (xs now after : List X) (i : ℕ) → i < length xs → now ≡ map f (take i xs) ++ drop i xs → ((x : X) → slice_get now i ≡ Some x → after ≡ slice_set now i (f x)) → after ≡ map f (take (i + 1) xs) ++ drop (i + 1) xs
changed_more f [] now after i lt is step = absurd (omega (arith, lt))
changed_more f (z ∷ zs) now after i lt is step =
    let xs = z ∷ zs in
    let at = slice_get-get_or xs i z lt in
    let seen : slice_get now i ≡ Some (get_or xs i z) = ap (λ ys. slice_get ys i) is ∙ seen_after f xs i ∙ at in
    rw (add-one i) (step (get_or xs i z) seen ∙ ap (λ ys. slice_set ys i (f (get_or xs i z))) is ∙ set_after f xs i (get_or xs i z) at)
