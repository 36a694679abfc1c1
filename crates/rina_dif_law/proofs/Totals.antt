-- Sums over the places of lists, as one of them changes and as some are added.
use Rattle.std.proofs.Common.{◌≡◌, ◌≢◌, ℕ, zero, suc, ◌+◌, ◌<◌, List, [], ◌∷◌, slice_get, slice_set, Some, None, refl, ◌∙◌, ap, arith, inl, inr}
use Rattle.std.specs.Prelude.{sum_by}
use Rattle.std.proofs.lemmas.Bool.Decides.{eqb_tells}
use Rattle.std.proofs.lemmas.List.Sums.{sum_by-cons}
use Rattle.rina_dif_law.specs.Accounted.{total}

-- one element changes
pub sum_set : {X : Type 0} (f : X → ℕ) (xs : List X) (i : ℕ) (x y : X) → slice_get xs i ≡ Some x → sum_by f (slice_set xs i y) + f x ≡ sum_by f xs + f y
sum_set f [] i x y h = cc
sum_set f (z ∷ xs) zero x y h =
    let is : z ≡ x = cc in
    let at : f z ≡ f x = ap f is in
    let old = sum_by-cons f z xs in
    let new = sum_by-cons f y xs in
    omega arith
sum_set f (z ∷ xs) (suc i) x y h =
    let rest = sum_set f xs i x y h in
    let old = sum_by-cons f z xs in
    let new = sum_by-cons f z (slice_set xs i y) in
    omega arith

nothing_at : {X : Type 0} (i : ℕ) (x : X) → slice_get [] i ≡ Some x → ⊥
nothing_at i x h = cc

first_is : {X : Type 0} (xs : List X) (a b : X) → slice_get (a ∷ xs) zero ≡ Some b → a ≡ b
first_is xs a b h = cc

-- each element stays as much, and those that are added are nothing
pub sum_lists : {X Y : Type 0} (f : X → ℕ) (g : Y → ℕ) (xs : List X) (ys : List Y) → ((i : ℕ) (x : X) → slice_get xs i ≡ Some x → (y : Y) × (slice_get ys i ≡ Some y) × (g y ≡ f x)) → ((i : ℕ) (y : Y) → slice_get ys i ≡ Some y → slice_get xs i ≡ None → g y ≡ 0) → sum_by g ys ≡ sum_by f xs
sum_lists f g [] [] same none = refl
sum_lists f g [] (y ∷ ys) same none =
    let here = none zero y refl refl in
    let rest = sum_lists f g [] ys (λ i x h. absurd (nothing_at i x h)) (λ i z h n. none (suc i) z h refl) in
    let all = sum_by-cons g y ys in
    omega arith
sum_lists f g (x ∷ xs) [] same none = (let k = same zero x refl in absurd (nothing_at zero k.0 k.1))
sum_lists f g (x ∷ xs) (y ∷ ys) same none =
    let k = same zero x refl in
    let is : y ≡ k.0 = first_is ys y k.0 k.1 in
    let here : g y ≡ f x = ap g is ∙ k.2 in
    let rest = sum_lists f g xs ys (λ i z h. same (suc i) z h) (λ i z h n. none (suc i) z h n) in
    let old = sum_by-cons f x xs in
    let new = sum_by-cons g y ys in
    omega arith

-- of places

pub total_same : (n : ℕ) (f g : ℕ → ℕ) → ((i : ℕ) → i < n → f i ≡ g i) → total n f ≡ total n g
total_same zero f g same = refl
total_same (suc n) f g same =
    let rest = total_same n f g (λ i lt. same i (omega arith)) in
    let here = same n (omega arith) in
    omega arith

-- all but one stay
pub total_change : (n at : ℕ) (f g : ℕ → ℕ) → at < n → ((i : ℕ) → i ≢ at → f i ≡ g i) → total n f + g at ≡ total n g + f at
total_change zero at f g lt same = absurd (omega arith)
total_change (suc n) at f g lt same = elim (eqb_tells n at) [
  | inl t ↦
      let rest = total_same n f g (λ i low. same i (λ e. absurd (omega (arith, e, low, t.1)))) in
      let a : f n ≡ f at = ap f t.1 in
      let b : g n ≡ g at = ap g t.1 in
      omega arith
  | inr o ↦
      let ne = o.1 in
      let rest = total_change n at f g (omega arith) same in
      let here = same n o.1 in
      omega arith
]

-- two places are added
pub total_two : (n : ℕ) (f : ℕ → ℕ) → total (suc (suc n)) f ≡ total n f + f n + f (suc n)
total_two n f = refl
