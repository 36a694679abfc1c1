-- What a filter keeps of a list that was changed.
use Rattle.std.proofs.Common.{◌≡◌, ◌≢◌, ℕ, zero, suc, ◌==◌, ◌&&◌, Bool, true, false, List, [], ◌∷◌, ◌++◌, filter, get_or, remove, slice_get, slice_set, Some, All, refl, sym, ◌∙◌, ap, subst, inl, inr, ◌⊎◌}
use Rattle.std.proofs.lemmas.Bool.Decides.{eqb_tells}
use Rattle.std.proofs.lemmas.List.{append-nil}
use Rattle.std.proofs.lemmas.List.Elements.{All-filter, All-head, All-tail, filter-append}
use Rattle.std.proofs.lemmas.List.Quantifiers.{position-Some}
use Rattle.std.proofs.lemmas.Option.{slice_get-get_or, same_Some}
use Rattle.rina_wire.specs.declared.flight.Flight.{Flight}
use Rattle.rina_wire.specs.Disturb.{copy_place}

pub bool_tells : (b : Bool) → (b ≡ true) ⊎ (b ≡ false)
bool_tells true = inl refl
bool_tells false = inr refl

pub yes : {X : Type 0} (p : X → Bool) (x : X) (xs : List X) → p x ≡ true → filter p (x ∷ xs) ≡ x ∷ filter p xs
yes p x xs h = rw h refl

pub no : {X : Type 0} (p : X → Bool) (x : X) (xs : List X) → p x ≡ false → filter p (x ∷ xs) ≡ filter p xs
no p x xs h = rw h refl

pub filter_swap : {X : Type 0} (p q : X → Bool) (xs : List X) → filter p (filter q xs) ≡ filter q (filter p xs)
filter_swap p q [] = refl
filter_swap p q (x ∷ xs) = elim (bool_tells (p x)) [
  | inl a ↦ elim (bool_tells (q x)) [
    | inl b ↦ ap (filter p) (yes q x xs b) ∙ yes p x (filter q xs) a ∙ ap (λ ys. x ∷ ys) (filter_swap p q xs) ∙ sym (yes q x (filter p xs) b) ∙ ap (filter q) (sym (yes p x xs a))
    | inr b ↦ ap (filter p) (no q x xs b) ∙ filter_swap p q xs ∙ sym (no q x (filter p xs) b) ∙ ap (filter q) (sym (yes p x xs a))
  ]
  | inr a ↦ elim (bool_tells (q x)) [
    | inl b ↦ ap (filter p) (yes q x xs b) ∙ no p x (filter q xs) a ∙ filter_swap p q xs ∙ ap (filter q) (sym (no p x xs a))
    | inr b ↦ ap (filter p) (no q x xs b) ∙ filter_swap p q xs ∙ ap (filter q) (sym (no p x xs a))
  ]
]

-- none passes
pub filter_none : {X : Type 0} (p : X → Bool) (xs : List X) → ((i : ℕ) (x : X) → slice_get xs i ≡ Some x → p x ≡ false) → filter p xs ≡ []
filter_none p [] h = refl
filter_none p (x ∷ xs) h = no p x xs (h zero x refl) ∙ filter_none p xs (λ i y is. h (suc i) y is)

pub filter_none_of : {X : Type 0} (p : X → Bool) (xs : List X) → All (λ x. p x ≡ false) xs → filter p xs ≡ []
filter_none_of {X} p [] h = refl
filter_none_of {X} p (x ∷ xs) h = let P : X → Type 0 = λ (y : X). p y ≡ false in no p x xs (All-head P x xs h) ∙ filter_none_of p xs (All-tail P x xs h)

-- what holds of all holds of the one that passes
pub holds_of : {X : Type 0} (p : X → Bool) (P : X → Type 0) (xs : List X) (x : X) → All P xs → filter p xs ≡ x ∷ [] → P x
holds_of p P xs x all is = All-head P x [] (subst (All P) is (All-filter p P xs all))

-- one more
pub push_no : {X : Type 0} (p : X → Bool) (xs : List X) (x : X) → p x ≡ false → filter p (xs ++ x ∷ []) ≡ filter p xs
push_no p xs x h = filter-append p xs (x ∷ []) ∙ ap (λ ys. filter p xs ++ ys) (no p x [] h) ∙ append-nil (filter p xs)

pub push_yes : {X : Type 0} (p : X → Bool) (xs : List X) (x : X) → p x ≡ true → filter p (xs ++ x ∷ []) ≡ filter p xs ++ x ∷ []
push_yes p xs x h = filter-append p xs (x ∷ []) ∙ ap (λ ys. filter p xs ++ ys) (yes p x [] h)

-- none of those behind
pub append_none : {X : Type 0} (p : X → Bool) (xs ys : List X) → filter p ys ≡ [] → filter p (xs ++ ys) ≡ filter p xs
append_none p xs ys h = filter-append p xs ys ∙ ap (λ zs. filter p xs ++ zs) h ∙ append-nil (filter p xs)

-- the same first element, and tails that pass alike
same_head : {X : Type 0} (p : X → Bool) (x : X) (xs ys : List X) → filter p xs ≡ filter p ys → filter p (x ∷ xs) ≡ filter p (x ∷ ys)
same_head p x xs ys h = elim (bool_tells (p x)) [
  | inl a ↦ yes p x xs a ∙ ap (λ zs. x ∷ zs) h ∙ sym (yes p x ys a)
  | inr a ↦ no p x xs a ∙ h ∙ sym (no p x ys a)
]

-- one that does not pass is taken away, or another such stands in its place
pub remove_no : {X : Type 0} (p : X → Bool) (xs : List X) (i : ℕ) (x : X) → slice_get xs i ≡ Some x → p x ≡ false → filter p (remove xs i) ≡ filter p xs
remove_no p [] i x is h = cc
remove_no p (y ∷ xs) zero x is h = let same : y ≡ x = same_Some y x is in sym (no p y xs (rw same h))
remove_no p (y ∷ xs) (suc i) x is h = same_head p y (remove xs i) xs (remove_no p xs i x is h)

pub set_no : {X : Type 0} (p : X → Bool) (xs : List X) (i : ℕ) (x y : X) → slice_get xs i ≡ Some x → p x ≡ false → p y ≡ false → filter p (slice_set xs i y) ≡ filter p xs
set_no p [] i x y is h g = cc
set_no p (z ∷ xs) zero x y is h g = let same : z ≡ x = same_Some z x is in no p y xs g ∙ sym (no p z xs (rw same h))
set_no p (z ∷ xs) (suc i) x y is h g = same_head p z (slice_set xs i y) xs (set_no p xs i x y is h g)

pub and_no : (a b : Bool) → b ≡ false → (a && b) ≡ false
and_no true b h = h
and_no false b h = refl

pub differ : (a b : ℕ) → a ≢ b → (a == b) ≡ false
differ a b ne = elim (eqb_tells a b) [ inl t ↦ absurd (ne t.1) | inr f ↦ f.0 ]

-- the first copy of a frame
pub record IsFirst (frame : ℕ) (flights : List Flight) (place : ℕ) : Type 0 where
  pub copy : Flight
  pub stands : slice_get flights place ≡ Some copy
  pub its : copy.frame ≡ frame

pub first_at : (frame : ℕ) (flights : List Flight) (place : ℕ) → copy_place frame flights ≡ Some place → IsFirst frame flights place
first_at frame [] place h = cc
first_at frame (g ∷ gs) place h =
    let p = position-Some (λ (f : Flight). f.frame == frame) (g ∷ gs) place g h in
    record {
      copy = get_or (g ∷ gs) place g;
      stands = slice_get-get_or (g ∷ gs) place g p.0;
      its = elim (eqb_tells ((get_or (g ∷ gs) place g).frame) frame) [ inl t ↦ t.1 | inr f ↦ let clash : true ≡ false = sym p.1 ∙ f.0 in cc ];
    }
