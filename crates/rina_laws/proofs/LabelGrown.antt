-- One more end stands in a facility of a rank, or two, of which the second waits to be claimed.
use Rattle.std.proofs.Common.{arith, ◌≡◌, ◌≢◌, ℕ, ◌+◌, ◌<◌, ◌≤◌, zero, suc, List, [], ◌∷◌, ◌++◌, length, append-nil, slice_get, slice_set, Option, None, Some, refl, sym, ◌∙◌, ap, subst, inl, inr, ◌⊎◌}
use Rattle.std.proofs.lemmas.Option.{none-some, same_Some, slice_get_within}
use Rattle.rina_iface.specs.declared.ends.End.{End}
use Rattle.rina_iface.specs.Seen.{Fac}
use Rattle.rina_iface.proofs.Changed.{set_at, slice_get-set_same, slice_get-set_other}
use Rattle.rina_iface.proofs.Grown.{pushed_at, still_at}
use Rattle.rina_laws.proofs.LabelEnds.{Holds, Waits, number_tells}
use Rattle.rina_laws.proofs.LabelRanks.{Both, Shown, both_from, both_on}
use Rattle.rina_laws.proofs.LabelTells.{HoldsAt, WaitsAt}

-- the far end, where there is one
abbrev pub others : {X : Type 0} → Option X → List X
others None = []
others (Some x) = x ∷ []

-- and its place
abbrev pub new_places : Fac → Option End → List ℕ
new_places f None = []
new_places f (Some far) = (length f.ends + 1) ∷ []

abbrev pub grown : Fac → End → Option End → Fac
grown f asker far = record f { ends = f.ends ++ asker ∷ others far; waiting = f.waiting ++ new_places f far }

-- a facility has one more end, or two, of which the second waits
pub record IsGrown (fs : List Fac) (n : ℕ) (asker : End) (far : Option End) (fs' : List Fac) : Type 0 where
  pub facility : Fac
  pub stands : slice_get fs n ≡ Some facility
  pub new_is : fs' ≡ slice_set fs n (grown facility asker far)

-- at one rank, and nothing changed at the others
pub record GrownAt (g : Shown) (r n : ℕ) (asker : End) (far : Option End) (g' : Shown) : Type 0 where
  pub facs : List Fac
  pub is_rank : g r ≡ Some facs
  pub facs' : List Fac
  pub is_rank' : g' r ≡ Some facs'
  pub grown : IsGrown facs n asker far facs'
  pub others : (k : ℕ) → k ≢ r → Both (λ fs fs'. fs' ≡ fs) (g k) (g' k)

-- of two things behind a list
pub two_at : {X : Type 0} (xs : List X) (a b : X) (i : ℕ) (x : X) → slice_get (xs ++ a ∷ b ∷ []) i ≡ Some x → (slice_get xs i ≡ Some x) ⊎ (((i ≡ length xs) × (x ≡ a)) ⊎ ((i ≡ length xs + 1) × (x ≡ b)))
two_at [] a b zero x h = inr (inl (refl, sym (same_Some a x h)))
two_at [] a b (suc zero) x h = inr (inr (omega arith, sym (same_Some b x h)))
two_at [] a b (suc (suc i)) x h = cc
two_at (z ∷ xs) a b zero x h = inl h
two_at (z ∷ xs) a b (suc i) x h = elim (two_at xs a b i x h) [ inl o ↦ inl o | inr o ↦ inr (elim o [ inl p ↦ inl (omega (arith, p.0), p.1) | inr p ↦ inr (omega (arith, p.0), p.1) ]) ]

-- what stands there with one or two more stood there, or is one of them
pub new_at : {X : Type 0} (xs : List X) (a : X) (far : Option X) (i : ℕ) (x : X) → slice_get (xs ++ a ∷ others far) i ≡ Some x → (slice_get xs i ≡ Some x) ⊎ (((i ≡ length xs) × (x ≡ a)) ⊎ ((i ≡ length xs + 1) × (far ≡ Some x)))
new_at [] a far zero x h = inr (inl (refl, sym (same_Some a x h)))
new_at [] a None (suc i) x h = absurd (none-some x h)
new_at [] a (Some b) (suc zero) x h = inr (inr (omega arith, h))
new_at [] a (Some b) (suc (suc i)) x h = absurd (none-some x h)
new_at (z ∷ xs) a far zero x h = inl h
new_at (z ∷ xs) a far (suc i) x h = elim (new_at xs a far i x h) [ inl o ↦ inl o | inr o ↦ inr (elim o [ inl p ↦ inl (omega (arith, p.0), p.1) | inr p ↦ inr (omega (arith, p.0), p.1) ]) ]

first_new : {X : Type 0} (xs : List X) (a : X) (far : Option X) → slice_get (xs ++ a ∷ others far) (length xs) ≡ Some a
first_new [] a far = refl
first_new (z ∷ xs) a far = first_new xs a far

second_of_two : {X : Type 0} (xs : List X) (a b : X) (i : ℕ) → i ≡ length xs + 1 → slice_get (xs ++ a ∷ b ∷ []) i ≡ Some b
second_of_two [] a b zero is = absurd (omega (arith, is))
second_of_two [] a b (suc zero) is = refl
second_of_two [] a b (suc (suc i)) is = absurd (omega (arith, is))
second_of_two (z ∷ xs) a b zero is = absurd (omega (arith, is))
second_of_two (z ∷ xs) a b (suc i) is = second_of_two xs a b i (omega (arith, is))

-- an end that is new
abbrev pub IsNew : ℕ → ℕ → End → Option End → ℕ → ℕ → End → Type 0
IsNew n size asker far m i e = (m ≡ n) × (((i ≡ size) × (e ≡ asker)) ⊎ ((i ≡ size + 1) × (far ≡ Some e)))

-- ---- at a rank

on_in : (fs fs' : List Fac) (n : ℕ) (asker : End) (far : Option End) (m i : ℕ) (e : End) → IsGrown fs n asker far fs' → Holds fs m i e → Holds fs' m i e
on_in fs fs' n asker far m i e g x =
    let f = g.facility in
    subst (λ (z : List Fac). Holds z m i e) (sym g.new_is) (elim (number_tells m n) [
      | inl t ↦
          let there : slice_get f.ends i ≡ Some e = rw (same_Some x.facility f (sym x.stands ∙ rw t g.stands)) at x.is in
          record { facility = grown f asker far; stands = rw t (slice_get-set_same fs n f (grown f asker far) g.stands); is = still_at f.ends (asker ∷ others far) i e there }
      | inr o ↦ record { facility = x.facility; stands = slice_get-set_other fs n m (grown f asker far) o ∙ x.stands; is = x.is }
    ])

from_set : (fs : List Fac) (n : ℕ) (f : Fac) (asker : End) (far : Option End) (m i : ℕ) (e : End) → slice_get fs n ≡ Some f → Holds (slice_set fs n (grown f asker far)) m i e → Holds fs m i e ⊎ IsNew n (length f.ends) asker far m i e
from_set fs n f asker far m i e h x = elim (set_at fs n m f (grown f asker far) x.facility h x.stands) [
  | inl t ↦
      let there : slice_get (f.ends ++ asker ∷ others far) i ≡ Some e = rw (ap (λ (h : Fac). h.ends) t.1) at x.is in
      elim (new_at f.ends asker far i e there) [ inl o ↦ inl (record { facility = f; stands = rw t.0 h; is = o }) | inr o ↦ inr (t.0, o) ]
  | inr o ↦ inl (record { facility = x.facility; stands = o.1; is = x.is })
]

from_in : (fs fs' : List Fac) (n : ℕ) (asker : End) (far : Option End) (m i : ℕ) (e : End) → (g : IsGrown fs n asker far fs') → Holds fs' m i e → Holds fs m i e ⊎ IsNew n (length g.facility.ends) asker far m i e
from_in fs fs' n asker far m i e g x = from_set fs n g.facility asker far m i e g.stands (subst (λ (z : List Fac). Holds z m i e) g.new_is x)

-- one that waits and is new
abbrev pub WaitsNew : ℕ → Fac → Option End → ℕ → ℕ → ℕ → Type 0
WaitsNew n f far m k place = (m ≡ n) × (k ≡ length f.waiting) × (place ≡ length f.ends + 1) × ((e : End) × (far ≡ Some e))

waits_more : (f : Fac) (far : Option End) (k place : ℕ) → slice_get (f.waiting ++ new_places f far) k ≡ Some place → (slice_get f.waiting k ≡ Some place) ⊎ ((k ≡ length f.waiting) × (place ≡ length f.ends + 1) × ((e : End) × (far ≡ Some e)))
waits_more f None k place h = inl (subst (λ (ws : List ℕ). slice_get ws k ≡ Some place) (append-nil f.waiting) h)
waits_more f (Some far) k place h = elim (pushed_at f.waiting (length f.ends + 1) k place h) [ inl o ↦ inl o | inr o ↦ inr (o.0, o.1, (far, refl)) ]

waits_set : (fs : List Fac) (n : ℕ) (f : Fac) (asker : End) (far : Option End) (m k place : ℕ) → slice_get fs n ≡ Some f → Waits (slice_set fs n (grown f asker far)) m k place → Waits fs m k place ⊎ WaitsNew n f far m k place
waits_set fs n f asker far m k place h x = elim (set_at fs n m f (grown f asker far) x.facility h x.stands) [
  | inl t ↦
      let there : slice_get (f.waiting ++ new_places f far) k ≡ Some place = rw (ap (λ (h : Fac). h.waiting) t.1) at x.is in
      elim (waits_more f far k place there) [ inl o ↦ inl (record { facility = f; stands = rw t.0 h; is = o }) | inr o ↦ inr (t.0, o.0, o.1, o.2) ]
  | inr o ↦ inl (record { facility = x.facility; stands = o.1; is = x.is })
]

waits_in : (fs fs' : List Fac) (n : ℕ) (asker : End) (far : Option End) (m k place : ℕ) → (g : IsGrown fs n asker far fs') → Waits fs' m k place → Waits fs m k place ⊎ WaitsNew n g.facility far m k place
waits_in fs fs' n asker far m k place g x = waits_set fs n g.facility asker far m k place g.stands (subst (λ (z : List Fac). Waits z m k place) g.new_is x)

-- ---- at all ranks

pub grown_on : (g g' : Shown) (r n : ℕ) (asker : End) (far : Option End) (k m i : ℕ) (e : End) → GrownAt g r n asker far g' → HoldsAt g k m i e → HoldsAt g' k m i e
grown_on g g' r n asker far k m i e w h = elim (number_tells k r) [
  | inl t ↦
      let one : h.facs ≡ w.facs = same_Some h.facs w.facs (sym h.is_rank ∙ rw t w.is_rank) in
      record { facs = w.facs'; is_rank = rw t w.is_rank'; holds = on_in w.facs w.facs' n asker far m i e w.grown (subst (λ (z : List Fac). Holds z m i e) one h.holds) }
  | inr o ↦ (let b = both_on (λ fs fs'. fs' ≡ fs) (g k) (g' k) h.facs (w.others k o) h.is_rank in record { facs = b.0; is_rank = b.1; holds = subst (λ (z : List Fac). Holds z m i e) (sym b.2) h.holds })
]

pub grown_from : (g g' : Shown) (r n : ℕ) (asker : End) (far : Option End) (k m i : ℕ) (e : End) → (w : GrownAt g r n asker far g') → HoldsAt g' k m i e → HoldsAt g k m i e ⊎ ((k ≡ r) × IsNew n (length w.grown.facility.ends) asker far m i e)
grown_from g g' r n asker far k m i e w h = elim (number_tells k r) [
  | inl t ↦
      let one : h.facs ≡ w.facs' = same_Some h.facs w.facs' (sym h.is_rank ∙ rw t w.is_rank') in
      elim (from_in w.facs w.facs' n asker far m i e w.grown (subst (λ (z : List Fac). Holds z m i e) one h.holds)) [
        | inl x ↦ inl (record { facs = w.facs; is_rank = rw t w.is_rank; holds = x })
        | inr x ↦ inr (t, x)
      ]
  | inr o ↦ (let b = both_from (λ fs fs'. fs' ≡ fs) (g k) (g' k) h.facs (w.others k o) h.is_rank in inl (record { facs = b.0; is_rank = b.1; holds = subst (λ (z : List Fac). Holds z m i e) b.2 h.holds }))
]

pub grown_waits : (g g' : Shown) (r n : ℕ) (asker : End) (far : Option End) (k m at place : ℕ) → (w : GrownAt g r n asker far g') → WaitsAt g' k m at place → WaitsAt g k m at place ⊎ ((k ≡ r) × WaitsNew n w.grown.facility far m at place)
grown_waits g g' r n asker far k m at place w h = elim (number_tells k r) [
  | inl t ↦
      let one : h.facs ≡ w.facs' = same_Some h.facs w.facs' (sym h.is_rank ∙ rw t w.is_rank') in
      elim (waits_in w.facs w.facs' n asker far m at place w.grown (subst (λ (z : List Fac). Waits z m at place) one h.waits)) [
        | inl x ↦ inl (record { facs = w.facs; is_rank = rw t w.is_rank; waits = x })
        | inr x ↦ inr (t, x)
      ]
  | inr o ↦ (let b = both_from (λ fs fs'. fs' ≡ fs) (g k) (g' k) h.facs (w.others k o) h.is_rank in inl (record { facs = b.0; is_rank = b.1; waits = subst (λ (z : List Fac). Waits z m at place) b.2 h.waits }))
]

below_in : (fs : List Fac) (n : ℕ) (f : Fac) (m i : ℕ) (e : End) → slice_get fs n ≡ Some f → Holds fs m i e → m ≡ n → i < length f.ends
below_in fs n f m i e at x u = slice_get_within f.ends i e (rw (same_Some x.facility f (sym x.stands ∙ rw u at)) at x.is)

-- what stood in the facility stands below
pub grown_below : (g g' : Shown) (r n : ℕ) (asker : End) (far : Option End) (k m i : ℕ) (e : End) → (w : GrownAt g r n asker far g') → HoldsAt g k m i e → k ≡ r → m ≡ n → i < length w.grown.facility.ends
grown_below g g' r n asker far k m i e w h t u =
    let one : h.facs ≡ w.facs = same_Some h.facs w.facs (sym h.is_rank ∙ rw t w.is_rank) in
    below_in w.facs n w.grown.facility m i e w.grown.stands (subst (λ (z : List Fac). Holds z m i e) one h.holds) u

pub new_past : (n size : ℕ) (asker : End) (far : Option End) (m i : ℕ) (e : End) → IsNew n size asker far m i e → size ≤ i
new_past n size asker far m i e w = elim w.1 [ inl o ↦ omega (arith, o.0) | inr o ↦ omega (arith, o.0) ]

-- the asker's end
pub asker_end : (g g' : Shown) (r n : ℕ) (asker : End) (far : Option End) → (w : GrownAt g r n asker far g') → HoldsAt g' r n (length w.grown.facility.ends) asker
asker_end g g' r n asker far w =
    let f = w.grown.facility in
    let there : Holds (slice_set w.facs n (grown f asker far)) n (length f.ends) asker = record { facility = grown f asker far; stands = slice_get-set_same w.facs n f (grown f asker far) w.grown.stands; is = first_new f.ends asker far } in
    record { facs = w.facs'; is_rank = w.is_rank'; holds = subst (λ (z : List Fac). Holds z n (length f.ends) asker) (sym w.grown.new_is) there }

-- and the far end
pub far_end : (g g' : Shown) (r n : ℕ) (asker far : End) → (w : GrownAt g r n asker (Some far) g') → HoldsAt g' r n (length w.grown.facility.ends + 1) far
far_end g g' r n asker far w =
    let f = w.grown.facility in
    let new : Fac = grown f asker (Some far) in
    let there : Holds (slice_set w.facs n new) n (length f.ends + 1) far = record { facility = new; stands = slice_get-set_same w.facs n f new w.grown.stands; is = second_of_two f.ends asker far (length f.ends + 1) refl } in
    record { facs = w.facs'; is_rank = w.is_rank'; holds = subst (λ (z : List Fac). Holds z n (length f.ends + 1) far) (sym w.grown.new_is) there }

-- whichever it is
pub other_end : (g g' : Shown) (r n : ℕ) (asker : End) (far : Option End) (e : End) → far ≡ Some e → (w : GrownAt g r n asker far g') → HoldsAt g' r n (length w.grown.facility.ends + 1) e
other_end g g' r n asker None e is w = absurd (none-some e is)
other_end g g' r n asker (Some far) e is w = subst (HoldsAt g' r n (length w.grown.facility.ends + 1)) (same_Some far e is) (far_end g g' r n asker far w)
