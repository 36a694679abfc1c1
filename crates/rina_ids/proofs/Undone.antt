-- A draw that is taken back.
use Rattle.std.proofs.Common.{◌≡◌, ℕ, zero, suc, ◌+◌, ◌-◌, ◌<◌, ◌≤◌, Bool, true, false, leb, if◌then◌else◌, List, [], ◌∷◌, ◌++◌, length, length-set, slice_get, slice_set, Some, None, refl, sym, ◌∙◌, ap, arith}
use Rattle.std.proofs.lemmas.Bool.{leb-true, leb-false}
use Rattle.std.proofs.lemmas.Option.{none-some, slice_get_within}
use Rattle.rina_ids.specs.declared.slot.Slot.{Slot}
use Rattle.rina_ids.specs.declared.slot.Slot.TheVariants.{InUse}
use Rattle.rina_ids.specs.Ids.{drawn, HasDrawn}

set_back : (slots : List Slot) (k : ℕ) (x was : Slot) → slice_get slots k ≡ Some was → slice_set (slice_set slots k x) k was ≡ slots
set_back [] k x was e = absurd (none-some was e)
set_back (s ∷ slots) zero x was e = (let same : s ≡ was = cc in ap (λ (z : Slot). z ∷ slots) (sym same))
set_back (s ∷ slots) (suc k) x was e = ap (λ (zs : List Slot). s ∷ zs) (set_back slots k x was e)

past_end : (slots : List Slot) (k : ℕ) → slice_get slots k ≡ None → length slots ≤ k
past_end [] k e = omega arith
past_end (s ∷ slots) zero e = absurd (let clash : Some s ≡ None = e in cc)
past_end (s ∷ slots) (suc k) e = (let rest = past_end slots k e in omega (arith, rest))

-- an id that was drawn before
drawn_again : (slots : List Slot) (id : ℕ) → 1 ≤ id → id ≤ length slots → drawn slots id ≡ slice_set slots (id - 1) InUse
unfolding drawn
drawn_again slots id some le = at (leb id (length slots)) refl
  where
    at : (b : Bool) → leb id (length slots) ≡ b → (if b then slice_set slots (id - 1) InUse else slots ++ InUse ∷ []) ≡ slice_set slots (id - 1) InUse
    at true e = refl
    at false e = absurd (let gt = leb-false id (length slots) e in omega (arith, gt, le))

-- one that was never
drawn_new : (slots : List Slot) (id : ℕ) → length slots < id → drawn slots id ≡ slots ++ InUse ∷ []
unfolding drawn
drawn_new slots id lt = at (leb id (length slots)) refl
  where
    at : (b : Bool) → leb id (length slots) ≡ b → (if b then slice_set slots (id - 1) InUse else slots ++ InUse ∷ []) ≡ slots ++ InUse ∷ []
    at true e = absurd (let le = leb-true id (length slots) e in omega (arith, le, lt))
    at false e = refl

pub again_within : (slots after : List Slot) (id : ℕ) (was : Slot) → HasDrawn slots id (Some was) after → id - 1 < length after
again_within slots after id was h =
    let some = h.some in
    let lt = slice_get_within slots (id - 1) was h.was_is in
    let long : length after ≡ length slots = ap (λ (zs : List Slot). length zs) (h.after_is ∙ drawn_again slots id h.some (omega (arith, some, lt))) ∙ length-set slots (id - 1) InUse in
    omega (arith, lt, long)

pub again_back : (slots after : List Slot) (id : ℕ) (was : Slot) → HasDrawn slots id (Some was) after → slice_set after (id - 1) was ≡ slots
again_back slots after id was h =
    let some = h.some in
    let lt = slice_get_within slots (id - 1) was h.was_is in
    ap (λ (zs : List Slot). slice_set zs (id - 1) was) (h.after_is ∙ drawn_again slots id h.some (omega (arith, some, lt))) ∙ set_back slots (id - 1) InUse was h.was_is

pub new_last : (slots after : List Slot) (id : ℕ) → HasDrawn slots id None after → after ≡ slots ++ InUse ∷ []
new_last slots after id h =
    let some = h.some in
    let past = past_end slots (id - 1) h.was_is in
    h.after_is ∙ drawn_new slots id (omega (arith, some, past))

pub pushed_some : (slots : List Slot) (x : Slot) → 1 ≤ length (slots ++ x ∷ [])
pushed_some [] x = omega arith
pushed_some (s ∷ slots) x = omega arith
