-- The first place that is free, as a position in the list.
use Rattle.std.proofs.Common.{◌≡◌, ℕ, ◌<◌, ◌≤◌, List, true, length, get_or, position, Option, Some, None, IfSome, MatchOption, arith}
use Rattle.std.specs.List.{position_or_len}
use Rattle.std.proofs.lemmas.List.Sums.{position_or_len_is}
use Rattle.std.proofs.lemmas.Option.{slice_get_within, slice_get-get_or, get_or_from_slice_get}
use Rattle.std.proofs.lemmas.Grind.{common_steps}
use Rattle.rina_ids.specs.declared.slot.Slot.{Slot}
use Rattle.rina_ids.specs.declared.slot.Slot.TheVariants.{InUse}
use Rattle.rina_ids.specs.Ids.{is_free, AllHeld, HasFree}

-- the first length that the test passes at, where none before it does
place_of : (tick : ℕ) (slots : List Slot) (k : ℕ) → k ≤ length slots → AllHeld tick slots 0 k → (k < length slots → is_free tick (get_or slots k InUse) ≡ true) → position_or_len (is_free tick) slots ≡ k
place_of tick slots k le held free =
    position_or_len_is (is_free tick) slots k InUse le (λ j lt. held j (get_or slots j InUse) (omega arith) lt (slice_get-get_or slots j InUse (omega arith))) free

pub place_is : (tick : ℕ) (slots : List Slot) (r : Option ℕ) → IfSome r (HasFree tick slots) → MatchOption r (AllHeld tick slots 0 (length slots)) (λ k. AllHeld tick slots 0 k) → r ≡ position (is_free tick) slots
place_is tick slots (Some k) free held =
    let lt : k < length slots = slice_get_within slots k free.0 free.1 in
    let e : position_or_len (is_free tick) slots ≡ k = place_of tick slots k (omega arith) held (λ _. rw (get_or_from_slice_get slots k free.0 InUse free.1) free.2) in
    rw e (grind (arith, common_steps, lt))
place_is tick slots None free held =
    let e : position_or_len (is_free tick) slots ≡ length slots = place_of tick slots (length slots) (omega arith) held (λ lt. absurd (omega (arith, lt))) in
    rw e (grind (arith, common_steps))

pub place_within : (tick : ℕ) (slots : List Slot) (r : Option ℕ) → IfSome r (HasFree tick slots) → IfSome r (λ k. k < length slots)
place_within tick slots (Some k) free = slice_get_within slots k free.0 free.1
place_within tick slots None free = tt
