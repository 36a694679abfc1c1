-- An id that is free is not in use.
use Rattle.std.proofs.Common.{◌≡◌, ℕ, ◌+◌, ◌-◌, List, true, get_or, position, Option, Some, None, IfSome, arith, sym}
use Rattle.std.proofs.lemmas.Option.{get_or_from_slice_get}
use Rattle.std.proofs.lemmas.List.Quantifiers.{position-Some}
use Rattle.std.proofs.lemmas.Grind.{common_steps}
use Rattle.rina_ids.specs.declared.slot.Slot.{Slot}
use Rattle.rina_ids.specs.declared.slot.Slot.TheVariants.{InUse}
use Rattle.rina_ids.specs.Ids.{is_free, IsInUse}

free_unused : (tick : ℕ) (slots : List Slot) (k : ℕ) → position (is_free tick) slots ≡ Some k → IsInUse slots (k + 1) → ⊥
unfolding is_free
free_unused tick slots k e h =
    let free : is_free tick (get_or slots k InUse) ≡ true = (position-Some (is_free tick) slots k InUse e).1 in
    grind (arith, common_steps, free, get_or_from_slice_get slots (k + 1 - 1) InUse InUse h.1)

pub place_unused : (tick : ℕ) (slots : List Slot) (r : Option ℕ) → r ≡ position (is_free tick) slots → IfSome r (λ k. IsInUse slots (k + 1) → ⊥)
place_unused tick slots (Some k) e = free_unused tick slots k (sym e)
place_unused tick slots None e = tt
