-- Ids that are drawn and given back: for each id from 1 on that was ever drawn, in order, what is known of it.
use Rattle.std.specs.Prelude.{◌≡◌, ℕ, ◌+◌, ◌-◌, ◌*◌, ◌<◌, ◌≤◌, Bool, true, false, List, [], ◌∷◌, ◌++◌, Option, Some, None, length, position, slice_get, slice_set, slice_index, nat_le, nat_lt, if◌then◌else◌}
use Rattle.rina_ids.specs.declared.slot.Slot.{Slot}
use Rattle.rina_ids.specs.declared.slot.Slot.TheVariants.{InUse, Resting}
use Rattle.rina_ids.specs.declared.ids.NoIds.{NoIds}
use Rattle.rina_ids.specs.declared.ids.NoIds.TheVariants.{Memory, Used}

-- an id can be drawn: it is not in use, and its rest is over
unfoldable pub is_free : ℕ → Slot → Bool
is_free tick InUse = false
is_free tick (Resting until) = nat_le until tick

-- the least id that was never drawn, where there is one
abbrev pub fresh_id : ℕ → List Slot → Option ℕ
fresh_id greatest slots = if nat_lt (length slots) greatest then Some (length slots + 1) else None

abbrev pub free_or : Option ℕ → Option ℕ → Option ℕ
free_or (Some k) fresh = Some (k + 1)
free_or None fresh = fresh

-- the least id from 1 to the greatest that is neither in use nor at rest
unfoldable pub free_id : ℕ → ℕ → List Slot → Option ℕ
free_id greatest tick slots = free_or (position (is_free tick) slots) (fresh_id greatest slots)

-- the id is in use
abbrev pub IsInUse : List Slot → ℕ → Type 0
IsInUse slots id = (1 ≤ id) × (slice_get slots (id - 1) ≡ Some InUse)

-- the id rests until a tick, at which it is free again
abbrev pub IsResting : List Slot → ℕ → ℕ → Type 0
IsResting slots id until = (1 ≤ id) × (slice_get slots (id - 1) ≡ Some (Resting until))

-- the ids after one was drawn
unfoldable pub drawn : List Slot → ℕ → List Slot
drawn slots id = if nat_le id (length slots) then slice_set slots (id - 1) InUse else slots ++ InUse ∷ []

-- the ids after one was given back, to rest until a tick
abbrev pub given_back : List Slot → ℕ → ℕ → List Slot
given_back slots id until = slice_set slots (id - 1) (Resting until)

-- no id at the places from one to before another is free
abbrev pub AllHeld : ℕ → List Slot → ℕ → ℕ → Type 0
AllHeld tick slots from to = (k : ℕ) (s : Slot) → from ≤ k → k < to → slice_get slots k ≡ Some s → is_free tick s ≡ false

-- the id at a place is free
abbrev pub HasFree : ℕ → List Slot → ℕ → Type 0
HasFree tick slots k = (s : Slot) × (slice_get slots k ≡ Some s) × (is_free tick s ≡ true)

-- each bound is at most the end of every rest in its block of 64 ids
abbrev pub IsBelow : List ℕ → List Slot → Type 0
IsBelow bounds slots = (b i until : ℕ) → 64 * b ≤ i → i < 64 * b + 64 → slice_get slots i ≡ Some (Resting until) → slice_index bounds b ≤ until

-- why no id was drawn: none is free, and so many ids there are
abbrev pub Refuses : ℕ → Option ℕ → NoIds → Type 0
Refuses greatest free Memory = Unit {0}
Refuses greatest free (Used n) = (free ≡ None) × (n ≡ greatest)

-- a tick is at most the end of every rest at the places from one to before another
abbrev pub IsLowest : ℕ → List Slot → ℕ → ℕ → Type 0
IsLowest bound slots from to = (k until : ℕ) → from ≤ k → k < to → slice_get slots k ≡ Some (Resting until) → bound ≤ until

-- an id was drawn, of which this was known before: nothing, where it was never drawn
pub record HasDrawn (before : List Slot) (id : ℕ) (was : Option Slot) (after : List Slot) : Type 0 where
  pub some : 1 ≤ id
  pub next : id ≤ length before + 1
  pub was_is : slice_get before (id - 1) ≡ was
  pub after_is : after ≡ drawn before id
