-- When a PDU may be written off, cause by cause, said of plain numbers: those that the cause carries, and those beside them that it speaks of.
use Rattle.std.specs.Prelude.{◌≡◌, ℕ, ◌+◌, ◌-◌, ◌*◌, ◌^◌, ◌%◌, ◌<◌, ◌≤◌, ◌⊎◌, Bool, false, List, Option, Some, None, Contains}

-- the lifetime that was left is less than the charge of this hop
abbrev pub IsExpired : ℕ → ℕ → Type 0
IsExpired left charge = left < charge

-- the next-hop table has no row for the address
abbrev pub IsUnrouted : List ℕ → ℕ → Type 0
IsUnrouted rows dst = Contains rows dst → ⊥

-- the queue has room for no more: it holds exactly as many PDUs as it may
abbrev pub IsFull : ℕ → ℕ → Type 0
IsFull cap waiting = waiting ≡ cap

-- the piece was received before: its number was accepted, or is held, or is below the next one
abbrev pub IsRepeated : List ℕ → List ℕ → ℕ → ℕ → Type 0
IsRepeated accepted kept next n = Contains accepted n ⊎ (Contains kept n ⊎ (n < next))

-- in order: the number is not above the greatest that was accepted
abbrev pub IsBehind : ℕ → ℕ → Type 0
IsBehind highest n = n ≤ highest

-- in any order: the number is 4096 or more below the greatest that was accepted
abbrev pub IsFarBehind : ℕ → ℕ → Type 0
IsFarBehind highest n = n + 4096 ≤ highest

-- the receiver of a reliable flow has no state, and the piece begins no run
abbrev pub IsStateless : Bool → Bool → Type 0
IsStateless present drf = (present ≡ false) × (drf ≡ false)

-- as many SDUs as the window wait to be read, or more
abbrev pub IsRoomless : ℕ → ℕ → Type 0
IsRoomless window unread = window ≤ unread

-- two delta-t or more passed since the last piece that counted
abbrev pub IsGone : ℕ → ℕ → ℕ → Type 0
IsGone tick delta last_in = last_in + 2 * delta ≤ tick

-- the number that is missing: the one after the last that the joiner holds, or the one before this piece where it holds none
abbrev pub missing_at : Option ℕ → ℕ → ℕ
missing_at (Some last) n = (last + 1) % 2 ^ 32
missing_at None n = (n + 2 ^ 32 - 1) % 2 ^ 32
