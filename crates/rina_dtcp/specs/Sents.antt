-- Pieces that wait for their acknowledgement, and when each is sent again or given up.
use Rattle.std.specs.Prelude.{◌≡◌, ℕ, zero, suc, ◌+◌, ◌-◌, ◌*◌, ◌^◌, ◌<◌, ◌≤◌, Bool, true, false, ◌&&◌, ◌||◌, nat_le, List, [], ◌∷◌, slice_get, Some}
use Rattle.rina_cube.specs.declared.Cube.{Cube}
use Rattle.rina_dtcp.specs.declared.sent.Sent.{Sent}

-- made last `retry` ticks ago or more, and first at most `r` ticks ago
unfoldable pub is_due : Cube → ℕ → Sent → Bool
is_due cube now s = nat_le (s.last + cube.retry) now && nat_le now (s.first + cube.r)

-- made first `r + a + 2 * mpl` ticks ago or more
unfoldable pub is_late : Cube → ℕ → Sent → Bool
is_late cube now s = nat_le (s.first + cube.r + cube.a + 2 * cube.mpl) now

-- before this tick the piece is not sent again or given up
pub record IsStillUntil (until : ℕ) (cube : Cube) (s : Sent) : Type 0 where
  pub again : (t : ℕ) → t < until → is_due cube t s ≡ false
  pub given_up : (t : ℕ) → t < until → is_late cube t s ≡ false

-- at this tick the piece is sent again or given up, unless it is the greatest u32
abbrev pub IsDueFrom : ℕ → Cube → Sent → Type 0
IsDueFrom tick cube s = tick < 2 ^ 32 - 1 → (is_due cube tick s || is_late cube tick s) ≡ true

-- at this tick one of the pieces is sent again or given up, unless it is the greatest u32
abbrev pub IsSomeDueFrom : ℕ → Cube → List Sent → Type 0
IsSomeDueFrom tick cube ss = tick < 2 ^ 32 - 1 → (k : ℕ) × (s : Sent) × (slice_get ss k ≡ Some s) × ((is_due cube tick s || is_late cube tick s) ≡ true)

-- a piece is not sent again or given up before another
abbrev pub IsNoSooner : Cube → Sent → Sent → Type 0
IsNoSooner cube a b = (t : ℕ) → t < 2 ^ 32 → IsStillUntil t cube a → IsStillUntil t cube b

-- from a place on no piece is sent again or given up before an earlier one
abbrev pub RiseFrom : ℕ → Cube → List Sent → Type 0
RiseFrom place cube ss = (i j : ℕ) (a b : Sent) → place ≤ i → i ≤ j → slice_get ss i ≡ Some a → slice_get ss j ≡ Some b → IsNoSooner cube a b

-- nor is one that is made now before any of them
abbrev pub RiseTo : ℕ → ℕ → Cube → List Sent → Type 0
RiseTo now place cube ss = (i : ℕ) (a s : Sent) → place ≤ i → slice_get ss i ≡ Some a → s.first ≡ now → s.last ≡ now → IsNoSooner cube a s

-- the pieces, with the one at a place made now
abbrev pub touched : ℕ → ℕ → List Sent → List Sent
touched i now [] = []
touched zero now (s ∷ ss) = record s { last = now } ∷ ss
touched (suc i) now (s ∷ ss) = s ∷ touched i now ss
