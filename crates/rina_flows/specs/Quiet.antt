-- Beside which places nothing is due before a tick.
use Rattle.std.specs.Prelude.{◌≡◌, ℕ, ◌<◌, ◌≤◌, List, Option, Contains, length, slice_get, Some}
use Rattle.rina_conn.specs.declared.conn.Conn.{Conn}
use Rattle.rina_conn.specs.Quiet.{IsQuietUntil}
use Rattle.rina_flows.specs.Alarms.{HasAlarm, tick_at}

-- the place is none of these
abbrev pub IsBeside : List ℕ → ℕ → Type 0
IsBeside places at = Contains places at → ⊥

-- nothing is due before this tick at the connections of all other places
abbrev pub AreQuietBeside : List ℕ → ℕ → List Conn → Type 0
AreQuietBeside places until conns = (at : ℕ) (k : Conn) → slice_get conns at ≡ Some k → IsBeside places at → IsQuietUntil until k

-- nothing is due before this tick at any connection
abbrev pub AreQuiet : ℕ → List Conn → Type 0
AreQuiet until conns = (at : ℕ) (k : Conn) → slice_get conns at ≡ Some k → IsQuietUntil until k

-- nothing is due at the connection of a place before the tick of its timer, unless the place is one of these; no timer is
-- set before the tick `until`; and each connection has a timer
pub record AreTimed (places : List ℕ) (until : ℕ) (times : List (Option ℕ)) (conns : List Conn) : Type 0 where
  pub quiet : (at : ℕ) (k : Conn) → slice_get conns at ≡ Some k → IsBeside places at → IsQuietUntil (tick_at times at) k
  pub least : (at : ℕ) → until ≤ tick_at times at
  pub room : (at : ℕ) → at < length conns → HasAlarm times at
