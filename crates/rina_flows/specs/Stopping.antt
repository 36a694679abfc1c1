-- How the allocated ends of a node end together.
use Rattle.std.specs.Prelude.{◌≡◌, ◌≢◌, ℕ, ◌+◌, ◌≤◌, ◌⊎◌, ◌==◌, ◌&&◌, zero, suc, Bool, true, false, List, length, slice_get, Option, Some, None, if◌then◌else◌}
use Rattle.rina_account.specs.declared.ledger.Off.{Off}
use Rattle.rina_conn.specs.declared.conn.Conn.{Conn}
use Rattle.rina_dtp.specs.Receiving.{kept_numbers}
use Rattle.rina_iface.specs.declared.ends.End.{End}
use Rattle.rina_iface.specs.declared.state.PortState.{PortState}
use Rattle.rina_iface.specs.declared.state.PortState.TheVariants.{Allocated}
use Rattle.rina_iface.specs.Later.{Moves}
use Rattle.rina_law.specs.Direction.{Direction}
use Rattle.rina_data.specs.Configs.{Config}
use Rattle.rina_dif_law.specs.Losing.{IsAllocatedAt}
use Rattle.rina_dif_law.specs.Standing.{IsJournal}
use Rattle.rina_flows.specs.declared.flows.Flows.{Flows}
use Rattle.rina_flows.specs.Calls.{AreTied}
use Rattle.rina_flows.specs.Delivering.{HasStopped}

abbrev pub is_allocated : PortState → Bool
is_allocated Allocated = true
is_allocated other = false

-- an end is allocated, and at a node
abbrev pub is_here : ℕ → End → Bool
is_here node e = is_allocated e.state && (e.port.node == node)

-- how many pieces the connection of such an end holds
abbrev pub held_by : ℕ → Option End → Option Conn → ℕ
held_by node (Some e) (Some k) = if is_here node e then length (kept_numbers k.rx) else 0
held_by node (Some e) None = 0
held_by node None k = 0

-- and how many those of the ends at the first places hold together
abbrev pub held_before : ℕ → List End → List Conn → ℕ → ℕ
held_before node ends conns zero = 0
held_before node ends conns (suc n) = held_before node ends conns n + held_by node (slice_get ends n) (slice_get conns n)

-- the end of a place is in this state then, where it is an allocated one at the node
abbrev pub MayStop : Config → ℕ → ℕ → PortState → List Direction → ℕ → Flows → List Off → Flows → List Off → Type 0
MayStop g now node state lines at old ledger new ledger' = (IsAllocatedAt old.journal.ends node at × HasStopped g now at state old ledger lines new ledger') ⊎ ((IsAllocatedAt old.journal.ends node at → ⊥) × (new ≡ old) × (ledger' ≡ ledger))

-- so are the ends of the first places, one after the other
abbrev pub StopFirst : Config → ℕ → ℕ → PortState → List Direction → ℕ → Flows → List Off → Flows → List Off → Type 0
StopFirst g now node state lines zero old ledger new ledger' = (new ≡ old) × (ledger' ≡ ledger)
StopFirst g now node state lines (suc n) old ledger new ledger' = (mid : Flows) × (between : List Off) × StopFirst g now node state lines n old ledger mid between × MayStop g now node state lines n mid between new ledger'

-- all of them are, in the order of the journal, where there is room for the lines
abbrev pub StopsAll : ℕ → ℕ → PortState → Flows → List Off → ℕ → Flows → List Off → Type 0
StopsAll now node state old ledger room new ledger' =
    (g : Config) (lines : List Direction) → IsJournal now old.journal.ends → AreTied g now old lines → Moves Allocated state → state ≢ Allocated → length ledger + held_before node old.journal.ends old.conns (length old.conns) ≤ room →
    StopFirst g now node state lines (length old.journal.ends) old ledger new ledger' × AreTied g now new lines
