-- The lines that a management connection writes: its ends are named by places there, and by 0 in a ledger.
use Rattle.std.specs.Prelude.{◌≡◌, ◌≢◌, ℕ, ◌+◌, ◌≤◌, List, ◌++◌, drop, length, map, slice_get, Some, take}
use Rattle.rina_account.specs.declared.ledger.Off.{Off}
use Rattle.rina_conn.specs.declared.conn.Conn.{Conn}
use Rattle.rina_dtp.specs.Receiving.{kept_numbers}
use Rattle.rina_iface.specs.declared.ends.End.{End}
use Rattle.rina_iface.specs.declared.state.PortState.{PortState}
use Rattle.rina_iface.specs.declared.state.PortState.TheVariants.{Allocated}
use Rattle.rina_iface.specs.Journal.{At}
use Rattle.rina_iface.specs.Later.{Moves}
use Rattle.rina_law.specs.Direction.{Direction}
use Rattle.rina_data.specs.Configs.{Config}
use Rattle.rina_dif_law.specs.Standing.{IsJournal}
use Rattle.rina_flows.specs.declared.flows.Flows.{Flows}
use Rattle.rina_flows.specs.Calls.{AreTied, SameIds}
use Rattle.rina_flows.specs.Ending.{EndsAt}
use Rattle.rina_flows.specs.Tied.{conns_of}

-- a line as the ledger of an IPC process has it
abbrev pub unnamed_line : Off → Off
unnamed_line off = record off { key = record off.key { src = 0 } }

-- those from a place on are
abbrev pub unnamed_from : ℕ → List Off → List Off
unnamed_from n lines = take n lines ++ map unnamed_line (drop n lines)

-- an end has ended: what its connection held is written off behind the other lines, by no more lines than this, and the
-- connections stay tied
pub record HasStoppedOn (g : Config) (now at : ℕ) (state : PortState) (old : Flows) (ledger : List Off) (lines : List Direction) (new : Flows) (ledger' : List Off) (held : ℕ) : Type 0 where
  pub offs : List Off
  pub stops : EndsAt old.journal.ends (conns_of old.conns) lines at state offs new.journal.ends
  pub ledger_is : ledger' ≡ ledger ++ map unnamed_line offs
  pub few : length ledger' ≤ length ledger + held
  pub tied : AreTied g now new lines
  pub ids : SameIds old new

-- so with room for the lines
abbrev pub StopsOn : ℕ → ℕ → PortState → Flows → List Off → ℕ → Flows → List Off → Type 0
StopsOn now at state old ledger room new ledger' =
    (g : Config) (lines : List Direction) (end : End) (conn : Conn) → IsJournal now old.journal.ends → AreTied g now old lines → At old.journal.ends at end → end.state ≡ Allocated → Moves end.state state → state ≢ Allocated → slice_get old.conns at ≡ Some conn → length ledger + length (kept_numbers conn.rx) ≤ room →
    HasStoppedOn g now at state old ledger lines new ledger' (length (kept_numbers conn.rx))
