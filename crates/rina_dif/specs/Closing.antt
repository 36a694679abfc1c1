-- How the end of a management connection closes as its link is lost.
use Rattle.std.specs.Prelude.{◌≡◌, ℕ, ◌⊎◌, List, [], length, map, position, slice_get, Option, Some, None}
use Rattle.rina_account.specs.declared.ledger.Off.{Off}
use Rattle.rina_base.specs.declared.cause.Cause.TheVariants as causes
use Rattle.rina_base.specs.declared.number.Port.{Port}
use Rattle.rina_conn.specs.declared.conn.Conn.{Conn}
use Rattle.rina_dtp.specs.Receiving.{kept_numbers}
use Rattle.rina_iface.specs.declared.ends.End.{End}
use Rattle.rina_iface.specs.declared.state.PortState.TheVariants.{Allocated, Closed}
use Rattle.rina_iface.specs.Journal.{At}
use Rattle.rina_law.specs.Direction.{Direction}
use Rattle.rina_data.specs.Configs.{Config}
use Rattle.rina_dif_law.specs.Ids.{Ids}
use Rattle.rina_dif_law.specs.Standing.{IsConn}
use Rattle.rina_flows.specs.declared.flows.Flows.{Flows}
use Rattle.rina_flows.specs.Calls.{AreTied, SameIds}
use Rattle.rina_flows.specs.Ending.{EndsAt, IsHeldOff}
use Rattle.rina_flows.specs.Tied.{IsInboundAt, conns_of}
use Rattle.rina_channel.specs.Channels.{has_port}
use Rattle.rina_channel.specs.Ledgers.{StopsOn, unnamed_line}
use Rattle.rina_channel.specs.Names.{link_config}
use Rattle.rina_dif.specs.declared.connections.Connections.{Connections}

-- Which end

-- the channel with this port has this place, and the end there is allocated
pub record IsOpenOn (c : Connections) (port : Port) (place : ℕ) : Type 0 where
  pub found : position (has_port port) c.channels ≡ Some place
  pub end : End
  pub is_end : At c.flows.journal.ends place end
  pub allocated : end.state ≡ Allocated

-- there is none
abbrev pub NoneOpenOn : Connections → Port → Type 0
NoneOpenOn c port = (place : ℕ) → IsOpenOn c port place → ⊥

-- it is found, or there is none
abbrev pub FindsOpen : Connections → Port → Option ℕ → Type 0
FindsOpen c port (Some place) = IsOpenOn c port place
FindsOpen c port None = NoneOpenOn c port

-- What it does

-- the end of a place closes: what its connection held is written off by these lines, and its journal stays
pub record ClosesEnd (g : Config) (now : ℕ) (lines : List Direction) (place : ℕ) (offs : List Off) (old new : Connections) : Type 0 where
  pub held : List Off
  pub offs_are : offs ≡ map unnamed_line held
  pub ends : EndsAt old.flows.journal.ends (conns_of old.flows.conns) lines place Closed held new.flows.journal.ends
  pub ids : SameIds old.flows new.flows
  pub tied : AreTied (link_config g old.manage) now new.flows lines
  pub same : new ≡ record old { flows = new.flows }

-- the open end of the link with a port closes; where none is open, nothing is written off and nothing changes
abbrev pub ClosesOn : Config → ℕ → List Direction → Port → List Off → Connections → Connections → Type 0
ClosesOn g now lines port offs old new = ((place : ℕ) × IsOpenOn old port place × ClosesEnd g now lines place offs old new) ⊎ (NoneOpenOn old port × (offs ≡ []) × (new ≡ old))

-- the line of a piece that the connection of the end at a place holds, as it is written off when the end closes
pub record IsHeldThere (c : Connections) (lines : List Direction) (place : ℕ) (off : Off) : Type 0 where
  pub end : End
  pub ids : Ids
  pub is_conn : IsConn c.flows.journal.ends (conns_of c.flows.conns) place end ids
  pub from : ℕ
  pub line : Direction
  pub inbound : IsInboundAt c.flows.journal.ends lines end from line
  pub was : Off
  pub held : IsHeldOff ids line (causes.NoConnection ids.scep) was
  pub off_is : off ≡ unnamed_line was

-- How it is called, by the place of the end, if one is open

abbrev pub kept_by : Option Conn → ℕ
kept_by (Some conn) = length (kept_numbers conn.rx)
kept_by None = 0

-- how many pieces it holds
abbrev pub held_at : Option ℕ → Flows → ℕ
held_at (Some place) flows = kept_by (slice_get flows.conns place)
held_at None flows = 0

-- it closes, with its lines behind others, where these have room
abbrev pub ClosesIn : ℕ → Option ℕ → Flows → List Off → ℕ → Flows → List Off → Type 0
ClosesIn now (Some place) old ledger room new ledger' = StopsOn now place Closed old ledger room new ledger'
ClosesIn now None old ledger room new ledger' = (new ≡ old) × (ledger' ≡ ledger)
