-- What comes with time: what is due, and a number that is given up.
use Rattle.std.specs.Prelude.{◌≡◌, ◌↔◌, ℕ, Bool, true, IsTrue, List, ◌++◌, slice_get, slice_set, Option, Some, None, Result, Ok, Err}
use Rattle.rina_account.specs.declared.ledger.Off.{Off}
use Rattle.rina_base.specs.declared.memory.Memory.{Memory}
use Rattle.rina_base.specs.declared.number.Num.{Num}
use Rattle.rina_conn.specs.declared.conn.Conn.{Conn}
use Rattle.rina_conn.specs.Sending.{SendsAgain}
use Rattle.rina_cube.specs.declared.Cube.{Cube}
use Rattle.rina_data.specs.Configs.{Config, cube_by}
use Rattle.rina_dif_law.specs.Dif.{constants}
use Rattle.rina_dif_law.specs.Ids.{Ids}
use Rattle.rina_dif_law.specs.Standing.{IsJournal}
use Rattle.rina_dtcp.specs.Plans.{without}
use Rattle.rina_iface.specs.declared.ends.End.{End}
use Rattle.rina_iface.specs.declared.state.Fail.TheVariants.{GaveUp}
use Rattle.rina_iface.specs.declared.state.PortState.TheVariants.{Allocated, Failed}
use Rattle.rina_iface.specs.Journal.{At}
use Rattle.rina_law.specs.Constants.{Constants}
use Rattle.rina_law.specs.Direction.{Direction, after_ack, after_again, is_ack_due}
use Rattle.rina_law.specs.Sender.{Sender, again_due, given_up, member}
use Rattle.rina_flows.specs.declared.flows.Flows.{Flows}
use Rattle.rina_flows.specs.declared.due.Item.{Item}
use Rattle.rina_flows.specs.declared.due.Item.TheVariants.{Ack, Again, GiveUp, Gone}
use Rattle.rina_flows.specs.Calls.{AreTied, SameIds}
use Rattle.rina_flows.specs.Delivering.{HoldsGone}
use Rattle.rina_flows.specs.Ending.{EndsAt}
use Rattle.rina_flows.specs.Tied.{IsAt, IsInboundAt, IsUsed, conns_of, inward, outward}

-- What is due

-- by its sender a number is due at a place, to be given up or to be sent again
pub record IsNumberDue (due : Constants → ℕ → Sender → Option ℕ) (g : Config) (conns : List Conn) (lines : List Direction) (at : ℕ) : Type 0 where
  pub conn : Conn
  pub is_conn : slice_get conns at ≡ Some conn
  pub line : Direction
  pub is_line : slice_get lines at ≡ Some line
  pub number : ℕ
  pub is_due : due (outward g conn) line.line.clock line.line.sender ≡ Some number

-- by its receiver an acknowledgement is due
pub record IsAckDue (g : Config) (flows : Flows) (lines : List Direction) (at : ℕ) : Type 0 where
  pub end : End
  pub conn : Conn
  pub is_at : IsAt flows.journal.ends flows.conns at end conn
  pub from : ℕ
  pub line : Direction
  pub inbound : IsInboundAt flows.journal.ends lines end from line
  pub is_due : is_ack_due (inward g conn) line ≡ true

-- its receiver holds pieces of a state that is gone
pub record IsGoneDue (now : ℕ) (conns : List Conn) (at : ℕ) : Type 0 where
  pub conn : Conn
  pub is_conn : slice_get conns at ≡ Some conn
  pub gone : HoldsGone now conn

-- the item is due at the end of a place
abbrev pub IsDue : Item → Config → ℕ → Flows → List Direction → ℕ → Type 0
IsDue Gone g now flows lines at = IsGoneDue now flows.conns at
IsDue GiveUp g now flows lines at = IsNumberDue given_up g flows.conns lines at
IsDue Ack g now flows lines at = IsAckDue g flows lines at
IsDue Again g now flows lines at = IsNumberDue again_due g flows.conns lines at

-- whether it is, at an allocated end of flows that are tied
abbrev pub DueIn : Item → ℕ → ℕ → Flows → Bool → Type 0
DueIn item now at flows told = (g : Config) (lines : List Direction) (end : End) → IsJournal now flows.journal.ends → AreTied g now flows lines → At flows.journal.ends at end → end.state ≡ Allocated → IsTrue told ↔ IsDue item g now flows lines at

-- An acknowledgement that is made

abbrev pub IsAcknowledged : Conn → Conn → Type 0
IsAcknowledged old new = new ≡ record old { plan = without old.plan }

-- the receiver of an allocated end has made one, and the flows stay tied
pub record HasAcknowledged (g : Config) (now at : ℕ) (end : End) (old : Flows) (lines : List Direction) (new : Flows) : Type 0 where
  pub conn : Conn
  pub is_conn : slice_get old.conns at ≡ Some conn
  pub from : ℕ
  pub line : Direction
  pub inbound : IsInboundAt old.journal.ends lines end from line
  pub lines' : List Direction
  pub lines_are : lines' ≡ slice_set lines from (after_ack true (inward g conn) line)
  pub same : new.journal ≡ old.journal
  pub tied : AreTied g now new lines'
  pub ids : SameIds old new

abbrev pub AcknowledgesIn : ℕ → Flows → Flows → Type 0
AcknowledgesIn at old new = (g : Config) (now : ℕ) (lines : List Direction) (end : End) → IsJournal now old.journal.ends → AreTied g now old lines → At old.journal.ends at end → end.state ≡ Allocated → HasAcknowledged g now at end old lines new

-- A number that is sent again

pub record IsSentAgain (now : ℕ) (old new : Conn) : Type 0 where
  pub sends : SendsAgain now old.sending new.sending
  pub same : new ≡ record old { sending = new.sending }

-- the sender at a place has sent the number again that was due, if one was, and the flows stay tied
pub record HasSentAgain (g : Config) (now at : ℕ) (old : Flows) (lines : List Direction) (new : Flows) : Type 0 where
  pub conn : Conn
  pub is_conn : slice_get old.conns at ≡ Some conn
  pub line : Direction
  pub is_line : slice_get lines at ≡ Some line
  pub lines' : List Direction
  pub lines_are : lines' ≡ slice_set lines at (after_again (again_due (outward g conn) line.line.clock line.line.sender) (outward g conn) line)
  pub same : new.journal ≡ old.journal
  pub tied : AreTied g now new lines'
  pub ids : SameIds old new

abbrev pub SendsAgainIn : ℕ → ℕ → Flows → Flows → Type 0
SendsAgainIn now at old new = (g : Config) (lines : List Direction) → AreTied g now old lines → IsUsed old.journal.ends at → HasSentAgain g now at old lines new

-- A number that is given up

-- the sender at a place gives a number up: the flow has failed at its end
pub record GivesUpAt (g : Config) (now : ℕ) (ends : List End) (ids : List Ids) (lines : List Direction) (at number : ℕ) (offs : List Off) (ends' : List End) : Type 0 where
  pub line : Direction
  pub is_line : slice_get lines at ≡ Some line
  pub its_ids : Ids
  pub ids_are : slice_get ids at ≡ Some its_ids
  pub cube : Cube
  pub is_cube : cube_by its_ids.qos g.cubes ≡ Some cube
  pub late : given_up (constants g cube its_ids) line.line.clock line.line.sender ≡ Some number
  pub ended : EndsAt ends ids lines at (Failed (GaveUp (record { cep = its_ids.scep; seq = number }) (member line.line.sender.run number).first now)) offs ends'

-- what its connection held is given up, and the flows stay tied
pub record HasGivenUp (g : Config) (now at : ℕ) (num : Num) (old : Flows) (ledger : List Off) (lines : List Direction) (new : Flows) (ledger' : List Off) : Type 0 where
  pub offs : List Off
  pub gives_up : GivesUpAt g now old.journal.ends (conns_of old.conns) lines at num.seq offs new.journal.ends
  pub num_is : num.cep ≡ gives_up.its_ids.scep
  pub ledger_is : ledger' ≡ ledger ++ offs
  pub tied : AreTied g now new lines
  pub ids : SameIds old new

-- no number of the sender at a place is given up now
abbrev pub GivesNoneUp : Config → ℕ → List Conn → List Direction → Type 0
GivesNoneUp g at conns lines = (conn : Conn) (line : Direction) → slice_get conns at ≡ Some conn → slice_get lines at ≡ Some line → given_up (outward g conn) line.line.clock line.line.sender ≡ None

-- `give_up` answers which one is
abbrev pub GivesUpIn : ℕ → ℕ → Flows → List Off → Result (Option Num) Memory → Flows → List Off → Type 0
GivesUpIn now at old ledger (Ok (Some num)) new ledger' = (g : Config) (lines : List Direction) (end : End) → IsJournal now old.journal.ends → AreTied g now old lines → At old.journal.ends at end → end.state ≡ Allocated → HasGivenUp g now at num old ledger lines new ledger'
GivesUpIn now at old ledger (Ok None) new ledger' = ((g : Config) (lines : List Direction) → AreTied g now old lines → GivesNoneUp g at old.conns lines) × (new ≡ old) × (ledger' ≡ ledger)
GivesUpIn now at old ledger (Err e) new ledger' = (new ≡ old) × (ledger' ≡ ledger)
