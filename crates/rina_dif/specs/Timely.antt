-- What comes with time to a DIF.
use Rattle.std.specs.Prelude.{◌≡◌, ℕ, Bool, true, false, List, slice_get, slice_set, Option, Some, None, Result, Ok, Err}
use Rattle.rina_account.specs.declared.ledger.Off.{Off}
use Rattle.rina_base.specs.declared.cause.Cause.{Cause}
use Rattle.rina_base.specs.declared.memory.Memory.{Memory}
use Rattle.rina_base.specs.declared.number.Num.{Num}
use Rattle.rina_iface.specs.declared.ends.End.{End}
use Rattle.rina_iface.specs.declared.state.PortState.TheVariants.{Allocated}
use Rattle.rina_iface.specs.Journal.{At}
use Rattle.rina_iface.specs.Seen.{Seen}
use Rattle.rina_law.specs.Direction.{Direction}
use Rattle.rina_data.specs.declared.process.IpcProcess.{IpcProcess}
use Rattle.rina_data.specs.declared.step.Decision.{Decision}
use Rattle.rina_data.specs.Hops.{Hop}
use Rattle.rina_data.specs.Configs.{config_of}
use Rattle.rina_data.specs.Deciding.{Forwards, process_of, queue_settings}
use Rattle.rina_dif_law.specs.Ending.{IsGivenUp}
use Rattle.rina_dif_law.specs.Sending.{home}
use Rattle.rina_dif_law.specs.Timely.{IsAcknowledged, IsForgotten, IsResent}
use Rattle.rina_flows.specs.declared.flows.Flows.{Flows}
use Rattle.rina_flows.specs.Calls.{Tells}
use Rattle.rina_flows.specs.Delivering.{HoldsGone}
use Rattle.rina_flows.specs.declared.due.Item.TheVariants.{Ack, Again}
use Rattle.rina_flows.specs.Timely.{GivesNoneUp, IsDue}
use Rattle.rina_dif.specs.declared.dif.Dif.{Dif}
use Rattle.rina_dif.specs.Holding.{Holds}
use Rattle.rina_dif.specs.Shown.{seen_of}

-- a call of the flows whose lines stand in the ledger of the IPC process at a place
abbrev pub WithLedger : (Flows → List Off → Flows → List Off → Type 0) → ℕ → Flows → List IpcProcess → Flows → List IpcProcess → Type 0
WithLedger R at flows old flows' new = (p : IpcProcess) → slice_get old at ≡ Some p → (ledger : List Off) × R flows p.ledger flows' ledger × (new ≡ slice_set old at (record p { ledger = ledger }))

-- an allocated end stands at this place, at the IPC process of place i
pub record IsHomeEnd (d : Dif) (i at : ℕ) : Type 0 where
  pub end : End
  pub is_end : At d.flows.journal.ends at end
  pub allocated : end.state ≡ Allocated
  pub at_home : home end.port.node (config_of d.settings).members ≡ Some i

-- Pieces of a state that is gone

pub record Forgets (d : Dif) (lines : List Direction) (below : Seen) (at : ℕ) (d' : Dif) : Type 0 where
  pub lines' : List Direction
  pub forgotten : IsForgotten (seen_of d) lines at (seen_of d') lines'
  pub holds : Holds d' lines' below

-- they are written off, or there are none
abbrev pub ForgetsAs : Dif → List Direction → Seen → ℕ → Result Bool Memory → Dif → Type 0
ForgetsAs d lines below at (Ok true) d' = Forgets d lines below at d' × Tells (HoldsGone d.clock) at d.flows.conns
ForgetsAs d lines below at (Ok false) d' = Tells (λ k. HoldsGone d.clock k → ⊥) at d.flows.conns × (d' ≡ d)
ForgetsAs d lines below at (Err e) d' = d' ≡ d

-- A number that is given up

pub record GivesUp (d : Dif) (lines : List Direction) (below : Seen) (at : ℕ) (num : Num) (d' : Dif) : Type 0 where
  pub given_up : IsGivenUp (seen_of d) lines at num.seq (seen_of d')
  pub cep : num.cep ≡ given_up.ids.scep
  pub holds : Holds d' lines below

-- a flow fails, or no number is given up
abbrev pub GivesUpAs : Dif → List Direction → Seen → ℕ → Result (Option Num) Memory → Dif → Type 0
GivesUpAs d lines below at (Ok (Some num)) d' = GivesUp d lines below at num d'
GivesUpAs d lines below at (Ok None) d' = GivesNoneUp (config_of d.settings) at d.flows.conns lines × (d' ≡ d)
GivesUpAs d lines below at (Err e) d' = (seen_of d' ≡ seen_of d) × Holds d' lines below

-- A PDU that is made beside a send

-- the IPC process at a place puts it into the queue of its next hop, or writes it off
abbrev pub ForwardsAt : ℕ → Hop → Result Decision Memory → ℕ → List IpcProcess → List IpcProcess → Type 0
ForwardsAt now hop result at old new = (p : IpcProcess) → slice_get old at ≡ Some p → (p' : IpcProcess) × Forwards p.queues.cap (process_of p) now hop result (process_of p') × (queue_settings p' ≡ queue_settings p) × (new ≡ slice_set old at p')

-- An acknowledgement that is made

pub record Acknowledges (d : Dif) (lines : List Direction) (below : Seen) (at : ℕ) (d' : Dif) : Type 0 where
  pub lines' : List Direction
  pub cause : Option Cause
  pub acknowledged : IsAcknowledged (seen_of d) lines at cause (seen_of d') lines'
  pub holds : Holds d' lines' below

-- one is made, or none is due
abbrev pub AcknowledgesAs : Dif → List Direction → Seen → ℕ → Result Bool Memory → Dif → Type 0
AcknowledgesAs d lines below at (Ok true) d' = Acknowledges d lines below at d'
AcknowledgesAs d lines below at (Ok false) d' = (IsDue Ack (config_of d.settings) d.clock d.flows lines at → ⊥) × (d' ≡ d)
AcknowledgesAs d lines below at (Err e) d' = (seen_of d' ≡ seen_of d) × Holds d' lines below

-- A number that is sent again

pub record SendsAgain (d : Dif) (lines : List Direction) (below : Seen) (at : ℕ) (num : Num) (d' : Dif) : Type 0 where
  pub lines' : List Direction
  pub cause : Option Cause
  pub resent : IsResent (seen_of d) lines at cause (seen_of d') lines'
  pub cep : num.cep ≡ resent.ids.scep
  pub seq : num.seq ≡ resent.number
  pub holds : Holds d' lines' below

-- one is, or none is due
abbrev pub SendsAgainAs : Dif → List Direction → Seen → ℕ → Result (Option Num) Memory → Dif → Type 0
SendsAgainAs d lines below at (Ok (Some num)) d' = SendsAgain d lines below at num d'
SendsAgainAs d lines below at (Ok None) d' = (IsDue Again (config_of d.settings) d.clock d.flows lines at → ⊥) × (d' ≡ d)
SendsAgainAs d lines below at (Err e) d' = (seen_of d' ≡ seen_of d) × Holds d' lines below
