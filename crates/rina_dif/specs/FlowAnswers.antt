-- How the answer of yes to an ask comes to the end that asked.
use Rattle.std.specs.Prelude.{◌≡◌, ℕ, List, Option, Some, None, Result, Ok, Err}
use Rattle.rina_base.specs.declared.memory.Memory.{Memory as NoMemory}
use Rattle.rina_base.specs.declared.number.FlowName.{FlowName}
use Rattle.rina_conn.specs.declared.conn.Conn.{Conn}
use Rattle.rina_iface.specs.declared.ends.End.{End}
use Rattle.rina_iface.specs.declared.state.PortState.TheVariants.{Pending}
use Rattle.rina_iface.specs.declared.state.Role.TheVariants.{Asker, Far}
use Rattle.rina_iface.specs.Journal.{At}
use Rattle.rina_iface.specs.Seen.{Seen}
use Rattle.rina_law.specs.Direction.{Direction}
use Rattle.rina_dif_law.specs.Answering.{IsAnsweredTo}
use Rattle.rina_flows.specs.Tied.{IsAt}
use Rattle.rina_dif.specs.declared.dif.Dif.{Dif}
use Rattle.rina_dif.specs.Changing.{with_flow_at}
use Rattle.rina_dif.specs.Elsewhere.{home_of}
use Rattle.rina_dif.specs.Freeing.{IsKept}
use Rattle.rina_dif.specs.Holding.{Holds}
use Rattle.rina_dif.specs.Shown.{seen_of}

-- at a place stands the end of an asker that waits, at the member of another place
pub record WaitsAtHome (d : Dif) (at place : ℕ) : Type 0 where
  pub end : End
  pub is_end : At d.flows.journal.ends place end
  pub asks : end.role ≡ Asker
  pub waits : end.state ≡ Pending
  pub at_home : home_of d end.port.node ≡ Some at

-- at a place stands the far end of a flow, which has this CEP-id at the member of this address
pub record IsFarEndAt (d : Dif) (place : ℕ) (flow : FlowName) (own cep : ℕ) : Type 0 where
  pub end : End
  pub conn : Conn
  pub is_at : IsAt d.flows.journal.ends d.flows.conns place end conn
  pub is_far : end.role ≡ Far
  pub same : end.flow ≡ flow
  pub own_is : conn.sending.form.peer.own ≡ own
  pub cep_is : conn.sending.form.peer.scep ≡ cep

-- where it stands; None exactly where there is none
abbrev pub FindsFarEnd : Dif → FlowName → ℕ → ℕ → Option ℕ → Type 0
FindsFarEnd d flow own cep None = (place : ℕ) → IsFarEndAt d place flow own cep → ⊥
FindsFarEnd d flow own cep (Some place) = IsFarEndAt d place flow own cep

-- the far end of the flow of the end at a place stands at another
pub record StandsFar (d : Dif) (place far_at : ℕ) : Type 0 where
  pub own : ℕ
  pub cep : ℕ
  pub far : (end : End) → At d.flows.journal.ends place end → IsFarEndAt d far_at end.flow own cep

-- the end is allocated, and its member shows the flow
pub record HasBoundEnd (d : Dif) (lines : List Direction) (below : Seen) (at place : ℕ) (d' : Dif) : Type 0 where
  pub answered : IsAnsweredTo (seen_of d) place (seen_of d')
  pub managed : d'.managements ≡ with_flow_at at answered.ids.scep d.managements
  pub holds : Holds d' lines below

-- without memory nothing is seen to change
abbrev pub BindsEnd : Dif → List Direction → Seen → ℕ → ℕ → Result (Unit {0}) NoMemory → Dif → Type 0
BindsEnd d lines below at place (Ok done) d' = HasBoundEnd d lines below at place d'
BindsEnd d lines below at place (Err e) d' = IsKept d lines below d'
