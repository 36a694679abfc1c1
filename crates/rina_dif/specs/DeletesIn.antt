-- What a member does where the far end of a flow gives it up.
use Rattle.std.specs.Prelude.{◌≡◌, ◌≤◌, ◌⊎◌, ℕ, List, slice_get, Option, Some, None, Result}
use Rattle.rina_base.specs.declared.memory.Memory.{Memory as NoMemory}
use Rattle.rina_conn.specs.declared.conn.Conn.{Conn}
use Rattle.rina_conn.specs.declared.form.Peer.{Peer}
use Rattle.rina_data.specs.declared.settings.Member.{Member}
use Rattle.rina_iface.specs.declared.ends.End.{End}
use Rattle.rina_iface.specs.declared.state.PortState.TheVariants.{Allocated}
use Rattle.rina_iface.specs.Seen.{Seen}
use Rattle.rina_law.specs.Direction.{Direction}
use Rattle.rina_flows.specs.Tied.{IsAt}
use Rattle.rina_dif.specs.declared.dif.Dif.{Dif}
use Rattle.rina_dif.specs.FlowEnds.{ClosesManaged}
use Rattle.rina_dif.specs.Freeing.{FreesHere}

-- a connection has these two ends
pub record IsBetween (peer : Peer) (own far scep dcep : ℕ) : Type 0 where
  pub own_is : peer.own ≡ own
  pub far_is : peer.far ≡ far
  pub scep_is : peer.scep ≡ scep
  pub dcep_is : peer.dcep ≡ dcep

-- at a place stands the allocated end of such a one
pub record IsUpAt (d : Dif) (own far scep dcep place : ℕ) : Type 0 where
  pub end : End
  pub conn : Conn
  pub is_at : IsAt d.flows.journal.ends d.flows.conns place end conn
  pub allocated : end.state ≡ Allocated
  pub between : IsBetween conn.sending.form.peer own far scep dcep

abbrev pub NoneUp : Dif → ℕ → ℕ → ℕ → ℕ → Type 0
NoneUp d own far scep dcep = (place : ℕ) → IsUpAt d own far scep dcep place → ⊥

-- the first of them
pub record IsFirstUp (d : Dif) (own far scep dcep place : ℕ) : Type 0 where
  pub is_up : IsUpAt d own far scep dcep place
  pub least : (other : ℕ) → IsUpAt d own far scep dcep other → place ≤ other

-- it is found, or there is none
abbrev pub FindsUp : Dif → ℕ → ℕ → ℕ → ℕ → Option ℕ → Type 0
FindsUp d own far scep dcep None = NoneUp d own far scep dcep
FindsUp d own far scep dcep (Some place) = IsFirstUp d own far scep dcep place

-- the member at a place hears from the member of an address that the flow was given up whose far end has the CEP-id `dcep` here: this end is
-- closed, and its object is deleted; where there is none nothing happens
pub record ClosesUp (d : Dif) (lines : List Direction) (below : Seen) (own from dcep scep : ℕ) (r : Result (Unit {0}) NoMemory) (d' : Dif) : Type 0 where
  pub place : ℕ
  pub first : IsFirstUp d own from dcep scep place
  pub frees : FreesHere d lines below place r d'
  pub manages : ClosesManaged r d first.is_up.end.port.node place d'.managements

abbrev pub TakesDelete : Dif → List Direction → Seen → ℕ → ℕ → ℕ → ℕ → Result (Unit {0}) NoMemory → Dif → Type 0
TakesDelete d lines below at from dcep scep r d' = (m : Member) → slice_get d.settings.members at ≡ Some m → ClosesUp d lines below m.addr from dcep scep r d' ⊎ (NoneUp d m.addr from dcep scep × (d' ≡ d))
