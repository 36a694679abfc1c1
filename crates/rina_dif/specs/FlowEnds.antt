-- What becomes of the managements of the members of a DIF where a flow ends, and in a clock step: the far end of a flow that is given up is
-- told.
use Rattle.std.specs.Prelude.{◌≡◌, ◌≢◌, ◌⊎◌, ℕ, List, slice_get, Option, Some, None, Result, Ok, Err}
use Rattle.rina_alloc.specs.declared.message.FlowMessage.{FlowMessage}
use Rattle.rina_alloc.specs.declared.message.FlowWord.TheVariants.{Delete}
use Rattle.rina_base.specs.declared.memory.Memory.{Memory as NoMemory}
use Rattle.rina_base.specs.declared.number.Num.{Num}
use Rattle.rina_conn.specs.declared.conn.Conn.{Conn}
use Rattle.rina_conn.specs.declared.form.Peer.{Peer}
use Rattle.rina_data.specs.declared.step.ClockStep.{ClockStep}
use Rattle.rina_data.specs.declared.step.ClockStep.TheVariants as step
use Rattle.rina_data.specs.declared.step.StepError.{StepError}
use Rattle.rina_data.specs.declared.step.StepError.TheVariants.{Memory}
use Rattle.rina_iface.specs.declared.ends.End.{End}
use Rattle.rina_iface.specs.declared.state.PortState.{PortState}
use Rattle.rina_iface.specs.declared.state.PortState.TheVariants.{Allocated}
use Rattle.rina_iface.specs.Seen.{Seen}
use Rattle.rina_member.specs.declared.management.Management.{Management}
use Rattle.rina_member.specs.Managements.{claimed, with_agent, with_sent}
use Rattle.rina_dif.specs.declared.dif.Dif.{Dif}
use Rattle.rina_dif.specs.Changing.{EndsFlow, LosesManaged, changed_at, without_flow_at}
use Rattle.rina_dif.specs.Elsewhere.{IsEndOf, home_of}
use Rattle.rina_dif.specs.Posting.{message_of, posts}

-- One end

-- an allocated end at a node is closed: the member there deletes its object
abbrev pub ClosesManaged : Result (Unit {0}) NoMemory → Dif → ℕ → ℕ → List Management → Type 0
ClosesManaged (Ok done) d node at new = (i : ℕ) × (home_of d node ≡ Some i) × EndsFlow d i at new
ClosesManaged (Err e) d node at new = new ≡ d.managements

-- a flow fails at the end of a place, which is one of the member at place i; or none does
abbrev pub FailsManaged : Result (Option Num) NoMemory → Dif → ℕ → ℕ → List Management → Type 0
FailsManaged (Ok (Some num)) d i at new = EndsFlow d i at new
FailsManaged result d i at new = new ≡ d.managements

-- The far end is told

-- the message that tells the far end of a connection that its flow is given up
abbrev pub delete_of : Peer → FlowMessage
delete_of peer = message_of peer.far peer.own (Delete peer.dcep peer.scep)

-- the member at place i tells it to the far end of the flow of the end at a place
pub record TellsFar (d : Dif) (i at : ℕ) (new : List Management) : Type 0 where
  pub conn : Conn
  pub is_conn : slice_get d.flows.conns at ≡ Some conn
  pub are : new ≡ posts d i (delete_of conn.sending.form.peer) d.managements

-- and deletes the object of the flow
pub record GivesFlowUp (d : Dif) (i at : ℕ) (new : List Management) : Type 0 where
  pub conn : Conn
  pub is_conn : slice_get d.flows.conns at ≡ Some conn
  pub are : new ≡ without_flow_at i conn.sending.form.peer.scep (posts d i (delete_of conn.sending.form.peer) d.managements)

-- An end is freed

-- an allocated end is freed: the member at its node gives the flow up; any other end has no far end that knows of it
abbrev pub ManagesFree : PortState → Dif → ℕ → End → List Management → Type 0
ManagesFree Allocated d at end new = (i : ℕ) × (home_of d end.port.node ≡ Some i) × GivesFlowUp d i at new
ManagesFree state d at end new = new ≡ d.managements

-- the far end of the allocated end at a place was told
pub record HasTold (d : Dif) (at : ℕ) (new : List Management) : Type 0 where
  pub end : End
  pub is_end : slice_get d.flows.journal.ends at ≡ Some end
  pub allocated : end.state ≡ Allocated
  pub i : ℕ
  pub at_home : home_of d end.port.node ≡ Some i
  pub tells : TellsFar d i at new

-- what `free` does at the end of a place; where it is refused none changes, but that the far end may have been told before memory ran out
abbrev pub FreesManaged : {E : Type 0} → Option ℕ → Result (Unit {0}) E → Dif → List Management → Type 0
FreesManaged (Some at) (Ok done) d new = (end : End) × (slice_get d.flows.journal.ends at ≡ Some end) × ManagesFree end.state d at end new
FreesManaged (Some at) (Err e) d new = (new ≡ d.managements) ⊎ HasTold d at new
FreesManaged None result d new = new ≡ d.managements

-- A number is given up

-- the member gives the flow up, or none does. Without memory the far end may have been told
abbrev pub ManagesGiveUp : Result (Option Num) NoMemory → Dif → ℕ → ℕ → List Management → Type 0
ManagesGiveUp (Ok (Some num)) d i at new = GivesFlowUp d i at new
ManagesGiveUp (Ok None) d i at new = new ≡ d.managements
ManagesGiveUp (Err e) d i at new = (new ≡ d.managements) ⊎ TellsFar d i at new

-- the member at place i gives the flow of one of its ends up, which has this CEP-id
pub record GaveFlowUp (d : Dif) (i cep : ℕ) (new : List Management) : Type 0 where
  pub place : ℕ
  pub end_of : IsEndOf d (Some i) place
  pub gives : GivesFlowUp d i place new
  pub cep_is : gives.conn.sending.form.peer.scep ≡ cep

-- the member at place i told it to the far end of one of its ends
pub record HasToldOne (d : Dif) (i : ℕ) (new : List Management) : Type 0 where
  pub place : ℕ
  pub end_of : IsEndOf d (Some i) place
  pub tells : TellsFar d i place new

-- A clock step

-- where a link is lost, the management of the member loses it; where one is new, it gets it; where a flow is given up, the member tells the far
-- end, and deletes its object; a management connection, which is told with the CEP-id 0, has none; where a message goes over a link, it waits
-- there no more; else none changes. Without memory a far end may have been told
abbrev pub ManagesStep : Result ClockStep StepError → Option ℕ → Dif → Seen → ℕ → List Management → Type 0
ManagesStep (Ok (step.LinkLost number)) (Some at) d below node new = LosesManaged d below at node number new
ManagesStep (Ok (step.LinkNew number)) (Some at) d below node new = new ≡ changed_at at (λ m. with_agent m (claimed m.agent number)) d.managements
ManagesStep (Ok (step.GaveUp num)) (Some at) d below node new = ((num.cep ≢ 0) × GaveFlowUp d at num.cep new) ⊎ ((num.cep ≡ 0) × (new ≡ d.managements))
ManagesStep (Ok (step.Message number)) (Some at) d below node new = new ≡ changed_at at (λ m. with_sent m number) d.managements
ManagesStep (Err Memory) (Some at) d below node new = (new ≡ d.managements) ⊎ HasToldOne d at new
ManagesStep result home d below node new = new ≡ d.managements
