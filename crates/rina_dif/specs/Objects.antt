-- The objects of an IPC process: what it shows when it is asked.
use Rattle.std.specs.Prelude.{◌≡◌, ℕ, ◌==◌, Bool, true, false, List, ◌++◌, codes, filter, length, map, slice_get, Option, Some, None, Result, Ok, Err, if◌then◌else◌}
use Rattle.std.specs.List.{fold}
use Rattle.std.specs.Fmt.{decimal}
use Rattle.rina_conn.specs.declared.conn.Conn.{Conn}
use Rattle.rina_conn.specs.Sending as sender
use Rattle.rina_dtp.specs.Observed as receiver
use Rattle.rina_iface.specs.declared.ends.End.{End}
use Rattle.rina_iface.specs.declared.state.PortState.{PortState}
use Rattle.rina_iface.specs.declared.state.PortState.TheVariants.{Allocated}
use Rattle.rina_data.specs.declared.settings.Member.{Member}
use Rattle.rina_data.specs.declared.step.StepError.{StepError}
use Rattle.rina_data.specs.declared.step.StepError.TheVariants.{Memory, NoIpc}
use Rattle.rina_data.specs.Configs.{config_of}
use Rattle.rina_dif_law.specs.Sending.{home}
use Rattle.rina_member.specs.declared.management.Management.{Management}
use Rattle.rina_member.specs.Objects.{flow_name, told}
use Rattle.rina_base.specs.declared.class.Class.{Class}
use Rattle.rina_base.specs.declared.class.Class.TheVariants as classes
use Rattle.rina_rib.specs.Objects.{Named}
use Rattle.rina_rib.specs.Rows.{Tree}
use Rattle.rina_rib.specs.Walks.{within}
use Rattle.rina_dif.specs.declared.dif.Dif.{Dif}
use Rattle.rina_dif.specs.declared.flow_state.FlowState.{FlowState}
use Rattle.rina_dif.specs.declared.shown.Shown.{Shown}

-- What one object shows

abbrev pub shown : List ℕ → Class → List ℕ → Shown
shown name class value = record { name = name; class = class; value = value }

-- a number, or a dash where there is no state
abbrev pub number_text : Option ℕ → List ℕ
number_text (Some n) = decimal n
number_text None = codes "-"

-- a flow: its next number, and the number after the greatest one that it accepted
unfoldable pub flow_object : FlowState → Shown
flow_object f = shown (flow_name f.cep) classes.Flow (codes "tx=" ++ number_text f.tx ++ codes ",rx=" ++ number_text f.rx)

-- The flows of a DIF

abbrev pub is_allocated : PortState → Bool
is_allocated Allocated = true
is_allocated other = false

-- one end of a flow, as its connection tells it at a tick
pub record IsFlow (now : ℕ) (e : End) (k : Conn) (f : FlowState) : Type 0 where
  pub node : f.node ≡ e.port.node
  pub cep : f.cep ≡ k.sending.form.peer.scep
  pub open_is : f.open ≡ is_allocated e.state
  pub tx : sender.TellsNext now k.sending f.tx
  pub rx : receiver.TellsNext now k.rx f.rx

-- all ends of the flows of a DIF, in the order of binding
pub record AreFlows (d : Dif) (flows : List FlowState) : Type 0 where
  pub aligned : length flows ≡ length d.flows.conns
  pub each : (at : ℕ) (e : End) (k : Conn) (f : FlowState) → slice_get d.flows.journal.ends at ≡ Some e → slice_get d.flows.conns at ≡ Some k → slice_get flows at ≡ Some f → IsFlow d.clock e k f

-- the ends of flows at a node
abbrev pub flows_at : ℕ → List FlowState → List FlowState
flows_at node flows = filter (λ (f : FlowState). f.node == node) flows

-- The RIB

-- a flow has these numbers, while it is allocated
abbrev pub told_open : Tree → FlowState → Tree
told_open t f = if f.open then told t (flow_object f).name (flow_object f).class (flow_object f).value else t

-- the RIB now: the objects that a member shows, each allocated flow among them with its numbers of now
abbrev pub rib_of : Tree → List FlowState → Tree
rib_of kept flows = fold told_open kept flows

-- the RIB of the IPC process at a place
pub record IsRibAt (d : Dif) (at : ℕ) (t : Tree) : Type 0 where
  pub member : Member
  pub is_member : slice_get d.settings.members at ≡ Some member
  pub management : Management
  pub is_management : slice_get d.managements at ≡ Some management
  pub flows : List FlowState
  pub are_flows : AreFlows d flows
  pub is : t ≡ rib_of management.objects (flows_at member.node flows)

-- the RIB of the member at a node
pub record IsRib (d : Dif) (node : ℕ) (t : Tree) : Type 0 where
  pub place : ℕ
  pub at_home : home node (config_of d.settings).members ≡ Some place
  pub is : IsRibAt d place t

-- What is shown of it

abbrev pub shown_of : Named → Shown
shown_of x = shown x.0 x.1.class x.1.value

-- the object of a name and all under it, in the order of names
pub record IsShownUnder (d : Dif) (node : ℕ) (under : List ℕ) (objects : List Shown) : Type 0 where
  pub rib : Tree
  pub is_rib : IsRib d node rib
  pub are : objects ≡ map shown_of (within under rib.objects)

-- the DIF has a member at the node
pub record HasMember (d : Dif) (node : ℕ) : Type 0 where
  pub place : ℕ
  pub at_home : home node (config_of d.settings).members ≡ Some place

-- a node without a member is refused; memory can be missing where there is one
abbrev pub ShowsUnder : Dif → ℕ → List ℕ → Result (List Shown) StepError → Type 0
ShowsUnder d node under (Ok objects) = IsShownUnder d node under objects
ShowsUnder d node under (Err Memory) = HasMember d node
ShowsUnder d node under (Err NoIpc) = home node (config_of d.settings).members ≡ None
ShowsUnder d node under (Err other) = ⊥
