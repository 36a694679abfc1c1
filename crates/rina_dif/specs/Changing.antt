-- What the events of a DIF make of the managements of its members: of their items, and of the objects that they show.
use Rattle.std.specs.Prelude.{◌≡◌, ℕ, List, [], length, map, slice_get, slice_set, if◌then◌else◌, Option, Some, None, Result, Ok, Err}
use Rattle.std.specs.List.{filter_map, zip}
use Rattle.rina_base.specs.declared.memory.Memory.{Memory}
use Rattle.rina_base.specs.declared.number.Port.{Port}
use Rattle.rina_conn.specs.declared.conn.Conn.{Conn}
use Rattle.rina_data.specs.declared.loss.Lost.{Lost}
use Rattle.rina_data.specs.declared.settings.Member.{Member}
use Rattle.rina_flows.specs.declared.flows.Flows.{Flows}
use Rattle.rina_flows.specs.Stopping.{is_here}
use Rattle.rina_ids.specs.Members.{DrawsAt}
use Rattle.rina_iface.specs.declared.ask.Fixed.{Fixed}
use Rattle.rina_iface.specs.declared.ends.End.{End}
use Rattle.rina_iface.specs.declared.error.AllocateError.{AllocateError}
use Rattle.rina_iface.specs.Seen.{Seen}
use Rattle.rina_member.specs.declared.management.Management.{Management}
use Rattle.rina_member.specs.Managements.{LosesLink, MayHoldEntry, entered, with_flow, without_flow, without_flows}
use Rattle.rina_dif.specs.declared.dif.Dif.{Dif}
use Rattle.rina_dif.specs.Elsewhere.{home_of}
use Rattle.rina_dif.specs.Unlinking.{FindsLostAt, FindsNoneLeft}

-- One member

-- the management of the member at a place becomes another, and no other changes
abbrev pub changed_if : Option Management → ℕ → (Management → Management) → List Management → List Management
changed_if None at f ms = ms
changed_if (Some m) at f ms = slice_set ms at (f m)

abbrev pub changed_at : ℕ → (Management → Management) → List Management → List Management
changed_at at f ms = changed_if (slice_get ms at) at f ms

-- the member at a place shows the object of a flow from now on
abbrev pub with_flow_at : ℕ → ℕ → List Management → List Management
with_flow_at at cep ms = changed_at at (λ m. with_flow m cep) ms

-- the member at a place deletes the object of a flow
abbrev pub without_flow_at : ℕ → ℕ → List Management → List Management
without_flow_at at cep ms = changed_at at (λ m. without_flow m cep) ms

-- A flow is bound

-- every member takes the entry of the far application, at the address of its member, and then each of the two members shows the
-- object of its end, which has the CEP-id that it draws
pub record ManagesBind (d : Dif) (fixed : Fixed) (new : List Management) : Type 0 where
  pub a : ℕ
  pub at_a : home_of d fixed.a ≡ Some a
  pub b : ℕ
  pub at_b : home_of d fixed.b ≡ Some b
  pub far : Member
  pub is_far : slice_get d.settings.members b ≡ Some far
  pub scep : ℕ
  pub draws_a : DrawsAt d.ids d.clock a scep
  pub dcep : ℕ
  pub draws_b : DrawsAt d.ids d.clock b dcep
  pub are : new ≡ with_flow_at b dcep (with_flow_at a scep (map (entered fixed.b_app far.addr) d.managements))

-- each member has its management still, whatever objects it shows; its agent is as before, or took the entry of an application at an
-- address
pub record MayHaveEntered (app : List ℕ) (address : ℕ) (old new : List Management) : Type 0 where
  pub aligned : length new ≡ length old
  pub each : (k : ℕ) (m m' : Management) → slice_get old k ≡ Some m → slice_get new k ≡ Some m' → MayHoldEntry app address m m'

-- so is that of each member of a DIF, for the entry of the far application of a flow
abbrev pub MayHoldFar : Dif → Fixed → List Management → Type 0
MayHoldFar d fixed new = (b : ℕ) (far : Member) → home_of d fixed.b ≡ Some b → slice_get d.settings.members b ≡ Some far → MayHaveEntered fixed.b_app far.addr d.managements new

-- what `bind` does; where an allocation failed, the agent of each member is as before, or holds the entry of the far application
abbrev pub BindsManaged : Result (Port × Port) AllocateError → Dif → Fixed → List Management → Type 0
BindsManaged (Ok ports) d fixed new = ManagesBind d fixed new
BindsManaged (Err e) d fixed new = MayHoldFar d fixed new

-- An end is allocated no more

-- the member at a place deletes the object of the flow of the end at a place
abbrev pub EndsFlow : Dif → ℕ → ℕ → List Management → Type 0
EndsFlow d i at new = (k : Conn) → slice_get d.flows.conns at ≡ Some k → new ≡ without_flow_at i k.sending.form.peer.scep d.managements

-- A link is lost

-- the CEP-id of an allocated end at a node
abbrev pub cep_here : ℕ → End × Conn → Option ℕ
cep_here node x = if is_here node x.0 then Some x.1.sending.form.peer.scep else None

abbrev pub without_flow_if : Management → Option ℕ → Management
without_flow_if m (Some cep) = without_flow m cep
without_flow_if m None = m

-- the CEP-ids of the allocated ends at a node, in the order in which they were made
abbrev pub allocated_at : ℕ → Flows → List ℕ
allocated_at node flows = filter_map (cep_here node) (zip flows.journal.ends flows.conns)

-- the flows that end with a link: all at the node, where no link is left and the flow of the last one has failed
abbrev pub ended_with : Option Port → ℕ → Flows → List ℕ
ended_with None node flows = []
ended_with (Some port) node flows = allocated_at node flows

-- the member at a place, at this node, loses its link of a number: its management loses it at this tick, the objects of the flows that
-- end with it are deleted, and no other management changes
pub record LosesManaged (d : Dif) (below : Seen) (at node number : ℕ) (new : List Management) : Type 0 where
  pub lost : Lost
  pub found : FindsLostAt d below at (Some lost)
  pub number_is : number ≡ lost.number
  pub last : Option Port
  pub left : FindsNoneLeft d below at lost.place last
  pub management : Management
  pub is_management : slice_get d.managements at ≡ Some management
  pub after : Management
  pub loses : LosesLink d.clock number management after
  pub are : new ≡ slice_set d.managements at (without_flows after (ended_with last node d.flows))

-- or an allocation failed, and none changes
abbrev pub ManagesLoss : Result (Unit {0}) Memory → Dif → Seen → ℕ → ℕ → ℕ → List Management → Type 0
ManagesLoss (Ok done) d below at node number new = LosesManaged d below at node number new
ManagesLoss (Err e) d below at node number new = new ≡ d.managements
