-- The managements of the members of a DIF: from the start, and at every moment.
use Rattle.std.specs.Prelude.{◌≡◌, ◌<◌, ℕ, Bool, true, false, List, All, length, map, slice_get, slice_set, Option, Some, None, if◌then◌else◌}
use Rattle.std.specs.List.{filter_map, zip}
use Rattle.rina_access.specs.declared.rules.Rule.{Rule}
use Rattle.rina_access.specs.declared.rules.Rules.{Rules}
use Rattle.rina_agent.specs.declared.agent.Agent.{Agent}
use Rattle.rina_agent.specs.declared.state.MemberState.{MemberState}
use Rattle.rina_agent.specs.declared.state.MemberState.TheVariants.{Enrolled}
use Rattle.rina_cube.specs.declared.Cube.{Cube}
use Rattle.rina_flood.specs.Network.{is_in}
use Rattle.rina_iface.specs.Seen.{is_member}
use Rattle.rina_plan.specs.declared.dif.LinkPlan.{LinkPlan}
use Rattle.rina_data.specs.declared.link.Link.{Link}
use Rattle.rina_data.specs.declared.process.IpcProcess.{IpcProcess}
use Rattle.rina_data.specs.declared.settings.Member.{Member}
use Rattle.rina_member.specs.Knowing.{AreRoutesOf, IsLaidOut, IsPlanned, Knows}
use Rattle.rina_member.specs.declared.management.Management.{Management}
use Rattle.rina_member.specs.Objects.{first_objects}
use Rattle.rina_member.specs.Short.{TellsShort}
use Rattle.rina_member.specs.Start.{items_held, started}
use Rattle.rina_dif.specs.declared.dif.Dif.{Dif}

-- From the start

-- the management of a member as it starts, where these are the cubes and the links of the DIF, and the links of its IPC process: its
-- access rules are these, in their order, and this holds where none matches; and it shows the cubes and the items that it holds
pub record IsStarted (is_static : Bool) (cubes : List Cube) (members : List Member) (plans : List LinkPlan) (rules : List Rule) (allow : Bool) (m : Member) (links : List Link) (g : Management) : Type 0 where
  pub access : Rules
  pub rules_are : access.rules ≡ rules
  pub default_is : access.default ≡ allow
  pub is : g.agent ≡ started is_static members plans access m links
  pub shows : g.objects ≡ first_objects cubes (items_held is_static members plans m)

-- so is that of each of the first members
pub record AreStarted (is_static : Bool) (cubes : List Cube) (members : List Member) (plans : List LinkPlan) (rules : List Rule) (allow : Bool) (count : ℕ) (processes : List IpcProcess) (managements : List Management) : Type 0 where
  pub aligned : length managements ≡ count
  pub each : (k : ℕ) (m : Member) (p : IpcProcess) (g : Management) → slice_get members k ≡ Some m → slice_get processes k ≡ Some p → slice_get managements k ≡ Some g → IsStarted is_static cubes members plans rules allow m p.links g

-- At every moment

-- the managements without the objects that the members show
abbrev pub agents_of : List Management → List Agent
agents_of managements = map (λ (m : Management). m.agent) managements

-- the states of the members
abbrev pub states_of : List Management → List MemberState
states_of managements = map (λ (g : Agent). g.state) (agents_of managements)

-- the node of a member that is enrolled
abbrev pub node_if_enrolled : Member × MemberState → Option ℕ
node_if_enrolled x = if is_in x.1 then Some x.0.node else None

-- the nodes of the members that are enrolled, in their order
abbrev pub enrolled_nodes : List Member → List MemberState → List ℕ
enrolled_nodes members states = filter_map node_if_enrolled (zip members states)

-- the nodes of the enrolled members are these. All members of a static DIF are enrolled; any other DIF has no fixed flows
pub record AreEnrolledBy (is_static : Bool) (members : List Member) (admits : ℕ) (states : List MemberState) (nodes : List ℕ) : Type 0 where
  pub known : nodes ≡ enrolled_nodes members states
  pub all : is_static ≡ true → All (λ state. state ≡ Enrolled) states
  pub unfixed : is_static ≡ false → admits ≡ 0

-- who is enrolled stays so: of two lists of nodes the second has each of the first
abbrev pub StayEnrolled : List ℕ → List ℕ → Type 0
StayEnrolled old new = (node : ℕ) → is_member old node ≡ true → is_member new node ≡ true

-- so a DIF knows its own
abbrev pub AreEnrolled : Dif → Type 0
AreEnrolled d = AreEnrolledBy d.laid.is_static d.settings.members d.settings.admits (states_of d.managements) d.enrolled

-- the nodes of the enrolled members once the member at a place is managed so
abbrev pub nodes_with : Dif → ℕ → Management → List ℕ
nodes_with d at after = enrolled_nodes d.settings.members (states_of (slice_set d.managements at after))

-- each link has one of the first 16 numbers: no more links are live at once
abbrev pub AreBounded : List Link → Type 0
AreBounded links = (k : ℕ) (link : Link) → slice_get links k ≡ Some link → link.number < 16

-- at a tick, the management of a member knows the live links of its IPC process. In a static DIF the first of them are those of the plan, and
-- behind them stand those that enrolments made. The next hops of the IPC process are over the items that the management holds: the first links of
-- least walks over the edges that the link states of both ends claim. And the member tells short messages alone
pub record IsManaged (is_static : Bool) (members : List Member) (plans : List LinkPlan) (now : ℕ) (m : Member) (p : IpcProcess) (g : Management) : Type 0 where
  pub knows : Knows now m p.links g.agent
  pub planned : is_static ≡ true → IsPlanned members plans m p.links g.agent
  pub bounded : AreBounded p.links
  pub routes : AreRoutesOf g.agent members p.routes
  pub tells : TellsShort g.agent

-- the members and links are as a plan may lay them out, each member has a management at its place, and each IPC process
-- is managed so
pub record AreManagedBy (is_static : Bool) (members : List Member) (plans : List LinkPlan) (now : ℕ) (processes : List IpcProcess) (managements : List Management) : Type 0 where
  pub laid_out : IsLaidOut members plans
  pub aligned : length managements ≡ length members
  pub each : (k : ℕ) (m : Member) (p : IpcProcess) (g : Management) → slice_get members k ≡ Some m → slice_get processes k ≡ Some p → slice_get managements k ≡ Some g → IsManaged is_static members plans now m p g

-- so are those of a DIF
abbrev pub AreManaged : Dif → Type 0
AreManaged d = AreManagedBy d.laid.is_static d.settings.members d.laid.links d.clock d.processes d.managements
