-- The start of a DIF as a network: each member that is enrolled keeps the items of the start, and nothing waits or is on its way.
use Rattle.std.specs.Prelude.{◌≡◌, ℕ, ◌+◌, ◌*◌, ◌<◌, ◌==◌, Bool, true, false, List, [], length, position, slice_get, Option, Some, None, option_and_then, option_map, unwrap_or, if◌then◌else◌, ◌∷◌, Contains, ◌≤◌, ◌^◌}
use Rattle.rina_access.specs.declared.rules.Rules.{Rules}
use Rattle.rina_newest.specs.declared.item.Item.{Item}
use Rattle.rina_agent.specs.declared.agent.Agent.{Agent}
use Rattle.rina_agent.specs.declared.state.MemberState.TheVariants.{Outside}
use Rattle.rina_dir.specs.Directory.{key_of}
use Rattle.rina_plan.specs.declared.dif.LinkPlan.{LinkPlan}
use Rattle.rina_data.specs.declared.link.Link.{Link}
use Rattle.rina_data.specs.declared.settings.Member.{Member}
use Rattle.rina_member.specs.Knowing.{AreLive, AreNumbered, IsEntryKey, IsLaidOut}
use Rattle.rina_member.specs.Managements.{entry_of}
use Rattle.rina_member.specs.Routing.{edges_from}
use Rattle.rina_member.specs.Start.{HasLinksIfStatic, first_version, start_items, started, starts_enrolled}
use Rattle.rina_flood.specs.Network.{Side, Near, Far, EndState, Unmade, There, Network, Row, Make, Know, IsRun, after_rows, IsStart}
use Rattle.rina_flood.specs.Laws.{AllLeaveLinkState, TellsLinks, TellsNone}

-- Members

-- the agent of a member from the start: where it is enrolled it keeps the items of the start, and its links are up. These are numbered by
-- their places, none is lost, and there is one for each link of the plan. In a DIF that is not static there are none
pub record IsFirst (is_static : Bool) (members : List Member) (plans : List LinkPlan) (m : Member) (a : Agent) : Type 0 where
  pub rules : Rules
  pub links : List Link
  pub numbered : AreNumbered links
  pub live : AreLive links
  pub enough : length (edges_from members m.node plans) ≤ length links
  pub bare : HasLinksIfStatic is_static links
  pub is : a ≡ started is_static members plans rules m links

-- the agents are those of the members from the start, at the same places
pub record AreFirst (is_static : Bool) (members : List Member) (plans : List LinkPlan) (agents : List Agent) : Type 0 where
  pub aligned : length agents ≡ length members
  pub each : (k : ℕ) (m : Member) (a : Agent) → slice_get members k ≡ Some m → slice_get agents k ≡ Some a → IsFirst is_static members plans m a

-- the place of the member that has an address
abbrev pub place_at : List Member → ℕ → Option ℕ
place_at members address = position (λ (m : Member). m.addr == address) members

-- the agent at an address that no member has: it is outside, and has no links
abbrev pub nobody : Rules → ℕ → Agent
nobody rules address = record {
  state = Outside;
  address = address;
  name = [];
  node = [];
  rules = rules;
  items = [];
  last_count = 0;
  last_invoke = 0;
  links = [];
  agenda = [];
}

abbrev pub or_nobody : Rules → ℕ → Option Agent → Agent
or_nobody rules address None = nobody rules address
or_nobody rules address (Some a) = a

-- the agent at an address: that of the member which has it, if one has
abbrev pub agent_at : Rules → List Member → List Agent → ℕ → Agent
agent_at rules members agents address = or_nobody rules address (option_and_then (slice_get agents) (place_at members address))

-- Links

-- one end of a link: the place of its member among the members of the DIF, and what became of the end. It has a number while it is there
pub record LinkEnd : Type 0 where
  pub member : ℕ
  pub state : EndState

-- all ends of links stand in one list, the two of a link one after the other: here the place of an end
abbrev pub end_place : ℕ → Side → ℕ
end_place l Near = 2 * l
end_place l Far = 2 * l + 1

-- each end is of a member, and no two ends at one member have one number
pub record AreEnds (members : List Member) (ends : List LinkEnd) : Type 0 where
  pub within : (k : ℕ) (e : LinkEnd) → slice_get ends k ≡ Some e → e.member < length members
  pub apart : (j k : ℕ) (a b : LinkEnd) (number : ℕ) → slice_get ends j ≡ Some a → slice_get ends k ≡ Some b → a.member ≡ b.member → a.state ≡ There number → b.state ≡ There number → j ≡ k

-- the address of the member at a place; 0 where there is none
abbrev pub address_in : List Member → ℕ → ℕ
address_in members place = unwrap_or (option_map (λ (m : Member). m.addr) (slice_get members place)) 0

-- the address of the member at an end; 0 where there is no such end
abbrev pub end_address : List Member → Option LinkEnd → ℕ
end_address members None = 0
end_address members (Some e) = address_in members e.member

-- what became of an end; where there is no such end, it is not made
abbrev pub end_state : Option LinkEnd → EndState
end_state None = Unmade
end_state (Some e) = e.state

-- The network

-- nothing is sent, and the items of the start were made and offered to each member that is enrolled
abbrev pub first_network : Bool → Rules → List Member → List LinkPlan → List Agent → List LinkEnd → ℕ → Network
first_network is_static rules members plans agents ends now = record {
  now = now;
  agents = agent_at rules members agents;
  ends = λ l d. end_address members (slice_get ends (end_place l d));
  states = λ l d. end_state (slice_get ends (end_place l d));
  sent = λ l d. [];
  made = start_items is_static members plans;
  offered = λ i. if starts_enrolled is_static members i then start_items is_static members plans else [];
}

-- it is a start, whatever rules an agent has that is of no member
abbrev pub MembersStart : Type 0
MembersStart = (is_static : Bool) (rules : Rules) (members : List Member) (plans : List LinkPlan) (agents : List Agent) (ends : List LinkEnd) (now : ℕ) → IsLaidOut members plans → AreFirst is_static members plans agents → AreEnds members ends
    → IsStart (first_network is_static rules members plans agents ends now) (start_items is_static members plans)

-- in that of a static DIF each member keeps its own link state, which names its links
abbrev pub StaticTellsLinks : Type 0
StaticTellsLinks = (rules : Rules) (members : List Member) (plans : List LinkPlan) (agents : List Agent) (ends : List LinkEnd) (now : ℕ) (m : Member) → IsLaidOut members plans → AreFirst true members plans agents → Contains members m
    → TellsLinks (first_network true rules members plans agents ends now) m.addr

-- in that of any other nobody tells a link yet
abbrev pub OthersTellNone : Type 0
OthersTellNone = (rules : Rules) (members : List Member) (plans : List LinkPlan) (agents : List Agent) (ends : List LinkEnd) (now : ℕ) (m : Member) → IsLaidOut members plans → AreFirst false members plans agents → Contains members m
    → TellsNone (first_network false rules members plans agents ends now) m.addr

-- Rows

-- the directory entry of an application that is registered at an address of 32 bits from the start
abbrev pub IsFirstEntry : Item → Type 0
IsFirstEntry x = (app : List ℕ) × (address : ℕ) × (x ≡ entry_of app address) × (address < 2 ^ 32)

-- what happens to a DIF: a member makes no item but directory entries, its link state where a link comes up or one that is up is lost, and
-- its member item where it enters; and what is known at once is a directory entry
abbrev pub IsOfDif : Row → Type 0
IsOfDif (Make i key value) = IsEntryKey key × (i < 2 ^ 32)
IsOfDif (Know x) = IsFirstEntry x
IsOfDif other = Unit {0}

abbrev pub AreOfDif : List Row → Type 0
AreOfDif [] = Unit {0}
AreOfDif (row ∷ rows) = IsOfDif row × AreOfDif rows

-- so the laws of link states hold of each member
abbrev pub RowsLeaveLinks : Type 0
RowsLeaveLinks = (rows : List Row) (address : ℕ) → AreOfDif rows → AllLeaveLinkState address rows

-- whatever happened, no other item was made of the key and the version of a directory entry from the start
abbrev pub EntriesAreOne : Type 0
EntriesAreOne = (is_static : Bool) (n : Network) (members : List Member) (plans : List LinkPlan) (rows : List Row) (x : Item) (app : List ℕ) (address : ℕ) → IsStart n (start_items is_static members plans) → IsRun n rows → AreOfDif rows
    → Contains (after_rows n rows).made x → x.key ≡ key_of app → x.version ≡ first_version address → x ≡ entry_of app address
