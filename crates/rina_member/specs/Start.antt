-- What the management of a member holds from the start. In a static DIF: the member items and the link states of all members, as items
-- of version (0, 0, address of the member that each is of), and its links. In any other DIF the first member holds its own member item,
-- and all others are outside and hold nothing.
use Rattle.std.specs.Prelude.{◌≡◌, ℕ, ◌+◌, ◌==◌, Bool, true, false, List, [], ◌++◌, drop, map, position, take, Option, Some, None, if◌then◌else◌}
use Rattle.std.specs.List.{list_any}
use Rattle.rina_access.specs.declared.rules.Rules.{Rules}
use Rattle.rina_graph.specs.declared.graph.Edge.{Edge}
use Rattle.rina_newest.specs.declared.item.Item.{Item}
use Rattle.rina_newest.specs.declared.item.Version.{Version}
use Rattle.rina_newest.specs.Newest.{item_of, taken_all}
use Rattle.rina_route.specs.declared.link.Link.{Link as Hop}
use Rattle.rina_agent.specs.declared.agent.Agent.{Agent}
use Rattle.rina_agent.specs.declared.link.Link.{Link as Managed}
use Rattle.rina_agent.specs.declared.state.MemberState.{MemberState}
use Rattle.rina_agent.specs.declared.state.MemberState.TheVariants.{Enrolled, Outside}
use Rattle.rina_agent.specs.Neighbours.{link_key, link_state, member_key}
use Rattle.rina_plan.specs.declared.dif.LinkPlan.{LinkPlan}
use Rattle.rina_data.specs.declared.link.Link.{Link}
use Rattle.rina_data.specs.declared.settings.Member.{Member}
use Rattle.rina_member.specs.Routing.{edges_from, live_links}

-- the version of an item of the start
abbrev pub first_version : ℕ → Version
first_version address = record { tick = 0; count = 0; origin = address }

-- what stands behind the first slash of a name, or all of it
abbrev pub behind : Option ℕ → List ℕ → List ℕ
behind None name = name
behind (Some at) name = drop (at + 1) name

-- the name of a member's node, which stands behind the slash in the member's own name
unfoldable pub node_of : Member → List ℕ
node_of m = behind (position (λ b. b == 47) m.name) m.name

-- a link that is up, to a neighbour, as management keeps it
abbrev pub managed : ℕ → ℕ → ℕ → Managed
managed number peer weight = record { number = number; peer = Some peer; weight = weight; up = true; enrolment = None }

abbrev pub managed_link : Hop → Managed
managed_link h = managed h.number h.peer h.weight

-- a neighbour of a member, whatever the link's number is: a link state names no numbers
abbrev pub neighbour_link : Edge → Managed
neighbour_link e = managed 0 e.to e.weight

-- the value of the link state of a member from the start: its neighbours, rising
abbrev pub state_text : List Member → List LinkPlan → Member → List ℕ
state_text members plans m = link_state None (map neighbour_link (edges_from members m.node plans))

-- the member item of a member, and its link state
abbrev pub member_item : Member → Item
member_item m = item_of (member_key m.addr) (first_version m.addr) (Some (node_of m))

abbrev pub state_item : List Member → List LinkPlan → Member → Item
state_item members plans m = item_of (link_key m.addr) (first_version m.addr) (Some (state_text members plans m))

-- which members are enrolled from the start: all of a static DIF, else the first one alone
abbrev pub first_enrolled : Bool → List Member → List Member
first_enrolled true members = members
first_enrolled false members = take 1 members

-- the member of an address is one of them
abbrev pub starts_enrolled : Bool → List Member → ℕ → Bool
starts_enrolled is_static members address = list_any (λ (m : Member). m.addr == address) (first_enrolled is_static members)

-- a DIF that is not static has no links from the start
abbrev pub HasLinksIfStatic : {A : Type 0} → Bool → List A → Type 0
HasLinksIfStatic is_static links = is_static ≡ false → links ≡ []

-- the link states of the start: those of all members of a static DIF, else none
abbrev pub state_items : Bool → List Member → List LinkPlan → List Item
state_items true members plans = map (state_item members plans) members
state_items false members plans = []

-- all items of the start, and what an enrolled member holds after it took them in this order
abbrev pub start_items : Bool → List Member → List LinkPlan → List Item
start_items is_static members plans = map member_item (first_enrolled is_static members) ++ state_items is_static members plans

abbrev pub items_taken : Bool → List Member → List LinkPlan → List Item
items_taken is_static members plans = taken_all [] (start_items is_static members plans)

-- what a member holds from the start: a member that is outside holds nothing
abbrev pub items_held : Bool → List Member → List LinkPlan → Member → List Item
items_held is_static members plans m = if starts_enrolled is_static members m.addr then items_taken is_static members plans else []

-- a member that is enrolled from the start, or not
abbrev pub state_from : Bool → MemberState
state_from true = Enrolled
state_from false = Outside

-- the management of a member that is enrolled, with these items and links, or outside, with none. It made no item, and nothing waits for
-- its links
abbrev pub begun : Bool → List Item → List Managed → Rules → Member → Agent
begun enrolled items links rules m = record {
  state = state_from enrolled;
  address = m.addr;
  name = m.name;
  node = node_of m;
  rules = rules;
  items = if enrolled then items else [];
  last_count = 0;
  last_invoke = 0;
  links = if enrolled then links else [];
  agenda = [];
}

-- that of a member from the start: where it is enrolled it holds all items of the start, and its links are up
unfoldable pub started : Bool → List Member → List LinkPlan → Rules → Member → List Link → Agent
started is_static members plans rules m links = begun (starts_enrolled is_static members m.addr) (items_taken is_static members plans) (map managed_link (live_links members plans m links)) rules m
