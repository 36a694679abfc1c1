-- What the management of a member of a DIF knows, and the next hops over the items that it holds.
use Rattle.std.specs.Prelude.{◌≡◌, ℕ, ◌^◌, ◌<◌, ◌≤◌, ◌↔◌, ◌⊎◌, true, List, ◌++◌, All, Contains, drop, flat_map, length, map, slice_get, take, Option, Some, None, IsSome, option_map, if◌then◌else◌}
use Rattle.std.specs.List.{filter_map}
use Rattle.rina_graph.specs.declared.graph.Edge.{Edge}
use Rattle.rina_newest.specs.declared.item.Item.{Item}
use Rattle.rina_newest.specs.Newest.{kept_at}
use Rattle.rina_route.specs.declared.link.Link.{Link as Hop}
use Rattle.rina_route.specs.Routes.{claims_of}
use Rattle.rina_agent.specs.declared.agent.Agent.{Agent}
use Rattle.rina_agent.specs.declared.link.Link.{Link as Managed}
use Rattle.rina_agent.specs.Neighbours.{link_key, member_key}
use Rattle.rina_dir.specs.Directory.{key_of}
use Rattle.rina_plan.specs.declared.dif.LinkPlan.{LinkPlan}
use Rattle.rina_plan.specs.Kept.{AreApart}
use Rattle.rina_data.specs.declared.link.Link.{Link}
use Rattle.rina_data.specs.declared.link.Route.{Route}
use Rattle.rina_data.specs.declared.settings.Member.{Member}
use Rattle.rina_member.specs.Routing.{AreRoutesOver, edge_to, edges_from, live_links, live_of}
use Rattle.rina_member.specs.Short.{IsLinkInRange}
use Rattle.rina_member.specs.Start.{managed_link}

-- a link of management over which PDUs may leave: it is up, and its neighbour is known
abbrev pub hop_of : Managed → Option Hop
hop_of l = if l.up then option_map (λ peer. record { number = l.number; peer = peer; weight = l.weight }) l.peer else None

abbrev pub hops_of : List Managed → List Hop
hops_of links = filter_map hop_of links

-- what items claim: the edges that the link states among them name
abbrev pub all_claims : List Item → List Edge
all_claims items = flat_map claims_of items

-- these are the next hops of a member over its links that are up and the edges that both ends' link states claim, in the items that its
-- management holds
abbrev pub AreRoutesOf : Agent → List Member → List Route → Type 0
AreRoutesOf g members routes = AreRoutesOver g.address (hops_of g.links) (all_claims g.items) members routes

-- two lists name the same edges
abbrev pub SameEdges : List Edge → List Edge → Type 0
SameEdges xs ys = (e : Edge) → Contains xs e ↔ Contains ys e

-- from an address, items claim exactly these links
abbrev pub ClaimLinks : List Item → ℕ → List Hop → Type 0
ClaimLinks items address links = (e : Edge) → e.from ≡ address → Contains (all_claims items) e ↔ Contains (map (edge_to address) links) e

-- from other addresses than this, new items claim what the old ones claimed
abbrev pub KeepsOtherClaims : ℕ → List Item → List Item → Type 0
KeepsOtherClaims address old new = (e : Edge) → (e.from ≡ address → ⊥) → Contains (all_claims new) e ↔ Contains (all_claims old) e

-- the members and the links of a DIF are as a plan may lay them out: no two members have one address or stand on one node, and
-- addresses and weights are in range
pub record IsLaidOut (members : List Member) (plans : List LinkPlan) : Type 0 where
  pub addresses : AreApart (map (λ (m : Member). m.addr) members)
  pub nodes : AreApart (map (λ (m : Member). m.node) members)
  pub fit : All (λ (m : Member). m.addr < 2 ^ 32) members
  pub weights : All (λ (l : LinkPlan). (1 ≤ l.weight) × (l.weight ≤ 65535)) plans

-- no link is lost
abbrev pub AreLive : List Link → Type 0
AreLive links = (k : ℕ) (link : Link) → slice_get links k ≡ Some link → link.live ≡ true

-- the key of the member item or of the link state of an address
abbrev pub IsMemberKey : List ℕ → Type 0
IsMemberKey key = (address : ℕ) × (address < 2 ^ 32) × ((key ≡ member_key address) ⊎ (key ≡ link_key address))

-- the key of the directory entry of an application
abbrev pub IsEntryKey : List ℕ → Type 0
IsEntryKey key = (app : List ℕ) × (key ≡ key_of app)

-- one of these
abbrev pub IsItemKey : List ℕ → Type 0
IsItemKey key = IsMemberKey key ⊎ IsEntryKey key

-- each link is numbered by its place
abbrev pub AreNumbered : List Link → Type 0
AreNumbered links = (k : ℕ) (link : Link) → slice_get links k ≡ Some link → link.number ≡ k

-- the numbers of the live links of an IPC process, in their order, and those of the links of a management
abbrev pub live_numbers : List Link → List ℕ
live_numbers links = map (λ (l : Link). l.number) (live_of links)

abbrev pub managed_numbers : List Managed → List ℕ
managed_numbers links = map (λ (l : Managed). l.number) links

-- no two live links have one number. That of a lost link may be the number of another
abbrev pub HaveOwnNumbers : List Link → Type 0
HaveOwnNumbers links = (j k : ℕ) (a b : Link) → slice_get links j ≡ Some a → slice_get links k ≡ Some b → a.live ≡ true → b.live ≡ true → a.number ≡ b.number → j ≡ k

-- a new link may have a number: no live link has it
abbrev pub IsFreeNumber : List Link → ℕ → Type 0
IsFreeNumber links number = (k : ℕ) (link : Link) → slice_get links k ≡ Some link → link.live ≡ true → link.number ≡ number → ⊥

-- what the management of a member knows at a tick, where these are the links of its IPC process, some of which may be lost. No two live
-- ones have one number, and it has a link for each of them, of the same number, in the same order. A link state can name each of its
-- links, and from its own address its items claim the known neighbours at those that are up, and nothing else. It keeps member items,
-- link states and directory entries alone; and it made its own link state no later than now, as the last of its items at the latest.
-- What its items claim of the other members is what these made, as far as it came.
pub record Knows (now : ℕ) (m : Member) (links : List Link) (g : Agent) : Type 0 where
  pub address : g.address ≡ m.addr
  pub fits : m.addr < 2 ^ 32
  pub apart : HaveOwnNumbers links
  pub numbers : managed_numbers g.links ≡ live_numbers links
  pub ranges : (l : Managed) → Contains g.links l → IsLinkInRange l
  pub own : ClaimLinks g.items m.addr (hops_of g.links)
  pub keys : (item : Item) → Contains g.items item → IsItemKey item.key
  pub past : (item : Item) → kept_at g.items (link_key m.addr) ≡ Some item → (item.version.tick ≤ now) × (item.version.count ≤ g.last_count)

-- an IPC process has a live link of a number
pub record HasLiveLink (links : List Link) (number : ℕ) : Type 0 where
  pub place : ℕ
  pub link : Link
  pub stands : slice_get links place ≡ Some link
  pub live : link.live ≡ true
  pub is_number : link.number ≡ number

-- In a static DIF

-- the links of the plan among those of an IPC process: the first ones. Links that enrolments made stand behind them
abbrev pub laid_links : List Member → List LinkPlan → Member → List Link → List Link
laid_links members plans m links = take (length (edges_from members m.node plans)) links

-- these are the links that enrolments made
abbrev pub made_links : List Member → List LinkPlan → Member → List Link → List Link
made_links members plans m links = drop (length (edges_from members m.node plans)) links

-- a member of a static DIF has the live links of the plan, with their neighbours and weights, and behind them those that enrolments made. Each
-- link of the plan is there, live or lost, and these are numbered by their places
pub record IsPlanned (members : List Member) (plans : List LinkPlan) (m : Member) (links : List Link) (g : Agent) : Type 0 where
  pub all : length (edges_from members m.node plans) ≤ length links
  pub numbers : AreNumbered (laid_links members plans m links)
  pub more : List Managed
  pub links_are : g.links ≡ map managed_link (live_links members plans m (laid_links members plans m links)) ++ more
  pub made : (l : Managed) → Contains more l → IsSome l.enrolment

-- the links over which PDUs may leave a member of a static DIF are, first, the live ones of the plan, with their neighbours and weights; each of
-- those behind them has the number of a live link that an enrolment made
pub record AreHopsOfPlan (members : List Member) (plans : List LinkPlan) (m : Member) (links : List Link) (hops : List Hop) : Type 0 where
  pub more : List Hop
  pub are : hops ≡ live_links members plans m (laid_links members plans m links) ++ more
  pub made : (h : Hop) → Contains more h → HasLiveLink (made_links members plans m links) h.number
