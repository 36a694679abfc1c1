-- Which edges the links of a static DIF are, which links of a member are live, and which next hops it has over links and claimed edges.
use Rattle.std.specs.Prelude.{◌≡◌, ℕ, ◌==◌, List, ◌++◌, filter, find, slice_get, Option, None, option_and_then, option_map, if◌then◌else◌}
use Rattle.std.specs.List.{filter_map}
use Rattle.rina_graph.specs.declared.graph.Edge.{Edge}
use Rattle.rina_route.specs.declared.link.Link.{Link as Hop}
use Rattle.rina_route.specs.Routes.{AreHops, edge, hop_at}
use Rattle.rina_plan.specs.declared.dif.LinkPlan.{LinkPlan}
use Rattle.rina_data.specs.declared.link.Link.{Link}
use Rattle.rina_data.specs.declared.link.Route.{Route}
use Rattle.rina_data.specs.declared.settings.Member.{Member}

-- the address of the member at a node
abbrev pub addr_at : List Member → ℕ → Option ℕ
addr_at members node = option_map (λ (m : Member). m.addr) (find (λ (m : Member). m.node == node) members)

-- the edge from the member at one node to that at another
abbrev pub edge_between : List Member → ℕ → ℕ → ℕ → Option Edge
edge_between members a b weight = option_and_then (λ from. option_map (λ to. edge from to weight) (addr_at members b)) (addr_at members a)

-- a link as its first end claims it
abbrev pub edge_there : List Member → LinkPlan → Option Edge
edge_there members l = edge_between members l.a l.b l.weight

-- and as its second end does
abbrev pub edge_back : List Member → LinkPlan → Option Edge
edge_back members l = edge_between members l.b l.a l.weight

-- the edges that the ends of links claim
abbrev pub edges_of : List Member → List LinkPlan → List Edge
edges_of members links = filter_map (edge_there members) links ++ filter_map (edge_back members) links

-- a link as its end at a node claims it
abbrev pub edge_from : List Member → ℕ → LinkPlan → Option Edge
edge_from members node l = if l.a == node then edge_there members l else (if l.b == node then edge_back members l else None)

-- the edges from the member at a node, in stack order
abbrev pub edges_from : List Member → ℕ → List LinkPlan → List Edge
edges_from members node links = filter_map (edge_from members node) links

-- a link of an IPC process, the number of which is the place of its edge
abbrev pub own_link : List Edge → Link → Option Hop
own_link edges link = option_map (λ (e : Edge). record { number = link.number; peer = e.to; weight = e.weight }) (slice_get edges link.number)

abbrev pub own_links : List Edge → List Link → List Hop
own_links edges links = filter_map (own_link edges) links

-- the next hop to a member
abbrev pub route_to : ℕ → List (ℕ × ℕ) → Member → Option Route
route_to own rows m = if m.addr == own then None else option_map (λ n. record { dst = m.addr; link = n }) (hop_at rows m.addr)

-- the next hops to the other members
abbrev pub routes_to : ℕ → List (ℕ × ℕ) → List Member → List Route
routes_to own rows members = filter_map (route_to own rows) members

-- these are next hops of a member of an address over links and claimed edges: to each other member the least number of a link on a
-- least walk over the edges that both ends claim
pub record AreRoutesOver (own : ℕ) (links : List Hop) (claimed : List Edge) (members : List Member) (routes : List Route) : Type 0 where
  pub rows : List (ℕ × ℕ)
  pub hops : AreHops own links claimed rows
  pub are : routes ≡ routes_to own rows members

-- Live links

-- the links that are live
abbrev pub live_of : List Link → List Link
live_of links = filter (λ (l : Link). l.live) links

-- a link of a member as its link state names it
abbrev pub edge_to : ℕ → Hop → Edge
edge_to own h = edge own h.peer h.weight

-- the live links of a member, with its neighbours
abbrev pub live_links : List Member → List LinkPlan → Member → List Link → List Hop
live_links members plans member links = own_links (edges_from members member.node plans) (live_of links)
