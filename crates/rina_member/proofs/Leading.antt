-- Over which links next hops lead.
use Rattle.std.proofs.Common.{◌≡◌, ◌∙◌, ℕ, ◌==◌, Bool, true, false, cond, Contains, List, Option, Some, None, refl, sym, ap}
use Rattle.std.specs.Prelude.{find, option_map}
use Rattle.std.proofs.lemmas.Option.{same_Some}
use Rattle.rina_graph.specs.declared.graph.Edge.{Edge}
use Rattle.rina_route.specs.declared.link.Link.{Link as Hop}
use Rattle.rina_route.specs.Routes.{IsHop, counted, hop_at}
use Rattle.rina_data.specs.declared.link.Route.{Route}
use Rattle.rina_data.specs.declared.settings.Member.{Member}
use Rattle.rina_data.specs.Process.{next_hop}
use Rattle.rina_member.specs.Routing.{AreRoutesOver, route_to, routes_to}
use Rattle.rina_member.proofs.Lists.{found, made_of}

-- a hop is one of the links
hop_there : (edges : List Edge) (links : List Hop) (own dst n : ℕ) (o : Option ℕ) → o ≡ Some n → IsHop edges links own dst o → (h : Hop) × Contains links h × (h.number ≡ n)
hop_there edges links own dst n None is hop = absurd cc
hop_there edges links own dst n (Some m) is hop = (hop.3.0.0, hop.3.0.1, hop.3.0.3 ∙ same_Some m n is)

row_by : (addr n : ℕ) (o : Option ℕ) (r : Route) → option_map (λ n. record { dst = addr; link = n }) o ≡ Some r → r.link ≡ n → o ≡ Some n
row_by addr n None r is link = absurd cc
row_by addr n (Some m) r is link =
    let made : Route = record { dst = addr; link = m } in
    ap (λ (x : ℕ). Some x) (ap (λ (z : Route). z.link) (same_Some made r is) ∙ link)

row_if : (b : Bool) (addr n : ℕ) (o : Option ℕ) (r : Route) → cond b None (option_map (λ n. record { dst = addr; link = n }) o) ≡ Some r → r.link ≡ n → o ≡ Some n
row_if true addr n o r is link = absurd cc
row_if false addr n o r is link = row_by addr n o r is link

row_of : (own n : ℕ) (rows : List (ℕ × ℕ)) (m : Member) (r : Route) → route_to own rows m ≡ Some r → r.link ≡ n → hop_at rows m.addr ≡ Some n
row_of own n rows m r is link = row_if (m.addr == own) m.addr n (hop_at rows m.addr) r is link

hop_found : (dst n : ℕ) (routes : List Route) (o : Option Route) → find (λ (r : Route). r.dst == dst) routes ≡ o → option_map (λ (r : Route). r.link) o ≡ Some n → (r : Route) × Contains routes r × (r.link ≡ n)
hop_found dst n routes None first is = absurd cc
hop_found dst n routes (Some r) first is = (r, (found (λ (z : Route). z.dst == dst) routes r first).0, same_Some r.link n is)

-- the link of each next hop is one of those that were given
pub leads_over : (own : ℕ) (hops : List Hop) (claimed : List Edge) (members : List Member) (routes : List Route) (dst n : ℕ) → AreRoutesOver own hops claimed members routes → next_hop dst routes ≡ Some n → (h : Hop) × Contains hops h × (h.number ≡ n)
leads_over own hops claimed members routes dst n are hop =
    let all : List Route = routes_to own are.rows members in
    let r = hop_found dst n all (find (λ (r : Route). r.dst == dst) all) refl (ap (next_hop dst) (sym are.are) ∙ hop) in
    let to = made_of (route_to own are.rows) members r.0 r.1 in
    hop_there (counted own hops claimed) hops own to.0.addr n (hop_at are.rows to.0.addr) (row_of own n are.rows to.0 r.0 to.2 r.2) (are.hops to.0.addr)
