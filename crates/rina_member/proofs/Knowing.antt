-- What the management of a member knows: from the start, as time goes on, when it gets a new link, and when it sends a message; and over what
-- its next hops are.
--
-- Of the fields of `Knows`, `keys` says that each kept item has the key of a member item, of a link state or of a directory entry, so that
-- the own link state alone claims links of the own address; `ranges` that a link state can name each link; and `past` that the next own
-- link state is newer than the one before.
use Rattle.std.proofs.Common.{◌≡◌, ◌∙◌, ℕ, ◌≤◌, Bool, true, false, cond, List, [], ◌∷◌, ◌++◌, Contains, length, map, None, Some, refl, sym, ap, subst, arith}
use Rattle.std.proofs.lemmas.Bool.{true≢false}
use Rattle.std.proofs.lemmas.List.{length-map}
use Rattle.rina_access.specs.declared.rules.Rules.{Rules}
use Rattle.rina_graph.specs.declared.graph.Edge.{Edge}
use Rattle.rina_newest.specs.declared.item.Item.{Item}
use Rattle.rina_route.specs.declared.link.Link.{Link as Hop}
use Rattle.rina_agent.specs.declared.agent.Agent.{Agent}
use Rattle.rina_agent.specs.declared.link.Link.{Link as Managed}
use Rattle.rina_agent.specs.Rows.{joined_link, joining, joining_link}
use Rattle.rina_agent.specs.Counts.{next_of}
use Rattle.rina_plan.specs.declared.dif.LinkPlan.{LinkPlan}
use Rattle.rina_data.specs.declared.link.Link.{Link}
use Rattle.rina_data.specs.declared.link.Route.{Route}
use Rattle.rina_data.specs.declared.settings.Member.{Member}
use Rattle.rina_data.specs.Process.{next_hop}
use Rattle.rina_member.specs.declared.management.Management.{Management}
use Rattle.rina_member.specs.Routing.{AreRoutesOver, edges_from, edges_of, live_links, live_of, own_links}
use Rattle.rina_member.specs.Start.{HasLinksIfStatic, items_held, managed_link, started, starts_enrolled}
use Rattle.rina_member.specs.Knowing.{AreLive, AreNumbered, AreRoutesOf, ClaimLinks, HasLiveLink, IsFreeNumber, IsLaidOut, Knows, SameEdges, all_claims, hop_of, hops_of, live_numbers, managed_numbers}
use Rattle.rina_member.specs.Managements.{claimed, entry_of, takes_item, with_sent}
use Rattle.rina_member.proofs.Changing.{added_apart, added_hops, added_numbers, link_lives, managed_more}
use Rattle.rina_member.proofs.Entering.{routes_stay}
use Rattle.rina_member.proofs.Hops.{same_hops}
use Rattle.rina_member.proofs.Leading.{leads_over}
use Rattle.rina_member.proofs.Lists.{made_of}
use Rattle.rina_member.proofs.Removing.{hop_number}
use Rattle.rina_member.proofs.Starting.{all_enrolled, at_start, hops_again, start_claims}
use Rattle.rina_member.proofs.TellsMore.{added_ranged}

-- from the start, where each edge of the member has a link
pub starts_knowing : (is_static : Bool) (members : List Member) (plans : List LinkPlan) (rules : Rules) (m : Member) (links : List Link) (now : ℕ)
    → IsLaidOut members plans → HasLinksIfStatic is_static links → Contains members m → AreNumbered links → AreLive links → length (edges_from members m.node plans) ≡ length links
    → Knows now m links (started is_static members plans rules m links)
starts_knowing is_static members plans rules m links now laid bare among numbered live enough = at_start members plans laid m links among numbered live enough is_static rules now bare

-- as time goes on
pub knows_later : (now later : ℕ) (m : Member) (links : List Link) (g : Agent) → now ≤ later → Knows now m links g → Knows later m links g
knows_later now later m links g le h = record {
  address = h.address;
  fits = h.fits;
  apart = h.apart;
  numbers = h.numbers;
  ranges = h.ranges;
  own = h.own;
  keys = h.keys;
  past = λ item is. (let r = h.past item is in (omega (arith, r.0, le), r.1));
}

-- when it sends a message
pub sends_knowing : (now : ℕ) (m : Member) (links : List Link) (management : Management) (number : ℕ) → Knows now m links management.agent → Knows now m links (with_sent management number).agent
sends_knowing now m links management number h = record {
  address = h.address;
  fits = h.fits;
  apart = h.apart;
  numbers = h.numbers;
  ranges = h.ranges;
  own = h.own;
  keys = h.keys;
  past = h.past;
}

-- A new link

module _ (now : ℕ) (m : Member) (links : List Link) (g : Agent) (link : Link) (free : IsFreeNumber links link.number) (live : link.live ≡ true) (h : Knows now m links g) where
  new_numbers : (l : Managed) → l.number ≡ link.number → managed_numbers (g.links ++ l ∷ []) ≡ live_numbers (links ++ link ∷ [])
  new_numbers l same =
      managed_more g.links l ∙ ap (λ (ns : List ℕ). ns ++ l.number ∷ []) h.numbers ∙ ap (λ (n : ℕ). live_numbers links ++ n ∷ []) same ∙ sym (added_numbers links link live)

  new_own : (l : Managed) → hop_of l ≡ None → ClaimLinks g.items m.addr (hops_of (g.links ++ l ∷ []))
  new_own l none = subst (λ (hs : List Hop). ClaimLinks g.items m.addr hs) (sym (added_hops g.links l none)) h.own

  pub joins_knowing : (member node : List ℕ) → Knows now m (links ++ link ∷ []) (joining g link.number member node)
  joins_knowing member node =
      let l : Managed = joining_link link.number (next_of g.last_invoke) node in
      record {
        address = h.address;
        fits = h.fits;
        apart = added_apart links link h.apart free;
        numbers = new_numbers l refl;
        ranges = added_ranged g.links l h.ranges refl refl;
        own = new_own l refl;
        keys = h.keys;
        past = h.past;
      }

  pub claims_knowing : Knows now m (links ++ link ∷ []) (claimed g link.number)
  claims_knowing =
      let l : Managed = joined_link link.number in
      record {
        address = h.address;
        fits = h.fits;
        apart = added_apart links link h.apart free;
        numbers = new_numbers l refl;
        ranges = added_ranged g.links l h.ranges refl refl;
        own = new_own l refl;
        keys = h.keys;
        past = h.past;
      }

-- Next hops

-- its next hops are over its links that are up, and what its items claim
pub knows_routes : (now : ℕ) (m : Member) (links : List Link) (g : Agent) (members : List Member) (routes : List Route) → Knows now m links g → AreRoutesOf g members routes → AreRoutesOver m.addr (hops_of g.links) (all_claims g.items) members routes
knows_routes now m links g members routes h are = subst (λ (a : ℕ). AreRoutesOver a (hops_of g.links) (all_claims g.items) members routes) h.address are

-- each of them is a live one of its IPC process
pub hop_lives : (now : ℕ) (m : Member) (links : List Link) (g : Agent) (h : Hop) → Knows now m links g → Contains (hops_of g.links) h → HasLiveLink links h.number
hop_lives now m links g h knows has =
    let r = made_of hop_of g.links h has in
    subst (λ (n : ℕ). HasLiveLink links n) (sym (hop_number r.0 h r.2)) (link_lives links g.links r.0 knows.numbers r.1)

pub knows_live : (now : ℕ) (m : Member) (links : List Link) (g : Agent) (members : List Member) (routes : List Route) (dst number : ℕ) → Knows now m links g → AreRoutesOf g members routes → next_hop dst routes ≡ Some number → HasLiveLink links number
knows_live now m links g members routes dst number h are next =
    let r = leads_over g.address (hops_of g.links) (all_claims g.items) members routes dst number are next in
    subst (λ (n : ℕ). HasLiveLink links n) r.2 (hop_lives now m links g r.0 h r.1)

-- and it has as many links as that has live ones
pub knows_count : (now : ℕ) (m : Member) (links : List Link) (g : Agent) → Knows now m links g → length g.links ≡ length (live_of links)
knows_count now m links g h =
    sym (length-map g.links (λ (l : Managed). l.number)) ∙ ap (λ (ns : List ℕ). length ns) h.numbers ∙ length-map (live_of links) (λ (l : Link). l.number)

-- where its items claim certain edges alone, they are over these
pub routes_over : (own : ℕ) (hops : List Hop) (claimed edges : List Edge) (members : List Member) (routes : List Route) → SameEdges claimed edges → AreRoutesOver own hops claimed members routes → AreRoutesOver own hops edges members routes
routes_over own hops claimed edges members routes same are = record { rows = are.rows; hops = same_hops own hops claimed edges are.rows (λ e. (same e).0) (λ e. (same e).1) are.hops; are = are.are }

-- so from the start they are over the links of the plan

no_own : (ls : List Link) → own_links [] ls ≡ []
no_own [] = refl
no_own (l ∷ ls) = no_own ls

begun_hops : (enrolled : Bool) (hops : List Hop) → (enrolled ≡ false → hops ≡ []) → hops_of (cond enrolled (map managed_link hops) []) ≡ hops
begun_hops true hops none = hops_again hops
begun_hops false hops none = sym (none refl)

outside_hops : (is_static : Bool) (members : List Member) (plans : List LinkPlan) (m : Member) (links : List Link) → HasLinksIfStatic is_static plans → Contains members m → starts_enrolled is_static members m.addr ≡ false → live_links members plans m links ≡ []
outside_hops true members plans m links bare among outside = absurd (true≢false (sym (all_enrolled members m among) ∙ outside))
outside_hops false members plans m links bare among outside = ap (λ (ls : List LinkPlan). live_links members ls m links) (bare refl) ∙ no_own (live_of links)

pub starts_routed : (is_static : Bool) (members : List Member) (plans : List LinkPlan) (rules : Rules) (m : Member) (links : List Link) (routes : List Route) → IsLaidOut members plans → HasLinksIfStatic is_static plans → Contains members m → AreRoutesOf (started is_static members plans rules m links) members routes
    → AreRoutesOver m.addr (live_links members plans m links) (edges_of members plans) members routes
unfolding started
starts_routed is_static members plans rules m links routes laid bare among are =
    let hops : List Hop = live_links members plans m links in
    let held : List Item = items_held is_static members plans m in
    let own : AreRoutesOver m.addr hops (all_claims held) members routes = subst (λ (hs : List Hop). AreRoutesOver m.addr hs (all_claims held) members routes) (begun_hops (starts_enrolled is_static members m.addr) hops (outside_hops is_static members plans m links bare among)) are in
    routes_over m.addr hops (all_claims held) (edges_of members plans) members routes (start_claims members plans laid is_static m bare among) own

-- Its next hops stay when it takes a directory entry
pub enters_routed : (now : ℕ) (m : Member) (links : List Link) (g : Agent) (members : List Member) (routes : List Route) (app : List ℕ) (address : ℕ)
    → Knows now m links g → AreRoutesOf g members routes → AreRoutesOf (takes_item g (entry_of app address)) members routes
enters_routed now m links g members routes app address h are = routes_stay members routes g app address h.keys are
