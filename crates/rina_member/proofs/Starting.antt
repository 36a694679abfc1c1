-- What a member knows from the start.
use Rattle.std.proofs.Common.{◌≡◌, ◌∙◌, ◌⊎◌, inl, inr, ⊎_elim, ℕ, ◌≤◌, ◌==◌, Bool, true, false, cond, List, [], ◌∷◌, ◌<◌, Option, None, Some, Contains, get_or, length, map, slice_get, refl, sym, ap, subst, arith}
use Rattle.std.specs.Prelude.{option_map}
use Rattle.std.specs.List.{cons_option, flat_map}
use Rattle.std.proofs.lemmas.Bool.{eq-eqb}
use Rattle.std.proofs.lemmas.List.Elements.{Contains-append_cases, Contains-append_right}
use Rattle.std.proofs.lemmas.Option.{none-some, slice_get-get_or}
use Rattle.rina_access.specs.declared.rules.Rules.{Rules}
use Rattle.rina_graph.specs.declared.graph.Edge.{Edge}
use Rattle.rina_newest.specs.declared.item.Item.{Item}
use Rattle.rina_newest.specs.Newest.{has_key, kept_at}
use Rattle.rina_route.specs.declared.link.Link.{Link as Hop}
use Rattle.rina_route.specs.Routes.{claims_of, edge}
use Rattle.rina_route.proofs.Lists.{cases, contains_map, contains_unmap, head, in_none, tail}
use Rattle.rina_agent.specs.declared.link.Link.{Link as Managed}
use Rattle.rina_agent.specs.Neighbours.{link_key}
use Rattle.rina_plan.specs.declared.dif.LinkPlan.{LinkPlan}
use Rattle.rina_data.specs.declared.link.Link.{Link}
use Rattle.rina_data.specs.declared.settings.Member.{Member}
use Rattle.rina_member.specs.Routing.{edge_to, edges_from, edges_of, live_links, live_of, own_links}
use Rattle.rina_member.specs.Start.{HasLinksIfStatic, begun, first_enrolled, first_version, items_held, items_taken, managed_link, member_item, neighbour_link, start_items, started, starts_enrolled, state_item, state_items}
use Rattle.rina_member.specs.Knowing.{AreLive, AreNumbered, ClaimLinks, HaveOwnNumbers, IsItemKey, IsLaidOut, Knows, SameEdges, all_claims, hops_of, live_numbers, managed_numbers}
use Rattle.rina_member.specs.Short.{IsLinkInRange}
use Rattle.rina_member.proofs.Laying.{can_claim, from_member, of_member, own_within, same_member, small_address, within_own}
use Rattle.rina_member.proofs.Hops.{Within}
use Rattle.rina_member.proofs.Items.{from_all, holds, member_claims, not_link, same_address}
use Rattle.rina_member.proofs.Lists.{any_true, at_place, found, from_flat, into_flat, keeps_all}
use Rattle.rina_member.proofs.States.{start_edges, state_within, within_state}

-- The links of the start

pub hops_again : (hops : List Hop) → hops_of (map managed_link hops) ≡ hops
hops_again [] = refl
hops_again (h ∷ hops) = ap (λ (hs : List Hop). h ∷ hs) (hops_again hops)

linked_step : (es : List Edge) (link : Link) (ns : List ℕ) (hs : List Hop) (o : Option Edge) → slice_get es link.number ≡ o → link.number < length es → managed_numbers (map managed_link hs) ≡ ns
    → managed_numbers (map managed_link (cons_option (option_map (λ (e : Edge). record { number = link.number; peer = e.to; weight = e.weight }) o) hs)) ≡ link.number ∷ ns
linked_step es link ns hs None is within rest = absurd (none-some (get_or es link.number (edge 0 0 0)) (sym is ∙ slice_get-get_or es link.number (edge 0 0 0) within))
linked_step es link ns hs (Some e) is within rest = ap (λ (xs : List ℕ). link.number ∷ xs) rest

-- where each link has an edge, the management has one of its number
pub linked_numbers : (es : List Edge) (links : List Link) → ((l : Link) → Contains links l → l.number < length es) → managed_numbers (map managed_link (own_links es links)) ≡ map (λ (l : Link). l.number) links
linked_numbers es [] within = refl
linked_numbers es (l ∷ links) within =
    linked_step es l (map (λ (x : Link). x.number) links) (own_links es links) (slice_get es l.number) refl (within l (head l links)) (linked_numbers es links (λ x has. within x (tail l links x has)))

-- Members that are enrolled from the start

first_among : (is_static : Bool) (members : List Member) (m : Member) → Contains (first_enrolled is_static members) m → Contains members m
first_among true members m h = h
first_among false [] m h = h
first_among false (first ∷ members) m h = ⊎_elim (λ same. subst (λ (x : Member). Contains (first ∷ members) x) same (head first members)) (λ none. absurd (in_none m none)) (cases first [] m h)

-- all of a static DIF are
pub all_enrolled : (members : List Member) (m : Member) → Contains members m → starts_enrolled true members m.addr ≡ true
all_enrolled members m among = any_true (λ (x : Member). x.addr == m.addr) members m among (eq-eqb m.addr m.addr refl)

-- The items of the start

-- an item of the start is a member's: its member item, or its link state
abbrev IsOf : List Member → List LinkPlan → Item → Type 0
IsOf members plans it = (m : Member) × Contains members m × ((member_item m ≡ it) ⊎ (state_item members plans m ≡ it))

state_of : (is_static : Bool) (members : List Member) (plans : List LinkPlan) (it : Item) → Contains (state_items is_static members plans) it → IsOf members plans it
state_of true members plans it h = (let r = contains_unmap (state_item members plans) members it h in (r.0, r.1, inr r.2))
state_of false members plans it h = absurd (in_none it h)

pub start_of : (is_static : Bool) (members : List Member) (plans : List LinkPlan) (it : Item) → Contains (start_items is_static members plans) it → IsOf members plans it
start_of is_static members plans it h = ⊎_elim
    (λ first. (let r = contains_unmap member_item (first_enrolled is_static members) it first in (r.0, first_among is_static members r.0 r.1, inl r.2)))
    (state_of is_static members plans it)
    (Contains-append_cases (map member_item (first_enrolled is_static members)) (state_items is_static members plans) it h)

taken_of : (is_static : Bool) (members : List Member) (plans : List LinkPlan) (it : Item) → Contains (items_taken is_static members plans) it → IsOf members plans it
taken_of is_static members plans it h = start_of is_static members plans it (⊎_elim (λ none. absurd (in_none it none)) (λ its. its) (from_all [] (start_items is_static members plans) it h))

-- what a member holds it took
pub begun_of : (enrolled : Bool) (items : List Item) (it : Item) → Contains (cond enrolled items []) it → Contains items it
begun_of true items it h = h
begun_of false items it h = absurd (in_none it h)

pub held_of : (is_static : Bool) (members : List Member) (plans : List LinkPlan) (m : Member) (it : Item) → Contains (items_held is_static members plans m) it → IsOf members plans it
held_of is_static members plans m it h = taken_of is_static members plans it (begun_of (starts_enrolled is_static members m.addr) (items_taken is_static members plans) it h)

-- each is of the version of the start
is_first : (is_static : Bool) (members : List Member) (plans : List LinkPlan) (it : Item) → Contains (items_taken is_static members plans) it → (it.version.tick ≡ 0) × (it.version.count ≡ 0)
is_first is_static members plans it h =
    let r = taken_of is_static members plans it h in
    ⊎_elim (λ first. (sym (ap (λ (x : Item). x.version.tick) first), sym (ap (λ (x : Item). x.version.count) first))) (λ second. (sym (ap (λ (x : Item). x.version.tick) second), sym (ap (λ (x : Item). x.version.count) second))) r.2

-- where no link state is among them they claim nothing
member_of : (members : List Member) (plans : List LinkPlan) (it : Item) → Contains (start_items false members plans) it → (m : Member) × (member_item m ≡ it)
member_of members plans it h = ⊎_elim
    (λ first. (let r = contains_unmap member_item (first_enrolled false members) it first in (r.0, r.2)))
    (λ none. absurd (in_none it none))
    (Contains-append_cases (map member_item (first_enrolled false members)) [] it h)

none_claimed : (members : List Member) (plans : List LinkPlan) (e : Edge) → Contains (all_claims (items_taken false members plans)) e → ⊥
none_claimed members plans e h =
    let z = from_flat claims_of (items_taken false members plans) e h in
    let r = member_of members plans z.0 (⊎_elim (λ none. absurd (in_none z.0 none)) (λ its. its) (from_all [] (start_items false members plans) z.0 z.1)) in
    in_none e (subst (λ (es : List Edge). Contains es e) (member_claims z.0 r.0.addr (sym (ap (λ (x : Item). x.key) r.1))) z.2)

module _ (members : List Member) (plans : List LinkPlan) (laid : IsLaidOut members plans) where
  item_keys : (is_static : Bool) (it : Item) → Contains (items_taken is_static members plans) it → IsItemKey it.key
  item_keys is_static it h =
      let r = taken_of is_static members plans it h in
      inl (r.0.addr, small_address members plans laid r.0 r.1, ⊎_elim (λ first. inl (sym (ap (λ (x : Item). x.key) first))) (λ second. inr (sym (ap (λ (x : Item). x.key) second))) r.2)

  -- a link state of the start claims the edges from its member
  states : (m : Member) → Contains members m → Within (claims_of (state_item members plans m)) (edges_from members m.node plans)
  states m among e h =
      let es : List Edge = edges_from members m.node plans in
      let from : (x : Edge) → Contains es x → x.from ≡ m.addr = λ x has. (can_claim members plans laid m x among has).from in
      let are = start_edges m.addr es from in
      subst (λ (xs : List Edge). Contains xs e) are
      (state_within m.addr (first_version m.addr) None (map neighbour_link es) (small_address members plans laid m among) (λ x has. can_claim members plans laid m x among (subst (λ (xs : List Edge). Contains xs x) are has)) e h)

  stated : (m : Member) → Contains members m → Within (edges_from members m.node plans) (claims_of (state_item members plans m))
  stated m among e h =
      let es : List Edge = edges_from members m.node plans in
      let from : (x : Edge) → Contains es x → x.from ≡ m.addr = λ x has. (can_claim members plans laid m x among has).from in
      let are = start_edges m.addr es from in
      within_state m.addr (first_version m.addr) None (map neighbour_link es) (small_address members plans laid m among) (λ x has. can_claim members plans laid m x among (subst (λ (xs : List Edge). Contains xs x) are has)) e
      (subst (λ (xs : List Edge). Contains xs e) (sym are) h)

  -- no other item of the start has the key of a link state
  alone : (m : Member) → Contains members m → (z : Item) → Contains (start_items true members plans) z → z.key ≡ link_key m.addr → z ≡ state_item members plans m
  alone m among z has same =
      let r = start_of true members plans z has in
      ⊎_elim
      (λ first. absurd (not_link r.0.addr m.addr (ap (λ (x : Item). x.key) first ∙ same)))
      (λ second. (
      let address : r.0.addr ≡ m.addr = same_address r.0.addr m.addr (small_address members plans laid r.0 r.1) (small_address members plans laid m among) (ap (λ (x : Item). x.key) second ∙ same) in
      sym second ∙ ap (λ (x : Member). state_item members plans x) (same_member members plans laid r.0 m r.1 among address)))
      r.2

  held : (m : Member) → Contains members m → Contains (items_taken true members plans) (state_item members plans m)
  held m among = holds [] (start_items true members plans) (state_item members plans m) (λ z none same. absurd (in_none z none)) (alone m among)
      (inr (Contains-append_right (map member_item members) (map (state_item members plans) members) (state_item members plans m) (contains_map (state_item members plans) members m among)))

  -- an edge that the items of the start claim is from a member
  claimed_of : (e : Edge) → Contains (flat_map claims_of (items_taken true members plans)) e → (m : Member) × Contains members m × Contains (edges_from members m.node plans) e
  claimed_of e h =
      let z = from_flat claims_of (items_taken true members plans) e h in
      let r = taken_of true members plans z.0 z.1 in
      ⊎_elim
      (λ first. absurd (in_none e (subst (λ (es : List Edge). Contains es e) (member_claims z.0 r.0.addr (sym (ap (λ (x : Item). x.key) first))) z.2)))
      (λ second. (r.0, r.1, states r.0 r.1 e (subst (λ (x : Item). Contains (claims_of x) e) (sym second) z.2)))
      r.2

  of_claimed : (m : Member) (e : Edge) → Contains members m → Contains (edges_from members m.node plans) e → Contains (flat_map claims_of (items_taken true members plans)) e
  of_claimed m e among h = into_flat claims_of (items_taken true members plans) (state_item members plans m) e (held m among) (stated m among e h)

  -- together they claim the links of the plan, and no others
  taken_claims : SameEdges (all_claims (items_taken true members plans)) (edges_of members plans)
  taken_claims e = ((λ h. (let r = claimed_of e h in from_member members plans r.0.node e r.2)), (λ h. (let s = of_member members plans e h in of_claimed s.0 e s.1 s.2)))

  no_claims : (enrolled : Bool) → plans ≡ [] → SameEdges (all_claims (cond enrolled (items_taken false members plans) [])) (edges_of members plans)
  no_claims true bare e = ((λ h. absurd (none_claimed members plans e h)), (λ h. absurd (in_none e (subst (λ (ls : List LinkPlan). Contains (edges_of members ls) e) bare h))))
  no_claims false bare e = ((λ h. absurd (in_none e h)), (λ h. absurd (in_none e (subst (λ (ls : List LinkPlan). Contains (edges_of members ls) e) bare h))))

  pub start_claims : (is_static : Bool) (m : Member) → HasLinksIfStatic is_static plans → Contains members m → SameEdges (all_claims (items_held is_static members plans m)) (edges_of members plans)
  start_claims true m bare among = subst (λ (b : Bool). SameEdges (all_claims (cond b (items_taken true members plans) [])) (edges_of members plans)) (sym (all_enrolled members m among)) taken_claims
  start_claims false m bare among = no_claims (starts_enrolled false members m.addr) (bare refl)

  -- A member of the start

  module _ (m : Member) (links : List Link) (among : Contains members m) (numbered : AreNumbered links) (live : AreLive links) (enough : length (edges_from members m.node plans) ≡ length links) where
    abbrev es : List Edge
    es = edges_from members m.node plans

    abbrev hops : List Hop
    hops = live_links members plans m links

    from_own : (e : Edge) → Contains es e → e.from ≡ m.addr
    from_own e h = (can_claim members plans laid m e among h).from

    all_live : live_of links ≡ links
    all_live = keeps_all (λ (l : Link). l.live) links (λ l has. live has.0 l (at_place links l has))

    hops_within : Within (map (edge_to m.addr) hops) es
    hops_within e h =
        let r = contains_unmap (edge_to m.addr) hops e h in
        subst (λ (x : Edge). Contains es x) r.2 (own_within m.addr es (live_of links) r.0 from_own r.1)

    within_hops : Within es (map (edge_to m.addr) hops)
    within_hops = subst (λ (ls : List Link). Within es (map (edge_to m.addr) (own_links es ls))) (sym all_live) (within_own m.addr es links from_own numbered (omega (arith, enough)))

    own_claims : ClaimLinks (items_taken true members plans) m.addr hops
    own_claims e from = (
      (λ h. (
          let r = claimed_of e h in
          let address : r.0.addr ≡ m.addr = sym (can_claim members plans laid r.0 e r.1 r.2).from ∙ from in
          within_hops e (subst (λ (x : Member). Contains (edges_from members x.node plans) e) (same_member members plans laid r.0 m r.1 among address) r.2))),
      (λ h. of_claimed m e among (hops_within e h)),
    )

    first_past : (is_static : Bool) (now : ℕ) (item : Item) → kept_at (items_taken is_static members plans) (link_key m.addr) ≡ Some item → (item.version.tick ≤ now) × (item.version.count ≤ 0)
    first_past is_static now item is =
        let r = is_first is_static members plans item (found (has_key (link_key m.addr)) (items_taken is_static members plans) item is).0 in
        (omega (arith, r.0), omega (arith, r.1))

    -- each link has a number of its own, and the management has a link of it
    own_numbers : HaveOwnNumbers links
    own_numbers j k a b one two alive other same = sym (numbered j a one) ∙ same ∙ numbered k b two

    numbers : managed_numbers (map managed_link hops) ≡ live_numbers links
    numbers =
        ap (λ (ls : List Link). managed_numbers (map managed_link (own_links es ls))) all_live
        ∙ linked_numbers es links (λ l has. (let n = numbered has.0 l (at_place links l has) in let lt = has.1 in omega (arith, n, lt, enough)))
        ∙ sym (ap (λ (ls : List Link). map (λ (l : Link). l.number) ls) all_live)

    link_ranged : (l : Managed) → Contains (map managed_link hops) l → IsLinkInRange l
    link_ranged l has =
        let r = contains_unmap managed_link hops l has in
        let c = can_claim members plans laid m (edge_to m.addr r.0) among (own_within m.addr es (live_of links) r.0 from_own r.1) in
        subst (λ (x : Managed). IsLinkInRange x) r.2 (record { peer = c.to; least = c.least; weight = c.weight })

    -- where it is enrolled with its links, without links, or not
    all_known : (rules : Rules) (now : ℕ) → Knows now m links (begun true (items_taken true members plans) (map managed_link hops) rules m)
    all_known rules now = record {
      address = refl;
      fits = small_address members plans laid m among;
      apart = own_numbers;
      numbers = numbers;
      ranges = link_ranged;
      own = subst (λ (hs : List Hop). ClaimLinks (items_taken true members plans) m.addr hs) (sym (hops_again hops)) own_claims;
      keys = item_keys true;
      past = first_past true now;
    }

    module _ (bare : links ≡ []) where
      no_links : map managed_link hops ≡ []
      no_links = ap (λ (ls : List Link). map managed_link (own_links es (live_of ls))) bare

      no_numbers : [] ≡ live_numbers links
      no_numbers = ap (λ (ls : List Link). live_numbers ls) (sym bare)

      none_known : (enrolled : Bool) (rules : Rules) (now : ℕ) → Knows now m links (begun enrolled (items_taken false members plans) [] rules m)
      none_known true rules now = record {
        address = refl;
        fits = small_address members plans laid m among;
        apart = own_numbers;
        numbers = no_numbers;
        ranges = λ l has. absurd (in_none l has);
        own = λ e from. ((λ h. absurd (none_claimed members plans e h)), (λ h. absurd (in_none e h)));
        keys = item_keys false;
        past = first_past false now;
      }
      none_known false rules now = record {
        address = refl;
        fits = small_address members plans laid m among;
        apart = own_numbers;
        numbers = no_numbers;
        ranges = λ l has. absurd (in_none l has);
        own = λ e from. ((λ h. absurd (in_none e h)), (λ h. absurd (in_none e h)));
        keys = λ item h. absurd (in_none item h);
        past = λ item is. absurd (none-some item is);
      }

    pub at_start : (is_static : Bool) (rules : Rules) (now : ℕ) → HasLinksIfStatic is_static links → Knows now m links (started is_static members plans rules m links)
    unfolding started
    at_start true rules now bare = subst (λ (b : Bool). Knows now m links (begun b (items_taken true members plans) (map managed_link hops) rules m)) (sym (all_enrolled members m among)) (all_known rules now)
    at_start false rules now bare =
        subst (λ (ls : List Managed). Knows now m links (begun (starts_enrolled false members m.addr) (items_taken false members plans) ls rules m)) (sym (no_links (bare refl)))
        (none_known (bare refl) (starts_enrolled false members m.addr) rules now)
