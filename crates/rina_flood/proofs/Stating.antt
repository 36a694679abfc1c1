-- In the start of a static DIF each member keeps its own link state, which names its links.
use Rattle.std.proofs.Common.{◌≡◌, ℕ, zero, suc, ◌+◌, ◌≤◌, Bool, false, true, cond, List, ◌∷◌, Contains, Option, Some, None, drop, length, map, slice_get, refl, sym, ◌∙◌, ap, inl, inr, arith, []}
use Rattle.std.specs.Prelude.{find, option_and_then, option_map, MatchOption}
use Rattle.std.specs.List.{cons_option, fold}
use Rattle.std.proofs.lemmas.List.Elements.{Contains-append_cases, Contains-append_right}
use Rattle.std.proofs.lemmas.Option.{none-some, slice_get_within}
use Rattle.rina_access.specs.declared.rules.Rules.{Rules}
use Rattle.rina_graph.specs.declared.graph.Edge.{Edge}
use Rattle.rina_newest.specs.declared.item.Item.{Item}
use Rattle.rina_newest.specs.Newest.{kept_at, taken_all, IsNewest}
use Rattle.rina_route.proofs.Lists.{contains_map, contains_unmap}
use Rattle.rina_agent.specs.declared.agent.Agent.{Agent}
use Rattle.rina_agent.specs.declared.link.Link.{Link as Managed}
use Rattle.rina_agent.specs.declared.neighbours.Neighbour.{Neighbour}
use Rattle.rina_agent.specs.Enrolments.{is_numbered}
use Rattle.rina_agent.specs.Rows.{was_up}
use Rattle.rina_agent.specs.Neighbours.{joined, link_key, link_state, neighbour_of, with_any, with_link}
use Rattle.rina_plan.specs.declared.dif.LinkPlan.{LinkPlan}
use Rattle.rina_data.specs.declared.link.Link.{Link}
use Rattle.rina_data.specs.declared.settings.Member.{Member}
use Rattle.rina_data.proofs.Finding.{there}
use Rattle.rina_member.specs.Knowing.{AreLive, AreNumbered, IsLaidOut}
use Rattle.rina_member.specs.Routing.{edges_from, live_links, live_of, own_links}
use Rattle.rina_member.specs.Start.{first_enrolled, starts_enrolled, managed, managed_link, member_item, neighbour_link, start_items, started, state_item, state_text}
use Rattle.rina_member.proofs.Items.{not_link, same_address}
use Rattle.rina_member.proofs.Laying.{same_member, small_address}
use Rattle.rina_member.proofs.Lists.{at_place, keeps_all}
use Rattle.rina_flood.specs.Laws.{TellsLinks}
use Rattle.rina_flood.specs.Static.{AreFirst, LinkEnd, OthersTellNone, first_network, or_nobody, place_at}
use Rattle.rina_flood.proofs.Places.{drop_at, nothing_in, past_all}
use Rattle.rina_flood.proofs.Settles.{Greatest}
use Rattle.rina_flood.proofs.Static.{AreFrom, later, started_items, started_links, found_place}
use Rattle.rina_member.proofs.Starting.{all_enrolled, start_of}

-- What a link state says of a link: its neighbour, and no number

same_neighbour : (one two peer weight : ℕ) → neighbour_of None (managed one peer weight) ≡ neighbour_of None (managed two peer weight)
unfolding neighbour_of
same_neighbour one two peer weight = refl

same_with : (one two peer weight : ℕ) (others : List Neighbour) → with_link None others (managed one peer weight) ≡ with_link None others (managed two peer weight)
same_with one two peer weight others = ap (λ (o : Option Neighbour). with_any others o) (same_neighbour one two peer weight)

no_edge : (es : List Edge) (k : ℕ) → slice_get es k ≡ None → length es ≤ k
no_edge [] k is = omega arith
no_edge (e ∷ es) zero is = absurd (none-some e (sym is))
no_edge (e ∷ es) (suc k) is = (let le = no_edge es k is in omega (arith, le))

abbrev told_by : List Neighbour → List Managed → List Neighbour
told_by others links = fold (with_link None) others links

abbrev Follows : List Edge → ℕ → List Link → Type 0
Follows es j links = (others : List Neighbour) → told_by others (map managed_link (own_links es links)) ≡ told_by others (map neighbour_link (drop j es))

told_step : (es : List Edge) (j : ℕ) (l : Link) (links : List Link) (others : List Neighbour) (o : Option Edge) → slice_get es j ≡ o → Follows es (j + 1) links
    → told_by others (map managed_link (cons_option (option_map (λ (e : Edge). record { number = l.number; peer = e.to; weight = e.weight }) o) (own_links es links))) ≡ told_by others (map neighbour_link (drop j es))
told_step es j l links others None is rest =
    let le = no_edge es j is in
    rest others ∙ ap (λ (rest : List Edge). told_by others (map neighbour_link rest)) (past_all es (j + 1) (omega (arith, le)) ∙ sym (past_all es j le))
told_step es j l links others (Some e) is rest =
    let next : suc j ≡ j + 1 = omega arith in
    rest (with_link None others (managed l.number e.to e.weight))
    ∙ ap (λ (ns : List Neighbour). told_by ns (map neighbour_link (drop (j + 1) es))) (same_with l.number 0 e.to e.weight others)
    ∙ ap (λ (k : ℕ). told_by others (map neighbour_link (e ∷ drop k es))) (sym next)
    ∙ ap (λ (all : List Edge). told_by others (map neighbour_link all)) (sym (drop_at es j e is))

-- the links of a member, from one on, are those of its edges from there on
told_same : (es : List Edge) (j : ℕ) (links : List Link) → AreFrom j links → length es ≤ j + length links → Follows es j links
told_same es j [] from enough others = ap (λ (rest : List Edge). told_by others (map neighbour_link rest)) (sym (past_all es j (omega (arith, enough))))
told_same es j (l ∷ links) from enough others =
    let number : slice_get es l.number ≡ slice_get es j = ap (λ (k : ℕ). slice_get es k) (let is = from zero l refl in omega (arith, is)) in
    ap (λ (o : Option Edge). told_by others (map managed_link (cons_option (option_map (λ (e : Edge). record { number = l.number; peer = e.to; weight = e.weight }) o) (own_links es links)))) number
    ∙ told_step es j l links others (slice_get es j) refl (told_same es (j + 1) links (later j l links from) (omega (arith, enough)))

module _ (members : List Member) (plans : List LinkPlan) (m : Member) (links : List Link) (numbered : AreNumbered links) (live : AreLive links) (enough : length (edges_from members m.node plans) ≤ length links) where
  all_live : live_of links ≡ links
  all_live = keeps_all (λ (l : Link). l.live) links (λ l has. live has.0 l (at_place links l has))

  -- the link state of a member from the start names its links
  state_named : link_state None (map managed_link (live_links members plans m links)) ≡ state_text members plans m
  state_named =
      ap (λ (ls : List Link). link_state None (map managed_link (own_links (edges_from members m.node plans) ls))) all_live
      ∙ ap (λ (ns : List Neighbour). fold joined [] ns) (told_same (edges_from members m.node plans) 0 links (λ i l e. (let is = numbered i l e in omega (arith, is))) (omega (arith, enough)) [])

-- The link state that is kept

module _ (members : List Member) (plans : List LinkPlan) (laid : IsLaidOut members plans) (m : Member) (among : Contains members m) where
  abbrev told : List Item
  told = start_items true members plans

  -- no other item of the start has its key
  its_state : (x : Item) → Contains told x → x.key ≡ link_key m.addr → x ≡ state_item members plans m
  its_state x has k = (let r = start_of true members plans x has in elim r.2 [
    | inl is ↦ absurd (not_link r.0.addr m.addr (ap (λ (y : Item). y.key) is ∙ k))
    | inr is ↦
        (let address : r.0.addr ≡ m.addr = same_address r.0.addr m.addr (small_address members plans laid r.0 r.1) (small_address members plans laid m among) (ap (λ (y : Item). y.key) is ∙ k) in
        sym is ∙ ap (λ (y : Member). state_item members plans y) (same_member members plans laid r.0 m r.1 among address))
  ])

  state_kept : (o : Option Item) → MatchOption o ((y : Item) → Contains told y → y.key ≡ link_key m.addr → ⊥) (IsNewest told (link_key m.addr)) → o ≡ Some (state_item members plans m)
  state_kept None none = absurd (none (state_item members plans m) (Contains-append_right (map member_item members) (map (state_item members plans) members) (state_item members plans m) (contains_map (state_item members plans) members m among)) refl)
  state_kept (Some x) newest = ap Some (its_state x newest.among newest.same)

pub static_tells : Greatest → (rules : Rules) (members : List Member) (plans : List LinkPlan) (agents : List Agent) (ends : List LinkEnd) (now : ℕ) (m : Member) → IsLaidOut members plans → AreFirst true members plans agents → Contains members m
    → TellsLinks (first_network true rules members plans agents ends now) m.addr
static_tells greatest rules members plans agents ends now m laid first among =
    let n = first_network true rules members plans agents ends now in
    let k = among.0 in
    let is_m = at_place members m among in
    let aligned = first.aligned in
    let within = slice_get_within members k m is_m in
    let a = there agents k (omega (arith, aligned, within)) in
    let f = first.each k m a.0 is_m a.1 in
    let agent : n.agents m.addr ≡ started true members plans f.rules m f.links =
    ap (λ (o : Option ℕ). or_nobody rules m.addr (option_and_then (slice_get agents) o)) (found_place members plans laid k m (place_at members m.addr) is_m refl) ∙ ap (λ (o : Option Agent). or_nobody rules m.addr o) a.1 ∙ f.is in
    let kept : kept_at (n.agents m.addr).items (link_key m.addr) ≡ Some (state_item members plans m) =
    ap (λ (b : Agent). kept_at b.items (link_key m.addr)) agent
    ∙ ap (λ (items : List Item). kept_at items (link_key m.addr)) (started_items true members plans m f.rules f.links ∙ ap (λ (b : Bool). cond b (taken_all [] (start_items true members plans)) []) (all_enrolled members m among))
    ∙ state_kept members plans laid m among (kept_at (taken_all [] (start_items true members plans)) (link_key m.addr)) (greatest (start_items true members plans) (link_key m.addr)) in
    let links : link_state None (n.agents m.addr).links ≡ state_text members plans m =
    ap (λ (b : Agent). link_state None b.links) agent ∙ ap (λ (ls : List Managed). link_state None ls) (started_links true members plans m f.rules f.links ∙ ap (λ (b : Bool). cond b (map managed_link (live_links members plans m f.links)) []) (all_enrolled members m among)) ∙ state_named members plans m f.links f.numbered f.live f.enough in
    record {
      own = ap (λ (o : Option Item). option_and_then (λ (x : Item). x.value) o) kept ∙ ap (λ (text : List ℕ). Some text) (sym links);
      by_itself = λ x has key. ap (λ (y : Item). y.version.origin) (its_state members plans laid m among x has key);
    }

-- In a DIF that is not static

no_begun : (enrolled : Bool) (links : List Managed) → links ≡ [] → cond enrolled links [] ≡ []
no_begun true links none = none
no_begun false links none = refl

-- the items of its start are member items
member_of : (members : List Member) (plans : List LinkPlan) (x : Item) → Contains (start_items false members plans) x → (m : Member) × (member_item m ≡ x)
member_of members plans x has = elim (Contains-append_cases (map member_item (first_enrolled false members)) [] x has) [
  | inl its ↦ (let r = contains_unmap member_item (first_enrolled false members) x its in (r.0, r.2))
  | inr none ↦ absurd (nothing_in x none)
]

pub others_tell_none : OthersTellNone
others_tell_none rules members plans agents ends now m laid first among =
    let n = first_network false rules members plans agents ends now in
    let k = among.0 in
    let is_m = at_place members m among in
    let aligned = first.aligned in
    let within = slice_get_within members k m is_m in
    let a = there agents k (omega (arith, aligned, within)) in
    let f = first.each k m a.0 is_m a.1 in
    let agent : n.agents m.addr ≡ started false members plans f.rules m f.links =
    ap (λ (o : Option ℕ). or_nobody rules m.addr (option_and_then (slice_get agents) o)) (found_place members plans laid k m (place_at members m.addr) is_m refl) ∙ ap (λ (o : Option Agent). or_nobody rules m.addr o) a.1 ∙ f.is in
    let live : map managed_link (live_links members plans m f.links) ≡ [] = ap (λ (ls : List Link). map managed_link (live_links members plans m ls)) (f.bare refl) in
    let links : (n.agents m.addr).links ≡ [] = ap (λ (b : Agent). b.links) agent ∙ started_links false members plans m f.rules f.links ∙ no_begun (starts_enrolled false members m.addr) (map managed_link (live_links members plans m f.links)) live in
    record {
      down = λ number. ap (λ (ls : List Managed). was_up (find (is_numbered number) ls)) links;
      unmade = λ x has key. (let r = member_of members plans x has in not_link r.0.addr m.addr (ap (λ (y : Item). y.key) r.1 ∙ key));
    }
