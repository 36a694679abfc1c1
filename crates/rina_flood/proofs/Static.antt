-- The start of a DIF is a start.
use Rattle.std.proofs.Common.{◌≡◌, ℕ, zero, suc, ◌+◌, ◌<◌, ◌^◌, ◌⊎◌, Bool, true, false, ◌==◌, ◌||◌, cond, List, ◌∷◌, Contains, Option, Some, None, map, length, slice_get, get_or, refl, sym, ◌∙◌, ap, subst, inl, inr, arith, []}
use Rattle.std.specs.Prelude.{find, position, is_some, option_and_then, option_map, unwrap_or}
use Rattle.std.specs.List.{cons_option, list_any}
use Rattle.std.proofs.lemmas.Bool.{cases_Bool, cases_order, both_ways, eq-eqb, eqb-true, and_parts}
use Rattle.std.proofs.lemmas.List.{get_or-map, length-map}
use Rattle.std.proofs.lemmas.List.Quantifiers.{position-Some}
use Rattle.std.proofs.lemmas.Option.{none-some, same_Some, slice_get-get_or, slice_get_within}
use Rattle.rina_access.specs.declared.rules.Rules.{Rules}
use Rattle.rina_graph.specs.declared.graph.Edge.{Edge}
use Rattle.rina_newest.specs.declared.item.Item.{Item}
use Rattle.rina_newest.specs.Newest.{taken_all, AreTold}
use Rattle.rina_route.specs.declared.link.Link.{Link as Hop}
use Rattle.rina_route.proofs.Lists.{contains_filter, contains_unmap}
use Rattle.rina_agent.specs.declared.agent.Agent.{Agent}
use Rattle.rina_agent.specs.declared.link.Link.{Link as Managed}
use Rattle.rina_agent.specs.Enrolments.{is_numbered}
use Rattle.rina_plan.specs.declared.dif.LinkPlan.{LinkPlan}
use Rattle.rina_plan.specs.Kept.{AreApart as AreNumbersApart}
use Rattle.rina_data.specs.declared.link.Link.{Link}
use Rattle.rina_data.specs.declared.settings.Member.{Member}
use Rattle.rina_data.proofs.Finding.{there}
use Rattle.rina_member.specs.Knowing.{AreNumbered, IsLaidOut}
use Rattle.rina_member.specs.Routing.{edges_from, live_links, live_of, own_link, own_links}
use Rattle.rina_member.specs.Start.{items_held, managed_link, member_item, start_items, started, starts_enrolled, state_item}
use Rattle.rina_member.proofs.Items.{not_link}
use Rattle.rina_member.proofs.Laying.{own_is, same_member, small_address}
use Rattle.rina_member.proofs.Lists.{at_place, is_there, made_of}
use Rattle.rina_member.proofs.Starting.{start_of}
use Rattle.rina_flood.specs.Network.{Side, Near, Far, other, EndState, Unmade, There, Gone, Network, link_at, AreApart, IsStart, KnowsAll, KnowsNothing, has_link}
use Rattle.rina_flood.specs.Static.{AreEnds, AreFirst, LinkEnd, address_in, end_address, end_state, end_place, nobody, first_network, or_nobody, place_at}
use Rattle.rina_flood.specs.Members.{HasNoMember}
use Rattle.rina_flood.proofs.Places.{in_first, in_rest, position_cons}

-- The items of the start

-- made before all else
told_first : (is_static : Bool) (members : List Member) (plans : List LinkPlan) (x : Item) → Contains (start_items is_static members plans) x → (x.version.tick ≡ 0) × (x.version.count ≡ 0)
told_first is_static members plans x h = (let r = start_of is_static members plans x h in elim r.2 [
  | inl is ↦ (sym (ap (λ (y : Item). y.version.tick) is), sym (ap (λ (y : Item). y.version.count) is))
  | inr is ↦ (sym (ap (λ (y : Item). y.version.tick) is), sym (ap (λ (y : Item). y.version.count) is))
])

told_apart : (is_static : Bool) (members : List Member) (plans : List LinkPlan) → IsLaidOut members plans → AreTold (start_items is_static members plans)
told_apart is_static members plans laid x y a b k v =
    let p = start_of is_static members plans x a in
    let q = start_of is_static members plans y b in
    elim p.2 [
      | inl is ↦ elim q.2 [
        | inl too ↦
            (let address : p.0.addr ≡ q.0.addr = ap (λ (z : Item). z.version.origin) is ∙ ap (λ w. w.origin) v ∙ sym (ap (λ (z : Item). z.version.origin) too) in
            sym is ∙ ap member_item (same_member members plans laid p.0 q.0 p.1 q.1 address) ∙ too)
        | inr too ↦ absurd (not_link p.0.addr q.0.addr (ap (λ (z : Item). z.key) is ∙ k ∙ sym (ap (λ (z : Item). z.key) too)))
      ]
      | inr is ↦ elim q.2 [
        | inl too ↦ absurd (not_link q.0.addr p.0.addr (ap (λ (z : Item). z.key) too ∙ sym k ∙ sym (ap (λ (z : Item). z.key) is)))
        | inr too ↦
            (let address : p.0.addr ≡ q.0.addr = ap (λ (z : Item). z.version.origin) is ∙ ap (λ w. w.origin) v ∙ sym (ap (λ (z : Item). z.version.origin) too) in
            sym is ∙ ap (λ (m : Member). state_item members plans m) (same_member members plans laid p.0 q.0 p.1 q.1 address) ∙ too)
      ]
    ]

-- The links of a member

-- numbered by their places from a number on
abbrev pub AreFrom : ℕ → List Link → Type 0
AreFrom j links = (i : ℕ) (l : Link) → slice_get links i ≡ Some l → l.number ≡ j + i

none_among : (k : ℕ) (links : List Managed) → ((l : Managed) → Contains links l → l.number ≡ k → ⊥) → find (is_numbered k) links ≡ None
none_among k [] lacks = refl
none_among k (l ∷ links) lacks = elim (cases_Bool (l.number == k)) [
  | inl is ↦ absurd (lacks l (in_first l links) (eqb-true l.number k is))
  | inr isnt ↦ rw isnt (none_among k links (λ z e. lacks z (in_rest l links z e)))
]

abbrev kept_links : List Edge → List Link → List Managed
kept_links es links = map managed_link (own_links es (live_of links))

hop_number : (es : List Edge) (l : Link) (h : Hop) → own_link es l ≡ Some h → h.number ≡ l.number
hop_number es l h is = (let r = own_is es l h is in ap (λ (x : Hop). x.number) r.2)

-- of which link one is
kept_of : (es : List Edge) (links : List Link) (z : Managed) → Contains (kept_links es links) z → (l : Link) × Contains links l × (z.number ≡ l.number)
kept_of es links z h =
    let hop = contains_unmap managed_link (own_links es (live_of links)) z h in
    let link = made_of (own_link es) (live_of links) hop.0 hop.1 in
    let was = contains_filter (λ (l : Link). l.live) links link.0 link.1 in
    (link.0, was.0, sym (ap (λ (y : Managed). y.number) hop.2) ∙ hop_number es link.0 hop.0 link.2)

pub later : (j : ℕ) (l : Link) (links : List Link) → AreFrom j (l ∷ links) → AreFrom (j + 1) links
later j l links from i z e = (let is = from (suc i) z e in omega (arith, is))

apart_step : (es : List Edge) (j : ℕ) (l : Link) (links : List Link) (o : Option Hop) → own_link es l ≡ o → AreFrom j (l ∷ links) → AreApart (kept_links es links) → AreApart (map managed_link (cons_option o (own_links es (live_of links))))
apart_step es j l links None is from apart = apart
apart_step es j l links (Some h) is from apart = (
  none_among h.number (kept_links es links) (λ z e same.
      let of = kept_of es links z e in
      let first = from zero l refl in
      let place = later j l links from of.1.0 of.0 (at_place links of.0 of.1) in
      let number = hop_number es l h is in
      let its = of.2 in
      omega (arith, same, first, place, number, its)),
  apart,
)

apart_kept : (es : List Edge) (j : ℕ) (links : List Link) → AreFrom j links → AreApart (kept_links es links)
apart_kept es j [] from = tt
apart_kept es j (l ∷ links) from =
    let rest = apart_kept es (j + 1) links (later j l links from) in
    let P : Bool → Type 0 = λ live. AreApart (map managed_link (own_links es (cond live (l ∷ live_of links) (live_of links)))) in
    elim (cases_Bool l.live) [
      | inl live ↦ subst P (sym live) (apart_step es j l links (own_link es l) refl from rest)
      | inr dead ↦ subst P (sym dead) rest
    ]

-- A member of the start

-- what is kept is all or nothing

kept_apart : (enrolled : Bool) (links : List Managed) → AreApart links → AreApart (cond enrolled links [])
kept_apart true links apart = apart
kept_apart false links apart = tt

linked_begun : (enrolled : Bool) (links : List Managed) (k : ℕ) → is_some (find (is_numbered k) (cond enrolled links [])) ≡ true → enrolled ≡ true
linked_begun true links k has = refl
linked_begun false links k has = absurd (both_ways true (sym has) refl)

linked_at : (enrolled : Bool) (links : List Managed) (s : EndState) → is_some (link_at s (cond enrolled links [])) ≡ true → enrolled ≡ true
linked_at enrolled links Unmade has = absurd (both_ways true (sym has) refl)
linked_at enrolled links (There k) has = linked_begun enrolled links k has
linked_at enrolled links Gone has = absurd (both_ways true (sym has) refl)

pub no_link_at : (s : EndState) → is_some (link_at s []) ≡ true → ⊥
no_link_at Unmade has = both_ways true (sym has) refl
no_link_at (There k) has = both_ways true (sym has) refl
no_link_at Gone has = both_ways true (sym has) refl

begun_knows : (enrolled : Bool) (told : List Item) → ((cond enrolled (taken_all [] told) [] ≡ taken_all [] told) × (cond enrolled told [] ≡ told)) ⊎ ((cond enrolled (taken_all [] told) [] ≡ []) × (cond enrolled told [] ≡ []))
begun_knows true told = inl (refl, refl)
begun_knows false told = inr (refl, refl)

module _ (is_static : Bool) (members : List Member) (plans : List LinkPlan) (m : Member) (rules : Rules) (links : List Link) where
  abbrev its : Agent
  its = started is_static members plans rules m links

  started_address : its.address ≡ m.addr
  unfolding started
  started_address = refl

  pub started_items : its.items ≡ items_held is_static members plans m
  unfolding started
  started_items = refl

  started_agenda : its.agenda ≡ []
  unfolding started
  started_agenda = refl

  pub started_links : its.links ≡ cond (starts_enrolled is_static members m.addr) (map managed_link (live_links members plans m links)) []
  unfolding started
  started_links = refl

  started_apart : AreNumbered links → AreApart its.links
  started_apart numbered =
      let P : List Managed → Type 0 = λ ls. AreApart ls in
      subst P (sym started_links) (kept_apart (starts_enrolled is_static members m.addr) (map managed_link (live_links members plans m links)) (apart_kept (edges_from members m.node plans) 0 links (λ i l e. (let is = numbered i l e in omega (arith, is)))))

-- Places

pub found_at : {X : Type 0} (p : X → Bool) (xs : List X) (k : ℕ) → position p xs ≡ Some k → (x : X) × (slice_get xs k ≡ Some x) × (p x ≡ true)
found_at p [] k e = absurd (none-some k e)
found_at p (y ∷ xs) k e = (let r = position-Some p (y ∷ xs) k y e in (get_or (y ∷ xs) k y, slice_get-get_or (y ∷ xs) k y r.0, r.1))

pub places_apart : (l : ℕ) (d : Side) (k : ℕ) (e : Side) → end_place l d ≡ end_place k e → (l ≡ k) × (d ≡ e)
places_apart l Near k Near same = (omega (arith, same), refl)
places_apart l Near k Far same = absurd (omega (arith, same))
places_apart l Far k Near same = absurd (omega (arith, same))
places_apart l Far k Far same = (omega (arith, same), refl)

pub address_is : (members : List Member) (k : ℕ) (m : Member) → slice_get members k ≡ Some m → address_in members k ≡ m.addr
address_is members k m is = ap (λ (o : Option Member). unwrap_or (option_map (λ (x : Member). x.addr) o) 0) is

mapped_address : (members : List Member) (k : ℕ) → k < length members → get_or (map (λ (m : Member). m.addr) members) k 0 ≡ address_in members k
mapped_address members k lt =
    let m = there members k lt in
    get_or-map (λ (x : Member). x.addr) members k m.0 0 lt ∙ ap (λ (x : Member). x.addr) (same_Some (get_or members k m.0) m.0 (sym (slice_get-get_or members k m.0 lt) ∙ m.1)) ∙ sym (address_is members k m.0 m.1)

module _ (members : List Member) (apart : AreNumbersApart (map (λ (m : Member). m.addr) members)) where
  before : (j k : ℕ) → j < k → k < length members → address_in members j ≡ address_in members k → ⊥
  before j k lt within same =
      let size : length (map (λ (m : Member). m.addr) members) ≡ length members = length-map members (λ (m : Member). m.addr) in
      apart j k 0 lt (omega (arith, within, size)) (mapped_address members j (omega (arith, lt, within)) ∙ same ∙ sym (mapped_address members k within))

  -- a place is known by the address of its member
  pub same_place : (j k : ℕ) → j < length members → k < length members → address_in members j ≡ address_in members k → j ≡ k
  same_place j k a b same = elim (cases_order j k) [
    | inl is ↦ is
    | inr order ↦ elim order [
      | inl lt ↦ absurd (before j k lt b same)
      | inr gt ↦ absurd (before k j gt a (sym same))
    ]
  ]

-- Members and addresses

none_first : (b : Bool) (o : Option ℕ) → cond b (Some 0) (option_map suc o) ≡ None → (b ≡ false) × (o ≡ None)
none_first true o e = absurd (none-some 0 (sym e))
none_first false None e = (refl, refl)
none_first false (Some k) e = absurd (none-some (suc k) (sym e))

not_found_at : {X : Type 0} (p : X → Bool) (xs : List X) (k : ℕ) (x : X) → position p xs ≡ None → slice_get xs k ≡ Some x → p x ≡ true → ⊥
not_found_at p [] k x none is passes = none-some x is
not_found_at p (y ∷ xs) zero x none is passes = (let r = none_first (p y) (position p xs) (sym (position_cons p y xs) ∙ none) in both_ways (p y) r.0 (ap p (same_Some y x is) ∙ passes))
not_found_at p (y ∷ xs) (suc k) x none is passes = (let r = none_first (p y) (position p xs) (sym (position_cons p y xs) ∙ none) in not_found_at p xs k x r.1 is passes)

pub none_at : (members : List Member) (address : ℕ) → place_at members address ≡ None → HasNoMember members address
none_at members address none k m is same = not_found_at (λ (x : Member). x.addr == address) members k m none is (eq-eqb m.addr address same)

-- where no member has an address, none is enrolled there

none_passes : {X : Type 0} (p : X → Bool) (xs : List X) → position p xs ≡ None → list_any p xs ≡ false
none_passes p [] none = refl
none_passes p (y ∷ xs) none = (let r = none_first (p y) (position p xs) (sym (position_cons p y xs) ∙ none) in ap (λ (b : Bool). b || list_any p xs) r.0 ∙ none_passes p xs r.1)

none_enrolled : (is_static : Bool) (members : List Member) (address : ℕ) → place_at members address ≡ None → starts_enrolled is_static members address ≡ false
none_enrolled true members address none = none_passes (λ (m : Member). m.addr == address) members none
none_enrolled false [] address none = refl
none_enrolled false (first ∷ members) address none = (let r = none_first (first.addr == address) (place_at members address) (sym (position_cons (λ (m : Member). m.addr == address) first members) ∙ none) in ap (λ (b : Bool). b || false) r.0)

module _ (members : List Member) (plans : List LinkPlan) (laid : IsLaidOut members plans) where
  -- a place is known by the address of its member
  pub place_is : (j k : ℕ) (x y : Member) → slice_get members j ≡ Some x → slice_get members k ≡ Some y → x.addr ≡ y.addr → j ≡ k
  place_is j k x y p q same = same_place members laid.addresses j k (slice_get_within members j x p) (slice_get_within members k y q) (address_is members j x p ∙ same ∙ sym (address_is members k y q))

  -- the place of the address of a member is the member's
  pub found_place : (k : ℕ) (m : Member) (o : Option ℕ) → slice_get members k ≡ Some m → place_at members m.addr ≡ o → o ≡ Some k
  found_place k m None is place = absurd (none_at members m.addr place k m is refl)
  found_place k m (Some j) is place =
      let r = found_at (λ (x : Member). x.addr == m.addr) members j place in
      ap Some (place_is j k r.0 m r.1 is (eqb-true r.0.addr m.addr r.2))

-- The network

module _ (is_static : Bool) (rules : Rules) (members : List Member) (plans : List LinkPlan) (agents : List Agent) (ends : List LinkEnd) (now : ℕ) (laid : IsLaidOut members plans) (first : AreFirst is_static members plans agents) (are : AreEnds members ends) where
  abbrev here : Network
  here = first_network is_static rules members plans agents ends now

  abbrev told : List Item
  told = start_items is_static members plans

  -- what holds of the agent at an address
  member_here : (P : Agent → Type 0) (i : ℕ) → ((m : Member) (r : Rules) (links : List Link) → m.addr ≡ i → AreNumbered links → P (started is_static members plans r m links)) → (k : ℕ) → place_at members i ≡ Some k → P (here.agents i)
  member_here P i member k place =
      let m = found_at (λ (x : Member). x.addr == i) members k place in
      let aligned = first.aligned in
      let within = slice_get_within members k m.0 m.1 in
      let a = there agents k (omega (arith, aligned, within)) in
      let f = first.each k m.0 a.0 m.1 a.1 in
      let is : here.agents i ≡ a.0 = ap (λ (o : Option ℕ). or_nobody rules i (option_and_then (slice_get agents) o)) place ∙ ap (λ (o : Option Agent). or_nobody rules i o) a.1 in
      subst P (sym (is ∙ f.is)) (member m.0 f.rules f.links (eqb-true m.0.addr i m.2) f.numbered)

  nobody_here : (P : Agent → Type 0) (i : ℕ) → (place_at members i ≡ None → P (nobody rules i)) → place_at members i ≡ None → P (here.agents i)
  nobody_here P i none place =
      let is : here.agents i ≡ nobody rules i = ap (λ (o : Option ℕ). or_nobody rules i (option_and_then (slice_get agents) o)) place in
      subst P (sym is) (none place)

  by_place : (P : Agent → Type 0) (i : ℕ) → ((m : Member) (r : Rules) (links : List Link) → m.addr ≡ i → AreNumbered links → P (started is_static members plans r m links)) → (place_at members i ≡ None → P (nobody rules i)) → (o : Option ℕ) → place_at members i ≡ o → P (here.agents i)
  by_place P i member none None place = nobody_here P i none place
  by_place P i member none (Some k) place = member_here P i member k place

  pub at_address : (P : Agent → Type 0) (i : ℕ) → ((m : Member) (r : Rules) (links : List Link) → m.addr ≡ i → AreNumbered links → P (started is_static members plans r m links)) → (place_at members i ≡ None → P (nobody rules i)) → P (here.agents i)
  at_address P i member none = by_place P i member none (place_at members i) refl

  -- a member holds what it was offered, all or nothing
  items_here : (m : Member) (r : Rules) (links : List Link) (i : ℕ) → m.addr ≡ i → (started is_static members plans r m links).items ≡ cond (starts_enrolled is_static members i) (taken_all [] told) []
  items_here m r links i address = started_items is_static members plans m r links ∙ ap (λ (a : ℕ). cond (starts_enrolled is_static members a) (taken_all [] told) []) address

  knows_here : (i : ℕ) → KnowsAll here told i ⊎ KnowsNothing here i
  knows_here i =
      let offered : List Item = cond (starts_enrolled is_static members i) told [] in
      let K : List Item → Type 0 = λ items. ((items ≡ taken_all [] told) × (offered ≡ told)) ⊎ ((items ≡ []) × (offered ≡ [])) in
      at_address (λ a. K a.items) i
      (λ m r links address numbered. subst K (sym (items_here m r links i address)) (begun_knows (starts_enrolled is_static members i) told))
      (λ none. inr (refl, ap (λ (b : Bool). cond b told []) (none_enrolled is_static members i none)))

  has_all : (l : ℕ) (d : Side) → has_link here l d ≡ true → KnowsAll here told (here.ends l d)
  has_all l d =
      let i = here.ends l d in
      let k = here.states l d in
      at_address (λ a. is_some (link_at k a.links) ≡ true → (a.items ≡ taken_all [] told) × (cond (starts_enrolled is_static members i) told [] ≡ told)) i
      (λ m r links address numbered has.
      (let kept : List Managed = map managed_link (live_links members plans m links) in
      let its : starts_enrolled is_static members m.addr ≡ true = linked_at (starts_enrolled is_static members m.addr) kept k (ap (λ (ls : List Managed). is_some (link_at k ls)) (sym (started_links is_static members plans m r links)) ∙ has) in
      let enrolled : starts_enrolled is_static members i ≡ true = ap (λ (a : ℕ). starts_enrolled is_static members a) (sym address) ∙ its in
      (items_here m r links i address ∙ ap (λ (b : Bool). cond b (taken_all [] told) []) enrolled, ap (λ (b : Bool). cond b told []) enrolled)))
      (λ none has. absurd (no_link_at k has))

  small : (o : Option LinkEnd) (k : ℕ) → slice_get ends k ≡ o → end_address members o < 2 ^ 32
  small None k is = omega arith
  small (Some e) k is =
      let m = there members e.member (are.within k e is) in
      let fits = small_address members plans laid m.0 (is_there members e.member m.0 m.1) in
      let same = address_is members e.member m.0 m.1 in
      omega (arith, fits, same)

  ends_apart : (j k : ℕ) (a b : Option LinkEnd) (number : ℕ) → slice_get ends j ≡ a → slice_get ends k ≡ b → end_address members a ≡ end_address members b → end_state a ≡ There number → end_state b ≡ There number → j ≡ k
  ends_apart j k None b number p q addresses has too = absurd (cc)
  ends_apart j k (Some a) None number p q addresses has too = absurd (cc)
  ends_apart j k (Some a) (Some b) number p q addresses has too = are.apart j k a b number p q (same_place members laid.addresses a.member b.member (are.within j a p) (are.within k b q) addresses) has too

  pub network_starts : IsStart here told
  network_starts = record {
    addresses = λ i. at_address (λ a. a.address ≡ i) i (λ m r links address numbered. started_address is_static members plans m r links ∙ address) (λ none. refl);
    knows = knows_here;
    both = λ l d up. (let parts = and_parts _ _ up in has_all l (other d) parts.1);
    agendas = λ i. at_address (λ a. a.agenda ≡ []) i (λ m r links address numbered. started_agenda is_static members plans m r links) (λ none. refl);
    sent = λ l d. refl;
    made = refl;
    one = told_apart is_static members plans laid;
    past = λ x e. (let r = told_first is_static members plans x e in let tick = r.0 in omega (arith, tick));
    counted = λ x e. (let r = told_first is_static members plans x e in let count = r.1 in omega (arith, count));
    apart = λ i. at_address (λ a. AreApart a.links) i (λ m r links address numbered. started_apart is_static members plans m r links numbered) (λ none. tt);
    laid = λ l d k e number addresses has too. places_apart l d k e (ends_apart (end_place l d) (end_place k e) (slice_get ends (end_place l d)) (slice_get ends (end_place k e)) number refl refl addresses has too);
    fit = λ l d. small (slice_get ends (end_place l d)) (end_place l d) refl;
  }
