-- START and STOP among messages: how many there are, and whether an item stands in front of the first STOP.
use Rattle.std.proofs.Common.{◌≡◌, ℕ, ◌+◌, ◌⊎◌, true, false, ◌==◌, cond, List, [], ◌∷◌, ◌++◌, map, Contains, Option, refl, ◌∙◌, ap, subst, inl, inr, arith}
use Rattle.std.proofs.lemmas.Bool.{cases_Bool, eq-eqb, eqb-true}
use Rattle.rina_enrol.specs.declared.message.LinkMessage.{LinkMessage}
use Rattle.rina_enrol.specs.declared.message.LinkMessage.TheVariants as messages
use Rattle.rina_newest.specs.declared.item.Item.{Item}
use Rattle.rina_newest.specs.Newest.{is_below}
use Rattle.rina_agent.specs.declared.link.Link.{Link}
use Rattle.rina_agent.specs.declared.message.ManagementMessage.{ManagementMessage}
use Rattle.rina_agent.specs.declared.message.ManagementMessage.TheVariants.{ToNeighbour, ToMember}
use Rattle.rina_agent.specs.declared.message.Waiting.{Waiting}
use Rattle.rina_agent.specs.Agenda.{flood_on, floods, is_flooded, item_on, near, waiting_on}
use Rattle.rina_agent.specs.Enrolled.{IsAtLeast}
use Rattle.rina_agent.specs.Rows.{start_batch, stop_batch}
use Rattle.rina_agent.proofs.Lists.{put_waits_last}
use Rattle.rina_flood.specs.Network.{carried}
use Rattle.rina_flood.specs.Laws.{IsComing}
use Rattle.rina_flood.proofs.All.{found_key}
use Rattle.rina_flood.proofs.Places.{nothing_in, in_cons, in_first}
use Rattle.rina_flood.proofs.Raise.{found_in}

abbrev pub start_near : LinkMessage → ℕ
start_near (messages.Start invoke address) = 1
start_near other = 0

abbrev pub start_of : ManagementMessage → ℕ
start_of (ToNeighbour m) = start_near m
start_of (ToMember m) = 0

abbrev pub stop_near : LinkMessage → ℕ
stop_near (messages.Stop invoke) = 1
stop_near other = 0

abbrev pub stop_of : ManagementMessage → ℕ
stop_of (ToNeighbour m) = stop_near m
stop_of (ToMember m) = 0

abbrev pub starts : List ManagementMessage → ℕ
starts [] = 0
starts (m ∷ ms) = start_of m + starts ms

abbrev pub stops : List ManagementMessage → ℕ
stops [] = 0
stops (m ∷ ms) = stop_of m + stops ms

pub starts_both : (ms ns : List ManagementMessage) → starts (ms ++ ns) ≡ starts ms + starts ns
starts_both [] ns = omega arith
starts_both (m ∷ ms) ns = (let rest = starts_both ms ns in omega (arith, rest))

pub stops_both : (ms ns : List ManagementMessage) → stops (ms ++ ns) ≡ stops ms + stops ns
stops_both [] ns = omega arith
stops_both (m ∷ ms) ns = (let rest = stops_both ms ns in omega (arith, rest))

-- An item comes before each STOP

-- of an item one at least as new stands in front of each STOP
abbrev pub Leads : Item → List ManagementMessage → Type 0
Leads x [] = Unit {0}
Leads x (m ∷ ms) = IsComing (carried m) x ⊎ ((stop_of m ≡ 0) × Leads x ms)

pub leads_both : (x : Item) (ms ns : List ManagementMessage) → Leads x ms → Leads x ns → Leads x (ms ++ ns)
leads_both x [] ns a b = b
leads_both x (m ∷ ms) ns (inl comes) b = inl comes
leads_both x (m ∷ ms) ns (inr rest) b = inr (rest.0, leads_both x ms ns rest.1 b)

pub leads_front : (x : Item) (ms ns : List ManagementMessage) → Leads x (ms ++ ns) → Leads x ms
leads_front x [] ns a = tt
leads_front x (m ∷ ms) ns (inl comes) = inl comes
leads_front x (m ∷ ms) ns (inr rest) = inr (rest.0, leads_front x ms ns rest.1)

pub none_leads : (x : Item) (ms : List ManagementMessage) → stops ms ≡ 0 → Leads x ms
none_leads x [] e = tt
none_leads x (m ∷ ms) e = inr (omega (arith, e), none_leads x ms (omega (arith, e)))

-- so where STOP is the first, the item is not to come
pub none_before_stop : (x : Item) (invoke : ℕ) (ms : List ManagementMessage) → Leads x (ToNeighbour (messages.Stop invoke) ∷ ms) → ⊥
none_before_stop x invoke ms (inl comes) = nothing_in comes.item comes.among
none_before_stop x invoke ms (inr rest) = (let e : 1 ≡ 0 = rest.0 in absurd (omega (arith, e)))

-- Messages that wait

pub starts_wait : (j : ℕ) (w : Waiting) (ws : List Waiting) → starts (waiting_on j (w ∷ ws)) ≡ cond (w.link == j) (start_of w.message) 0 + starts (waiting_on j ws)
starts_wait j w ws = elim (cases_Bool (w.link == j)) [ inl e ↦ rw e refl | inr e ↦ rw e (omega arith) ]

pub stops_wait : (j : ℕ) (w : Waiting) (ws : List Waiting) → stops (waiting_on j (w ∷ ws)) ≡ cond (w.link == j) (stop_of w.message) 0 + stops (waiting_on j ws)
stops_wait j w ws = elim (cases_Bool (w.link == j)) [ inl e ↦ rw e refl | inr e ↦ rw e (omega arith) ]

pub starts_more : (j : ℕ) (ws vs : List Waiting) → starts (waiting_on j (ws ++ vs)) ≡ starts (waiting_on j ws) + starts (waiting_on j vs)
starts_more j ws vs = ap starts (put_waits_last j ws vs) ∙ starts_both (waiting_on j ws) (waiting_on j vs)

pub stops_more : (j : ℕ) (ws vs : List Waiting) → stops (waiting_on j (ws ++ vs)) ≡ stops (waiting_on j ws) + stops (waiting_on j vs)
stops_more j ws vs = ap stops (put_waits_last j ws vs) ∙ stops_both (waiting_on j ws) (waiting_on j vs)

-- no START and no STOP among messages that wait
pub record IsCalm (ws : List Waiting) : Type 0 where
  pub starts : (j : ℕ) → starts (waiting_on j ws) ≡ 0
  pub stops : (j : ℕ) → stops (waiting_on j ws) ≡ 0

none_of : (c : ℕ) (a b : ℕ) → a ≡ 0 → b ≡ 0 → a + b ≡ 0
none_of c a b e f = omega (arith, e, f)

cond_none : (b : _) (k : ℕ) → k ≡ 0 → cond b k 0 ≡ 0
cond_none true k e = e
cond_none false k e = refl

pub none_calm : IsCalm []
none_calm = record { starts = λ j. refl; stops = λ j. refl }

pub more_calm : (w : Waiting) (ws : List Waiting) → start_of w.message ≡ 0 → stop_of w.message ≡ 0 → IsCalm ws → IsCalm (w ∷ ws)
more_calm w ws a b c = record {
  starts = λ j. (let e = starts_wait j w ws in let f = cond_none (w.link == j) (start_of w.message) a in let g = c.starts j in omega (arith, e, f, g));
  stops = λ j. (let e = stops_wait j w ws in let f = cond_none (w.link == j) (stop_of w.message) b in let g = c.stops j in omega (arith, e, f, g));
}

pub floods_calm : (out : Option ℕ) (x : Item) (links : List Link) → IsCalm (floods out x links)
floods_calm out x [] = none_calm
floods_calm out x (l ∷ links) = elim (cases_Bool (is_flooded out l)) [
  | inl is ↦ rw is (more_calm (flood_on x l) (floods out x links) refl refl (floods_calm out x links))
  | inr isnt ↦ rw isnt (floods_calm out x links)
]

pub items_calm : (k : ℕ) (items : List Item) → IsCalm (map (item_on k) items)
items_calm k [] = none_calm
items_calm k (x ∷ items) = more_calm (item_on k x) (map (item_on k) items) refl refl (items_calm k items)

pub stop_batch_calm : (k invoke : ℕ) (items : List Item) → IsCalm (stop_batch k invoke items)
stop_batch_calm k invoke items = more_calm (near k (messages.StopR invoke)) (map (item_on k) items) refl refl (items_calm k items)

-- What is put at START

pub start_batch_starts : (j k invoke stop : ℕ) (items : List Item) → starts (waiting_on j (start_batch k invoke items stop)) ≡ 0
start_batch_starts j k invoke stop items =
    let last = near k (messages.Stop stop) in
    let a = starts_wait j (near k (messages.StartR invoke)) (map (item_on k) items ++ last ∷ []) in
    let b = cond_none (k == j) 0 refl in
    let c = starts_more j (map (item_on k) items) (last ∷ []) in
    let d = starts_wait j last [] in
    let q = items_calm k items in
    let e = q.starts j in
    omega (arith, a, b, c, d, e)

pub start_batch_stops : (j k invoke stop : ℕ) (items : List Item) → stops (waiting_on j (start_batch k invoke items stop)) ≡ cond (k == j) 1 0
start_batch_stops j k invoke stop items =
    let last = near k (messages.Stop stop) in
    let a = stops_wait j (near k (messages.StartR invoke)) (map (item_on k) items ++ last ∷ []) in
    let b = cond_none (k == j) 0 refl in
    let c = stops_more j (map (item_on k) items) (last ∷ []) in
    let d = stops_wait j last [] in
    let q = items_calm k items in
    let e = q.stops j in
    omega (arith, a, b, c, d, e)

-- the items come before STOP
items_lead : (k : ℕ) (items : List Item) (more : List Waiting) (x y : Item) → Contains items y → y.key ≡ x.key → is_below y.version x.version ≡ false → Leads x (waiting_on k (map (item_on k) items ++ more))
items_lead k [] more x y e same least = absurd (nothing_in y e)
items_lead k (z ∷ items) more x y e same least =
    let there = eq-eqb k k refl in
    rw there (elim (in_cons z items y e) [
      | inl is ↦
          (let P : Item → Type 0 = λ w. Contains (z ∷ []) w in
          inl (record { item = y; among = subst P is (in_first z []); same = same; least = least }))
      | inr later ↦ inr (refl, items_lead k items more x y later same least)
    ])

pub start_batch_leads : (j k invoke stop : ℕ) (items : List Item) (x : Item) → IsAtLeast items x → Leads x (waiting_on j (start_batch k invoke items stop))
start_batch_leads j k invoke stop items x h = elim (cases_Bool (k == j)) [
  | inl is ↦
      (let P : ℕ → Type 0 = λ i. Leads x (waiting_on i (start_batch k invoke items stop)) in
      let there = eq-eqb k k refl in
      let rest = items_lead k items (near k (messages.Stop stop) ∷ []) x h.item (found_in items x.key h.item h.kept) (found_key items x.key h.item h.kept) h.least in
      subst P (eqb-true k j is) (rw there (inr (refl, rest))))
  | inr isnt ↦
      (let none = start_batch_stops j k invoke stop items in
      none_leads x (waiting_on j (start_batch k invoke items stop)) (none ∙ rw isnt refl))
]
