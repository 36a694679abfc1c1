-- Each message that waits at a member waits for a link that it has.
use Rattle.std.proofs.Common.{◌≡◌, ℕ, Bool, true, false, ◌==◌, cond, List, [], ◌∷◌, ◌++◌, map, Contains, slice_set, Option, Some, None, Ok, refl, sym, ◌∙◌, ap, subst, inl, inr}
use Rattle.std.specs.Prelude.{find, is_some, not}
use Rattle.std.proofs.lemmas.Bool.{both_ways, cases_Bool, eq-eqb, eqb-true}
use Rattle.std.proofs.lemmas.List.Elements.{Contains-append_cases, Contains-push_cases}
use Rattle.rina_enrol.specs.declared.event.EnrolDo.{EnrolDo}
use Rattle.rina_enrol.specs.declared.event.EnrolDo.TheVariants as does
use Rattle.rina_enrol.specs.declared.event.EnrolEvent.{EnrolEvent}
use Rattle.rina_enrol.specs.declared.event.EnrolEvent.TheVariants as events
use Rattle.rina_enrol.specs.declared.message.LinkMessage.{LinkMessage}
use Rattle.rina_enrol.specs.declared.message.LinkMessage.TheVariants as messages
use Rattle.rina_newest.specs.declared.item.Item.{Item}
use Rattle.rina_newest.specs.Newest.{is_newer, kept_at, taken}
use Rattle.rina_route.proofs.Lists.{contains_filter, contains_unmap}
use Rattle.rina_agent.specs.declared.agent.Agent.{Agent}
use Rattle.rina_agent.specs.declared.link.Link.{Link}
use Rattle.rina_agent.specs.declared.message.ManagementMessage.TheVariants.{ToNeighbour, ToMember}
use Rattle.rina_agent.specs.declared.message.Waiting.{Waiting}
use Rattle.rina_agent.specs.declared.state.AgentError.{AgentError}
use Rattle.rina_agent.specs.declared.state.MemberState.{MemberState}
use Rattle.rina_agent.specs.declared.state.MemberState.TheVariants.{Outside, Joining, Enrolled, Denied}
use Rattle.rina_agent.specs.Agenda.{flood_on, floods, is_flooded, item_on, near, waiting_on, waits_on, without_first}
use Rattle.rina_agent.specs.Counts.{next_of, spent, unless}
use Rattle.rina_agent.specs.Enrolled.{done}
use Rattle.rina_agent.specs.Enrolments.{hears, is_numbered, place_of}
use Rattle.rina_agent.specs.Items.{made, own_item, stated}
use Rattle.rina_agent.specs.Neighbours.{link_key, link_state}
use Rattle.rina_agent.specs.Rows.{allowed_as, allowed_by, connected_as, connected_by, denial, denied_by, dropped, either, entered, handled, introduced_in, joined_link, joining, joining_link, need_in, noted_by, peer_by, start_batch, started, started_as, started_by, stop_batch, stopped_as, stopped_by, up_link, was_up}
use Rattle.rina_flood.specs.Network.{other, Network, put_agent, Row, Make, Put, Draw, Take, Handle, Lose, Leave, Drop, Enrol, Claim, Know, Pass, happens, May, IsRun, after_rows, is_enrolled}
use Rattle.rina_flood.proofs.Calls.{at_place}
use Rattle.rina_flood.proofs.Heard.{IsHeard, found_number, is_heard, placed, set_link, set_other, set_same}
use Rattle.rina_flood.proofs.Known.{knower}
use Rattle.rina_flood.proofs.Messages.{spared_link}
use Rattle.rina_flood.proofs.Places.{nothing_in, in_cons, in_first, in_rest, without_cons}

abbrev HasNumber : List Link → ℕ → Type 0
HasNumber links k = is_some (find (is_numbered k) links) ≡ true

abbrev AllLinked : List Link → List Waiting → Type 0
AllLinked links ws = (w : Waiting) → Contains ws w → HasNumber links w.link

abbrev pub IsLinked : Agent → Type 0
IsLinked a = AllLinked a.links a.agenda

-- Lists

push_linked : (links : List Link) (ws : List Waiting) (v : Waiting) → AllLinked links ws → HasNumber links v.link → AllLinked links (ws ++ v ∷ [])
push_linked links ws v all has w e = elim (Contains-push_cases ws v w e) [
  | inl old ↦ all w old
  | inr is ↦ subst (λ (u : Waiting). HasNumber links u.link) is has
]

both_linked : (links : List Link) (xs ys : List Waiting) → AllLinked links xs → AllLinked links ys → AllLinked links (xs ++ ys)
both_linked links xs ys a b w e = elim (Contains-append_cases xs ys w e) [ inl x ↦ a w x | inr y ↦ b w y ]

cons_linked : (links : List Link) (v : Waiting) (ws : List Waiting) → HasNumber links v.link → AllLinked links ws → AllLinked links (v ∷ ws)
cons_linked links v ws has all w e = elim (in_cons v ws w e) [
  | inl is ↦ subst (λ (u : Waiting). HasNumber links u.link) is has
  | inr rest ↦ all w rest
]

-- a link of a list has its number there
has_itself : (links : List Link) (l : Link) → Contains links l → HasNumber links l.number
has_itself [] l e = absurd (nothing_in l e)
has_itself (x ∷ links) l e = elim (cases_Bool (x.number == l.number)) [
  | inl is ↦ rw is refl
  | inr isnt ↦ elim (in_cons x links l e) [
    | inl same ↦ absurd (both_ways (x.number == l.number) isnt (eq-eqb x.number l.number (ap (λ (y : Link). y.number) same)))
    | inr rest ↦ rw isnt (has_itself links l rest)
  ]
]

floods_linked : (out : Option ℕ) (x : Item) (links : List Link) → AllLinked links (floods out x links)
floods_linked out x links w e =
    let r = contains_unmap (flood_on x) _ w e in
    let l = contains_filter (is_flooded out) links r.0 r.1 in
    subst (λ (u : Waiting). HasNumber links u.link) r.2 (has_itself links r.0 l.0)

items_linked : (links : List Link) (k : ℕ) (items : List Item) → HasNumber links k → AllLinked links (map (item_on k) items)
items_linked links k items has w e = (let r = contains_unmap (item_on k) items w e in subst (λ (u : Waiting). HasNumber links u.link) r.2 has)

-- A link that is set

found_some : (k : ℕ) (links : List Link) (l : Link) → find (is_numbered k) links ≡ Some l → HasNumber links k
found_some k links l e = ap is_some e

set_keeps : (j k : ℕ) (with l : Link) (links : List Link) → with.number ≡ k → find (is_numbered k) links ≡ Some l → HasNumber links j → HasNumber (set_link k with links) j
set_keeps j k with l links number there has = elim (cases_Bool (j == k)) [
  | inl is ↦
      (let same = eqb-true j k is in
      ap (λ (i : ℕ). is_some (find (is_numbered i) (set_link k with links))) same ∙ ap is_some (set_same k with l links number there))
  | inr isnt ↦ ap is_some (set_other j k with links number (λ is. both_ways (j == k) isnt (eq-eqb j k is))) ∙ has
]

module _ (links : List Link) (k at : ℕ) (becomes : Link) (q : IsHeard links (place_of k links) at becomes) where
  heard_keeps : (with : Link) → with.number ≡ becomes.number → (j : ℕ) → HasNumber links j → HasNumber (slice_set links at with) j
  heard_keeps with same j has =
      let p = placed k links at q.link q.here q.there in
      ap (λ (ls : List Link). is_some (find (is_numbered j) ls)) (p.set with) ∙ set_keeps j k with q.link links (same ∙ q.number ∙ found_number k links q.link p.found) p.found has

  heard_has : HasNumber links becomes.number
  heard_has =
      let p = placed k links at q.link q.here q.there in
      ap (λ (i : ℕ). is_some (find (is_numbered i) links)) (q.number ∙ found_number k links q.link p.found) ∙ ap is_some p.found

kept_linked : (links links' : List Link) (ws : List Waiting) → ((j : ℕ) → HasNumber links j → HasNumber links' j) → AllLinked links ws → AllLinked links' ws
kept_linked links links' ws keeps all w e = keeps w.link (all w e)

-- What a member does at a message

unless_linked : (o : Option AgentError) (a b : Agent) → IsLinked a → IsLinked b → IsLinked (done a (unless o b))
unless_linked None a b f g = g
unless_linked (Some e) a b f g = f

-- one message more on the link that heard one
replied_linked : (a : Agent) (k : ℕ) (at : ℕ) (link : Link) (reply : LinkMessage) → IsHeard a.links (place_of k a.links) at link → IsLinked a → AllLinked (slice_set a.links at link) (a.agenda ++ near link.number reply ∷ [])
replied_linked a k at link reply q f = push_linked (slice_set a.links at link) a.agenda (near link.number reply) (kept_linked a.links (slice_set a.links at link) a.agenda (heard_keeps a.links k at link q link refl) f) (heard_keeps a.links k at link q link refl link.number (heard_has a.links k at link q))

connect_as_linked : (d : EnrolDo) (a : Agent) (k : ℕ) (m reply : LinkMessage) (replies : List LinkMessage) (event : EnrolEvent) (h : _) → hears a.links k m replies event ≡ Some h → IsLinked a → IsLinked (connected_as d a h reply)
connect_as_linked does.Nothing a k m reply replies event h is f = f
connect_as_linked (does.ConnectR denied) a k m reply replies event h is f = replied_linked a k h.at h.link reply (is_heard a.links k m replies event h is) f
connect_as_linked does.Start a k m reply replies event h is f = f
connect_as_linked does.StartR a k m reply replies event h is f = f
connect_as_linked does.StopR a k m reply replies event h is f = f

connect_linked : (a : Agent) (k : ℕ) (m reply : LinkMessage) (replies : List LinkMessage) (event : EnrolEvent) (o : _) → hears a.links k m replies event ≡ o → IsLinked a → IsLinked (connected_by a reply o)
connect_linked a k m reply replies event None is f = f
connect_linked a k m reply replies event (Some h) is f = connect_as_linked h.does a k m reply replies event h is f

allow_as_linked : (d : EnrolDo) (a : Agent) (k : ℕ) (m start : LinkMessage) (replies : List LinkMessage) (event : EnrolEvent) (h : _) → hears a.links k m replies event ≡ Some h → IsLinked a → IsLinked (done a (allowed_as d a h start))
allow_as_linked does.Nothing a k m start replies event h is f = f
allow_as_linked (does.ConnectR denied) a k m start replies event h is f = f
allow_as_linked does.Start a k m start replies event h is f =
    let b : Agent = record a { last_invoke = next_of a.last_invoke; links = slice_set a.links h.at h.link; agenda = a.agenda ++ near h.link.number start ∷ [] } in
    unless_linked (spent 1 a.last_invoke) a b f (replied_linked a k h.at h.link start (is_heard a.links k m replies event h is) f)
allow_as_linked does.StartR a k m start replies event h is f = f
allow_as_linked does.StopR a k m start replies event h is f = f

allow_linked : (a : Agent) (k : ℕ) (m start : LinkMessage) (replies : List LinkMessage) (event : EnrolEvent) (o : _) → hears a.links k m replies event ≡ o → IsLinked a → IsLinked (done a (allowed_by a start o))
allow_linked a k m start replies event None is f = f
allow_linked a k m start replies event (Some h) is f = allow_as_linked h.does a k m start replies event h is f

deny_linked : (a : Agent) (k link rule : ℕ) (m : LinkMessage) (replies : List LinkMessage) (event : EnrolEvent) (o : _) → hears a.links k m replies event ≡ o → IsLinked a → IsLinked (denied_by a link rule o)
deny_linked a k link rule m replies event None is f = f
deny_linked a k link rule m replies event (Some h) is f = kept_linked a.links (slice_set a.links h.at h.link) a.agenda (heard_keeps a.links k h.at h.link (is_heard a.links k m replies event h is) h.link refl) f

note_linked : (a : Agent) (k : ℕ) (m : LinkMessage) (replies : List LinkMessage) (event : EnrolEvent) (o : _) → hears a.links k m replies event ≡ o → IsLinked a → IsLinked (noted_by a o)
note_linked a k m replies event None is f = f
note_linked a k m replies event (Some h) is f = kept_linked a.links (slice_set a.links h.at h.link) a.agenda (heard_keeps a.links k h.at h.link (is_heard a.links k m replies event h is) h.link refl) f

made_linked : (out : Option ℕ) (a : Agent) (now : ℕ) (key : List ℕ) (value : Option (List ℕ)) → IsLinked a → IsLinked (made out a now key value)
made_linked out a now key value f = both_linked a.links a.agenda (floods out (own_item a now key value) a.links) f (floods_linked out (own_item a now key value) a.links)

stated_linked : (out : Option ℕ) (a : Agent) (now : ℕ) → IsLinked a → IsLinked (stated out a now)
stated_linked out a now f = made_linked out a now (link_key a.address) (Some (link_state out a.links)) f

start_as_linked : (d : EnrolDo) (a : Agent) (now k : ℕ) (m : LinkMessage) (replies : List LinkMessage) (h : _) (invoke address : ℕ) → hears a.links k m replies events.Start ≡ Some h → IsLinked a → IsLinked (done a (started_as d a now h invoke address))
start_as_linked does.Nothing a now k m replies h invoke address is f = f
start_as_linked (does.ConnectR denied) a now k m replies h invoke address is f = f
start_as_linked does.Start a now k m replies h invoke address is f = f
start_as_linked does.StartR a now k m replies h invoke address is f =
    let q = is_heard a.links k m replies events.Start h is in
    let n = h.link.number in
    let stop = next_of a.last_invoke in
    let up = up_link (Some address) h.link in
    let links = slice_set a.links h.at up in
    let keeps = heard_keeps a.links k h.at h.link q up refl in
    let has : HasNumber links n = keeps n (heard_has a.links k h.at h.link q) in
    let c : Agent = record a { last_invoke = stop; links = links; agenda = a.agenda ++ start_batch n invoke a.items stop } in
    unless_linked (either (spent 1 a.last_count) (spent 1 a.last_invoke)) a (started a now h invoke address) f (stated_linked None c now (both_linked links a.agenda (start_batch n invoke a.items stop) (kept_linked a.links links a.agenda keeps f)
    (cons_linked links (near n (messages.StartR invoke)) (map (item_on n) a.items ++ near n (messages.Stop stop) ∷ []) has (push_linked links (map (item_on n) a.items) (near n (messages.Stop stop)) (items_linked links n a.items has) has))))
start_as_linked does.StopR a now k m replies h invoke address is f = f

start_linked : (a : Agent) (now k : ℕ) (m : LinkMessage) (replies : List LinkMessage) (o : _) (invoke address : ℕ) → hears a.links k m replies events.Start ≡ o → IsLinked a → IsLinked (done a (started_by a now invoke address o))
start_linked a now k m replies None invoke address is f = f
start_linked a now k m replies (Some h) invoke address is f = start_as_linked h.does a now k m replies h invoke address is f

entered_linked : (a : Agent) (now k : ℕ) (m : LinkMessage) (replies : List LinkMessage) (h : _) (invoke : ℕ) → hears a.links k m replies events.Stop ≡ Some h → IsLinked a → IsLinked (entered a now h invoke)
entered_linked a now k m replies h invoke is f =
    let q = is_heard a.links k m replies events.Stop h is in
    let n = h.link.number in
    let up = up_link (peer_by h.link.enrolment a.items) h.link in
    let links = slice_set a.links h.at up in
    let keeps = heard_keeps a.links k h.at h.link q up refl in
    let has : HasNumber links n = keeps n (heard_has a.links k h.at h.link q) in
    let c : Agent = record a { state = Enrolled; links = links; agenda = a.agenda ++ stop_batch n invoke a.items } in
    stated_linked None c now (both_linked links a.agenda (stop_batch n invoke a.items) (kept_linked a.links links a.agenda keeps f) (cons_linked links (near n (messages.StopR invoke)) (map (item_on n) a.items) has (items_linked links n a.items has)))

-- a member that was not enrolled makes its member item before
introduced_linked : (s : MemberState) (a : Agent) (now k : ℕ) (m : LinkMessage) (replies : List LinkMessage) (h : _) (invoke : ℕ) → hears a.links k m replies events.Stop ≡ Some h → IsLinked a → IsLinked (entered (introduced_in s a now) now h invoke)
introduced_linked Outside a now k m replies h invoke is f = entered_linked (introduced_in Outside a now) now k m replies h invoke is (made_linked None a now _ _ f)
introduced_linked (Joining link) a now k m replies h invoke is f = entered_linked (introduced_in (Joining link) a now) now k m replies h invoke is (made_linked None a now _ _ f)
introduced_linked Enrolled a now k m replies h invoke is f = entered_linked a now k m replies h invoke is f
introduced_linked (Denied rule) a now k m replies h invoke is f = entered_linked (introduced_in (Denied rule) a now) now k m replies h invoke is (made_linked None a now _ _ f)

stop_as_linked : (d : EnrolDo) (a : Agent) (now k : ℕ) (m : LinkMessage) (replies : List LinkMessage) (h : _) (invoke : ℕ) → hears a.links k m replies events.Stop ≡ Some h → IsLinked a → IsLinked (done a (stopped_as d a now h invoke))
stop_as_linked does.Nothing a now k m replies h invoke is f = f
stop_as_linked (does.ConnectR denied) a now k m replies h invoke is f = f
stop_as_linked does.Start a now k m replies h invoke is f = f
stop_as_linked does.StartR a now k m replies h invoke is f = f
stop_as_linked does.StopR a now k m replies h invoke is f = unless_linked (spent (need_in a.state) a.last_count) a (entered (introduced_in a.state a now) now h invoke) f (introduced_linked a.state a now k m replies h invoke is f)

stop_linked : (a : Agent) (now k : ℕ) (m : LinkMessage) (replies : List LinkMessage) (o : _) (invoke : ℕ) → hears a.links k m replies events.Stop ≡ o → IsLinked a → IsLinked (done a (stopped_by a now invoke o))
stop_linked a now k m replies None invoke is f = f
stop_linked a now k m replies (Some h) invoke is f = stop_as_linked h.does a now k m replies h invoke is f

took_linked : (newer : Bool) (a : Agent) (link : ℕ) (x : Item) (items : List Item) → IsLinked a → IsLinked (cond newer (record a { items = items; agenda = a.agenda ++ floods (Some link) x a.links }) a)
took_linked true a link x items f = both_linked a.links a.agenda (floods (Some link) x a.links) f (floods_linked (Some link) x a.links)
took_linked false a link x items f = f

handled_linked : (a : Agent) (now k : ℕ) (m : LinkMessage) → IsLinked a → IsLinked (done a (handled a now k m))
handled_linked a now k (messages.Connect invoke joiner member) f =
    let m = messages.Connect invoke joiner member in
    let reply = messages.ConnectR invoke (denial a joiner) in
    connect_linked a k m reply (reply ∷ []) (events.Connect (denial a joiner)) (hears a.links k m (reply ∷ []) (events.Connect (denial a joiner))) refl f
handled_linked a now k (messages.ConnectR invoke None) f =
    let m = messages.ConnectR invoke None in
    let start = messages.Start (next_of a.last_invoke) a.address in
    allow_linked a k m start (start ∷ []) (events.ConnectR None) (hears a.links k m (start ∷ []) (events.ConnectR None)) refl f
handled_linked a now k (messages.ConnectR invoke (Some rule)) f = deny_linked a k k rule (messages.ConnectR invoke (Some rule)) [] (events.ConnectR (Some rule)) (hears a.links k (messages.ConnectR invoke (Some rule)) [] (events.ConnectR (Some rule))) refl f
handled_linked a now k (messages.Start invoke address) f =
    let m = messages.Start invoke address in
    let replies = messages.StartR invoke ∷ messages.Stop (next_of a.last_invoke) ∷ [] in
    start_linked a now k m replies (hears a.links k m replies events.Start) invoke address refl f
handled_linked a now k (messages.StartR invoke) f = note_linked a k (messages.StartR invoke) [] events.StartR (hears a.links k (messages.StartR invoke) [] events.StartR) refl f
handled_linked a now k (messages.Item x) f = took_linked (is_newer x.version (kept_at a.items x.key)) a k x (taken a.items x) f
handled_linked a now k (messages.Stop invoke) f = stop_linked a now k (messages.Stop invoke) (messages.StopR invoke ∷ []) (hears a.links k (messages.Stop invoke) (messages.StopR invoke ∷ []) events.Stop) invoke refl f
handled_linked a now k (messages.StopR invoke) f = note_linked a k (messages.StopR invoke) [] events.StopR (hears a.links k (messages.StopR invoke) [] events.StopR) refl f
handled_linked a now k (messages.Flood x) f = took_linked (is_newer x.version (kept_at a.items x.key)) a k x (taken a.items x) f

-- A link is lost, or made

not_false : (b : Bool) → not b ≡ true → b ≡ false
not_false true e = absurd (both_ways true (sym e) refl)
not_false false e = refl

dropped_linked : (a : Agent) (k : ℕ) → IsLinked a → IsLinked (dropped a k)
dropped_linked a k f w e =
    let r = contains_filter (λ (v : Waiting). not (waits_on k v)) a.agenda w e in
    let off : w.link ≡ k → ⊥ = λ is. both_ways (w.link == k) (not_false (w.link == k) r.1) (eq-eqb w.link k is) in
    ap is_some (spared_link w.link k a.links off) ∙ f w r.0

lost_linked : (up : Bool) (o : Option AgentError) (a : Agent) (now k : ℕ) → IsLinked a → IsLinked (done a (cond up (unless o (dropped (stated (Some k) a now) k)) (Ok (dropped a k))))
lost_linked true None a now k f = dropped_linked (stated (Some k) a now) k (stated_linked (Some k) a now f)
lost_linked true (Some e) a now k f = f
lost_linked false o a now k f = dropped_linked a k f

more_keeps : (links : List Link) (new : Link) (j : ℕ) → HasNumber links j → HasNumber (links ++ new ∷ []) j
more_keeps [] new j has = absurd (both_ways true (sym has) refl)
more_keeps (x ∷ links) new j has = elim (cases_Bool (x.number == j)) [
  | inl is ↦ rw is refl
  | inr isnt ↦ rw isnt (more_keeps links new j (rw isnt at has))
]

more_has : (links : List Link) (new : Link) → HasNumber (links ++ new ∷ []) new.number
more_has [] new = (let is = eq-eqb new.number new.number refl in rw is refl)
more_has (x ∷ links) new = elim (cases_Bool (x.number == new.number)) [
  | inl is ↦ rw is refl
  | inr isnt ↦ rw isnt (more_has links new)
]

known_linked : (taking : Bool) (x : Item) (a : Agent) → IsLinked a → IsLinked (knower taking x a)
known_linked true x a f = f
known_linked false x a f = f

-- what waits without the first message of a link waited before
shorter : (k : ℕ) (ws : List Waiting) (w : Waiting) → Contains (without_first k ws) w → Contains ws w
shorter k [] w e = e
shorter k (v ∷ ws) w e = elim (cases_Bool (v.link == k)) [
  | inl is ↦
      (let gone : without_first k (v ∷ ws) ≡ ws = without_cons (waits_on k) v ws ∙ rw is refl in
      in_rest v ws w (subst (λ (xs : List Waiting). Contains xs w) gone e))
  | inr isnt ↦
      (let kept : without_first k (v ∷ ws) ≡ v ∷ without_first k ws = without_cons (waits_on k) v ws ∙ rw isnt refl in
      elim (in_cons v (without_first k ws) w (subst (λ (xs : List Waiting). Contains xs w) kept e)) [
        | inl is ↦ subst (λ (u : Waiting). Contains (v ∷ ws) u) is (in_first v ws)
        | inr rest ↦ in_rest v ws w (shorter k ws w rest)
      ])
]

-- All rows

one_linked : (n : Network) (i : ℕ) (b : Agent) → (IsLinked (n.agents i) → IsLinked b) → ((j : ℕ) → IsLinked (n.agents j)) → (j : ℕ) → IsLinked (put_agent i b n.agents j)
one_linked n i b changed f j = at_place (λ a c. IsLinked a → IsLinked c) i b n.agents j changed (λ a e. e) (f j)

row_linked : (n : Network) (row : Row) → May n row → ((i : ℕ) → IsLinked (n.agents i)) → (i : ℕ) → IsLinked ((happens n row).agents i)
row_linked n (Make j key value) may f = one_linked n j _ (λ g. unless_linked (spent 1 (n.agents j).last_count) (n.agents j) (made None (n.agents j) n.now key value) g (made_linked None (n.agents j) n.now key value g)) f
row_linked n (Put i number m) may f = one_linked n i _ (λ g. push_linked (n.agents i).links (n.agents i).agenda (record { link = number; message = ToMember m }) g may) f
row_linked n (Draw i) may f = one_linked n i _ (λ g. g) f
row_linked n (Take link side number m) may f = one_linked n (n.ends link side) _ (λ g w e. g w (shorter number (n.agents (n.ends link side)).agenda w e)) f
row_linked n (Handle link side number (ToNeighbour m) rest) may f = one_linked n (n.ends link (other side)) _ (λ g. handled_linked (n.agents (n.ends link (other side))) n.now number m g) f
row_linked n (Handle link side number (ToMember m) rest) may f = f
row_linked n (Lose link side number) may f = one_linked n (n.ends link side) _ (lost_linked (was_up (find (is_numbered number) (n.agents (n.ends link side)).links)) (spent 1 (n.agents (n.ends link side)).last_count) (n.agents (n.ends link side)) n.now number) f
row_linked n (Leave link side number) may f = f
row_linked n (Drop link side left) may f = f
row_linked n (Enrol link side number i j member node) may f =
    let a = n.agents i in
    let new = joining_link number (next_of a.last_invoke) node in
    one_linked n i _ (λ g. unless_linked (spent 1 a.last_invoke) a (joining a number member node) g
    (push_linked (a.links ++ new ∷ []) a.agenda (near number (messages.Connect (next_of a.last_invoke) a.name member)) (kept_linked a.links (a.links ++ new ∷ []) a.agenda (more_keeps a.links new) g) (more_has a.links new))) f
row_linked n (Claim link side number) may f =
    let a = n.agents (n.ends link side) in
    one_linked n (n.ends link side) _ (λ g. kept_linked a.links (a.links ++ joined_link number ∷ []) a.agenda (more_keeps a.links (joined_link number)) g) f
row_linked n (Know x) may f = λ i. known_linked (is_enrolled (n.agents i)) x (n.agents i) (f i)
row_linked n Pass may f = f

pub rows_linked : (n : Network) (rows : List Row) → IsRun n rows → ((i : ℕ) → IsLinked (n.agents i)) → (i : ℕ) → IsLinked ((after_rows n rows).agents i)
rows_linked n [] run f = f
rows_linked n (row ∷ rows) run f = rows_linked (happens n row) rows run.1 (row_linked n row run.0 f)

-- so no message waits for a number that no link has
none_waits : (k : ℕ) (ws : List Waiting) → ((w : Waiting) → Contains ws w → (w.link == k) ≡ true → ⊥) → waiting_on k ws ≡ []
none_waits k [] none = refl
none_waits k (v ∷ ws) none = elim (cases_Bool (v.link == k)) [
  | inl is ↦ absurd (none v (in_first v ws) is)
  | inr isnt ↦ rw isnt (none_waits k ws (λ w e. none w (in_rest v ws w e)))
]

pub no_strays : (a : Agent) (k : ℕ) → IsLinked a → find (is_numbered k) a.links ≡ None → waiting_on k a.agenda ≡ []
no_strays a k f none = none_waits k a.agenda (λ w e is.
    both_ways true (sym (ap is_some (sym none) ∙ ap (λ (j : ℕ). is_some (find (is_numbered j) a.links)) (sym (eqb-true w.link k is)) ∙ f w e)) refl)
