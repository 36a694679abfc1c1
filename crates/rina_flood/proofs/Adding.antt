-- What a member puts on its agenda at a message: items, and messages for the link on which that came.
use Rattle.std.proofs.Common.{◌≡◌, ℕ, ◌⊎◌, Bool, true, false, cond, List, [], ◌∷◌, ◌++◌, map, Contains, filter, slice_set, Option, Some, None, refl, sym, ◌∙◌, subst, inl, inr}
use Rattle.std.proofs.lemmas.Bool.{eqb-true}
use Rattle.std.proofs.lemmas.List.Elements.{Contains-append_cases}
use Rattle.rina_enrol.specs.declared.event.EnrolDo.{EnrolDo}
use Rattle.rina_enrol.specs.declared.event.EnrolDo.TheVariants as does
use Rattle.rina_enrol.specs.declared.event.EnrolEvent.{EnrolEvent}
use Rattle.rina_enrol.specs.declared.event.EnrolEvent.TheVariants as events
use Rattle.rina_enrol.specs.declared.message.LinkMessage.{LinkMessage}
use Rattle.rina_enrol.specs.declared.message.LinkMessage.TheVariants as messages
use Rattle.rina_newest.specs.declared.item.Item.{Item}
use Rattle.rina_newest.specs.Newest.{is_newer, kept_at, taken}
use Rattle.rina_route.proofs.Lists.{contains_filter, contains_map, contains_unmap}
use Rattle.rina_member.proofs.Lists.{kept}
use Rattle.rina_agent.specs.declared.agent.Agent.{Agent}
use Rattle.rina_agent.specs.declared.link.Link.{Link}
use Rattle.rina_agent.specs.declared.message.ManagementMessage.{ManagementMessage}
use Rattle.rina_agent.specs.declared.message.Waiting.{Waiting}
use Rattle.rina_agent.specs.declared.state.AgentError.{AgentError}
use Rattle.rina_agent.specs.declared.state.MemberState.{MemberState}
use Rattle.rina_agent.specs.declared.state.MemberState.TheVariants.{Outside, Joining, Enrolled, Denied}
use Rattle.rina_agent.specs.Agenda.{flood_on, floods, item_on, near, waiting_on, waits_on}
use Rattle.rina_agent.specs.Counts.{next_of, spent, unless}
use Rattle.rina_agent.specs.Enrolled.{done}
use Rattle.rina_agent.specs.Enrolments.{hears, place_of}
use Rattle.rina_agent.specs.Items.{made, own_item}
use Rattle.rina_agent.specs.Neighbours.{link_key, link_state}
use Rattle.rina_agent.specs.Rows.{allowed_as, allowed_by, connected_as, connected_by, denial, denied_by, either, entered, handled, introduced_in, joining, need_in, noted_by, peer_by, start_batch, started, started_as, started_by, stop_batch, stopped_as, stopped_by, up_link}
use Rattle.rina_flood.proofs.Heard.{IsHeard, found_number, is_heard, placed}
use Rattle.rina_flood.proofs.Holds.{is_plain}
use Rattle.rina_flood.proofs.Places.{in_cons, in_one}

-- a message is of no enrolment, or waits for a link
abbrev IsNews : ℕ → Waiting → Type 0
IsNews k w = (is_plain w.message ≡ true) ⊎ (w.link ≡ k)

abbrev AreNews : ℕ → List Waiting → Type 0
AreNews k ws = (w : Waiting) → Contains ws w → IsNews k w

-- what waits now waited before, or is such a message
abbrev pub AddsNews : ℕ → List Waiting → List Waiting → Type 0
AddsNews k old new = (w : Waiting) → Contains new w → Contains old w ⊎ IsNews k w

-- Lists

more_news : (k : ℕ) (ws more : List Waiting) → AreNews k more → AddsNews k ws (ws ++ more)
more_news k ws more news w e = elim (Contains-append_cases ws more w e) [ inl old ↦ inl old | inr new ↦ inr (news w new) ]

then_news : (k : ℕ) (a b c : List Waiting) → AddsNews k a b → AddsNews k b c → AddsNews k a c
then_news k a b c first second w e = elim (second w e) [ inl old ↦ first w old | inr new ↦ inr new ]

one_near : (k j : ℕ) (m : LinkMessage) → j ≡ k → AreNews k (near j m ∷ [])
one_near k j m is w e = inr (subst (λ (u : Waiting). u.link ≡ k) (in_one (near j m) w e) is)

cons_near : (k j : ℕ) (m : LinkMessage) (ws : List Waiting) → j ≡ k → AreNews k ws → AreNews k (near j m ∷ ws)
cons_near k j m ws is news w e = elim (in_cons (near j m) ws w e) [
  | inl same ↦ inr (subst (λ (u : Waiting). u.link ≡ k) same is)
  | inr rest ↦ news w rest
]

both_news : (k : ℕ) (xs ys : List Waiting) → AreNews k xs → AreNews k ys → AreNews k (xs ++ ys)
both_news k xs ys a b w e = elim (Contains-append_cases xs ys w e) [ inl x ↦ a w x | inr y ↦ b w y ]

floods_news : (k : ℕ) (out : Option ℕ) (x : Item) (links : List Link) → AreNews k (floods out x links)
floods_news k out x links w e = (let r = contains_unmap (flood_on x) _ w e in inl (subst (λ (u : Waiting). is_plain u.message ≡ true) r.2 refl))

items_news : (k j : ℕ) (items : List Item) → AreNews k (map (item_on j) items)
items_news k j items w e = (let r = contains_unmap (item_on j) items w e in inl (subst (λ (u : Waiting). is_plain u.message ≡ true) r.2 refl))

-- the link that heard a message has the number on which that came
heard_number : (links : List Link) (k at : ℕ) (becomes : Link) → IsHeard links (place_of k links) at becomes → becomes.number ≡ k
heard_number links k at becomes q = (let p = placed k links at q.link q.here q.there in q.number ∙ found_number k links q.link p.found)

-- What a member does at a message

pub unless_news : (k : ℕ) (o : Option AgentError) (a b : Agent) → AddsNews k a.agenda b.agenda → AddsNews k a.agenda (done a (unless o b)).agenda
unless_news k None a b news = news
unless_news k (Some e) a b news = λ w is. inl is

connect_as_news : (d : EnrolDo) (a : Agent) (k : ℕ) (m reply : LinkMessage) (replies : List LinkMessage) (event : EnrolEvent) (h : _) → hears a.links k m replies event ≡ Some h → AddsNews k a.agenda (connected_as d a h reply).agenda
connect_as_news does.Nothing a k m reply replies event h is = λ w e. inl e
connect_as_news (does.ConnectR denied) a k m reply replies event h is = more_news k a.agenda (near h.link.number reply ∷ []) (one_near k h.link.number reply (heard_number a.links k h.at h.link (is_heard a.links k m replies event h is)))
connect_as_news does.Start a k m reply replies event h is = λ w e. inl e
connect_as_news does.StartR a k m reply replies event h is = λ w e. inl e
connect_as_news does.StopR a k m reply replies event h is = λ w e. inl e

connect_news : (a : Agent) (k : ℕ) (m reply : LinkMessage) (replies : List LinkMessage) (event : EnrolEvent) (o : _) → hears a.links k m replies event ≡ o → AddsNews k a.agenda (connected_by a reply o).agenda
connect_news a k m reply replies event None is = λ w e. inl e
connect_news a k m reply replies event (Some h) is = connect_as_news h.does a k m reply replies event h is

allow_as_news : (d : EnrolDo) (a : Agent) (k : ℕ) (m start : LinkMessage) (replies : List LinkMessage) (event : EnrolEvent) (h : _) → hears a.links k m replies event ≡ Some h → AddsNews k a.agenda (done a (allowed_as d a h start)).agenda
allow_as_news does.Nothing a k m start replies event h is = λ w e. inl e
allow_as_news (does.ConnectR denied) a k m start replies event h is = λ w e. inl e
allow_as_news does.Start a k m start replies event h is =
    let b : Agent = record a { last_invoke = next_of a.last_invoke; links = slice_set a.links h.at h.link; agenda = a.agenda ++ near h.link.number start ∷ [] } in
    unless_news k (spent 1 a.last_invoke) a b (more_news k a.agenda (near h.link.number start ∷ []) (one_near k h.link.number start (heard_number a.links k h.at h.link (is_heard a.links k m replies event h is))))
allow_as_news does.StartR a k m start replies event h is = λ w e. inl e
allow_as_news does.StopR a k m start replies event h is = λ w e. inl e

allow_news : (a : Agent) (k : ℕ) (m start : LinkMessage) (replies : List LinkMessage) (event : EnrolEvent) (o : _) → hears a.links k m replies event ≡ o → AddsNews k a.agenda (done a (allowed_by a start o)).agenda
allow_news a k m start replies event None is = λ w e. inl e
allow_news a k m start replies event (Some h) is = allow_as_news h.does a k m start replies event h is

deny_news : (a : Agent) (k link rule : ℕ) (o : _) → AddsNews k a.agenda (denied_by a link rule o).agenda
deny_news a k link rule None = λ w e. inl e
deny_news a k link rule (Some h) = λ w e. inl e

note_news : (a : Agent) (k : ℕ) (o : _) → AddsNews k a.agenda (noted_by a o).agenda
note_news a k None = λ w e. inl e
note_news a k (Some h) = λ w e. inl e

-- CONNECT for a new link
pub joins_news : (k : ℕ) (a : Agent) (member node : List ℕ) → AddsNews k a.agenda (joining a k member node).agenda
joins_news k a member node = (let connect = messages.Connect (next_of a.last_invoke) a.name member in more_news k a.agenda (near k connect ∷ []) (one_near k k connect refl))

-- a member floods what it makes
made_news : (k : ℕ) (out : Option ℕ) (a : Agent) (now : ℕ) (key : List ℕ) (value : Option (List ℕ)) → AddsNews k a.agenda (made out a now key value).agenda
made_news k out a now key value = more_news k a.agenda (floods out (own_item a now key value) a.links) (floods_news k out (own_item a now key value) a.links)

-- a link comes up after messages for it, and the member makes its link state
raised_news : (k : ℕ) (a c : Agent) (now : ℕ) → AddsNews k a.agenda c.agenda → AddsNews k a.agenda (made None c now (link_key c.address) (Some (link_state None c.links))).agenda
raised_news k a c now news = then_news k a.agenda c.agenda (made None c now (link_key c.address) (Some (link_state None c.links))).agenda news (made_news k None c now (link_key c.address) (Some (link_state None c.links)))

start_as_news : (d : EnrolDo) (a : Agent) (now k : ℕ) (m : LinkMessage) (replies : List LinkMessage) (h : _) (invoke address : ℕ) → hears a.links k m replies events.Start ≡ Some h → AddsNews k a.agenda (done a (started_as d a now h invoke address)).agenda
start_as_news does.Nothing a now k m replies h invoke address is = λ w e. inl e
start_as_news (does.ConnectR denied) a now k m replies h invoke address is = λ w e. inl e
start_as_news does.Start a now k m replies h invoke address is = λ w e. inl e
start_as_news does.StartR a now k m replies h invoke address is =
    let n = h.link.number in
    let stop = next_of a.last_invoke in
    let same : n ≡ k = heard_number a.links k h.at h.link (is_heard a.links k m replies events.Start h is) in
    let c : Agent = record a { last_invoke = stop; links = slice_set a.links h.at (up_link (Some address) h.link); agenda = a.agenda ++ start_batch n invoke a.items stop } in
    unless_news k (either (spent 1 a.last_count) (spent 1 a.last_invoke)) a (started a now h invoke address) (raised_news k a c now (more_news k a.agenda (start_batch n invoke a.items stop)
    (cons_near k n (messages.StartR invoke) (map (item_on n) a.items ++ near n (messages.Stop stop) ∷ []) same (both_news k (map (item_on n) a.items) (near n (messages.Stop stop) ∷ []) (items_news k n a.items) (one_near k n (messages.Stop stop) same)))))
start_as_news does.StopR a now k m replies h invoke address is = λ w e. inl e

start_news : (a : Agent) (now k : ℕ) (m : LinkMessage) (replies : List LinkMessage) (o : _) (invoke address : ℕ) → hears a.links k m replies events.Start ≡ o → AddsNews k a.agenda (done a (started_by a now invoke address o)).agenda
start_news a now k m replies None invoke address is = λ w e. inl e
start_news a now k m replies (Some h) invoke address is = start_as_news h.does a now k m replies h invoke address is

entered_news : (a : Agent) (now k : ℕ) (m : LinkMessage) (replies : List LinkMessage) (h : _) (invoke : ℕ) → hears a.links k m replies events.Stop ≡ Some h → AddsNews k a.agenda (entered a now h invoke).agenda
entered_news a now k m replies h invoke is =
    let n = h.link.number in
    let same : n ≡ k = heard_number a.links k h.at h.link (is_heard a.links k m replies events.Stop h is) in
    let c : Agent = record a { state = Enrolled; links = slice_set a.links h.at (up_link (peer_by h.link.enrolment a.items) h.link); agenda = a.agenda ++ stop_batch n invoke a.items } in
    raised_news k a c now (more_news k a.agenda (stop_batch n invoke a.items) (cons_near k n (messages.StopR invoke) (map (item_on n) a.items) same (items_news k n a.items)))

-- a member that was not enrolled makes its member item before
introduced_news : (s : MemberState) (a : Agent) (now k : ℕ) (m : LinkMessage) (replies : List LinkMessage) (h : _) (invoke : ℕ) → hears a.links k m replies events.Stop ≡ Some h → AddsNews k a.agenda (entered (introduced_in s a now) now h invoke).agenda
introduced_news Outside a now k m replies h invoke is = (let b = introduced_in Outside a now in then_news k a.agenda b.agenda (entered b now h invoke).agenda (made_news k None a now _ _) (entered_news b now k m replies h invoke is))
introduced_news (Joining link) a now k m replies h invoke is = (let b = introduced_in (Joining link) a now in then_news k a.agenda b.agenda (entered b now h invoke).agenda (made_news k None a now _ _) (entered_news b now k m replies h invoke is))
introduced_news Enrolled a now k m replies h invoke is = entered_news a now k m replies h invoke is
introduced_news (Denied rule) a now k m replies h invoke is = (let b = introduced_in (Denied rule) a now in then_news k a.agenda b.agenda (entered b now h invoke).agenda (made_news k None a now _ _) (entered_news b now k m replies h invoke is))

stop_as_news : (d : EnrolDo) (a : Agent) (now k : ℕ) (m : LinkMessage) (replies : List LinkMessage) (h : _) (invoke : ℕ) → hears a.links k m replies events.Stop ≡ Some h → AddsNews k a.agenda (done a (stopped_as d a now h invoke)).agenda
stop_as_news does.Nothing a now k m replies h invoke is = λ w e. inl e
stop_as_news (does.ConnectR denied) a now k m replies h invoke is = λ w e. inl e
stop_as_news does.Start a now k m replies h invoke is = λ w e. inl e
stop_as_news does.StartR a now k m replies h invoke is = λ w e. inl e
stop_as_news does.StopR a now k m replies h invoke is =
    unless_news k (spent (need_in a.state) a.last_count) a (entered (introduced_in a.state a now) now h invoke) (introduced_news a.state a now k m replies h invoke is)

stop_news : (a : Agent) (now k : ℕ) (m : LinkMessage) (replies : List LinkMessage) (o : _) (invoke : ℕ) → hears a.links k m replies events.Stop ≡ o → AddsNews k a.agenda (done a (stopped_by a now invoke o)).agenda
stop_news a now k m replies None invoke is = λ w e. inl e
stop_news a now k m replies (Some h) invoke is = stop_as_news h.does a now k m replies h invoke is

took_news : (newer : Bool) (a : Agent) (k : ℕ) (x : Item) (items : List Item) → AddsNews k a.agenda (cond newer (record a { items = items; agenda = a.agenda ++ floods (Some k) x a.links }) a).agenda
took_news true a k x items = more_news k a.agenda (floods (Some k) x a.links) (floods_news k (Some k) x a.links)
took_news false a k x items = λ w e. inl e

pub handled_news : (a : Agent) (now k : ℕ) (m : LinkMessage) → AddsNews k a.agenda (done a (handled a now k m)).agenda
handled_news a now k (messages.Connect invoke joiner member) =
    let m = messages.Connect invoke joiner member in
    let reply = messages.ConnectR invoke (denial a joiner) in
    connect_news a k m reply (reply ∷ []) (events.Connect (denial a joiner)) (hears a.links k m (reply ∷ []) (events.Connect (denial a joiner))) refl
handled_news a now k (messages.ConnectR invoke None) =
    let m = messages.ConnectR invoke None in
    let start = messages.Start (next_of a.last_invoke) a.address in
    allow_news a k m start (start ∷ []) (events.ConnectR None) (hears a.links k m (start ∷ []) (events.ConnectR None)) refl
handled_news a now k (messages.ConnectR invoke (Some rule)) = deny_news a k k rule (hears a.links k (messages.ConnectR invoke (Some rule)) [] (events.ConnectR (Some rule)))
handled_news a now k (messages.Start invoke address) =
    let m = messages.Start invoke address in
    let replies = messages.StartR invoke ∷ messages.Stop (next_of a.last_invoke) ∷ [] in
    start_news a now k m replies (hears a.links k m replies events.Start) invoke address refl
handled_news a now k (messages.StartR invoke) = note_news a k (hears a.links k (messages.StartR invoke) [] events.StartR)
handled_news a now k (messages.Item x) = took_news (is_newer x.version (kept_at a.items x.key)) a k x (taken a.items x)
handled_news a now k (messages.Stop invoke) = stop_news a now k (messages.Stop invoke) (messages.StopR invoke ∷ []) (hears a.links k (messages.Stop invoke) (messages.StopR invoke ∷ []) events.Stop) invoke refl
handled_news a now k (messages.StopR invoke) = note_news a k (hears a.links k (messages.StopR invoke) [] events.StopR)
handled_news a now k (messages.Flood x) = took_news (is_newer x.version (kept_at a.items x.key)) a k x (taken a.items x)

-- so for each other link a message waited before, or is of no enrolment
pub waits_news : (k j : ℕ) (old new : List Waiting) → AddsNews k old new → (j ≡ k → ⊥) → (m : ManagementMessage) → Contains (waiting_on j new) m → Contains (waiting_on j old) m ⊎ (is_plain m ≡ true)
waits_news k j old new adds apart m e =
    let r = contains_unmap (λ (w : Waiting). w.message) (filter (waits_on j) new) m e in
    let f = contains_filter (waits_on j) new r.0 r.1 in
    elim (adds r.0 f.0) [
      | inl was ↦ inl (subst (λ (z : ManagementMessage). Contains (waiting_on j old) z) r.2 (contains_map (λ (w : Waiting). w.message) (filter (waits_on j) old) r.0 (kept (waits_on j) old r.0 was f.1)))
      | inr news ↦ elim news [
        | inl plain ↦ inr (subst (λ (z : ManagementMessage). is_plain z ≡ true) r.2 plain)
        | inr on ↦ absurd (apart (sym (eqb-true r.0.link j f.1) ∙ on))
      ]
    ]
