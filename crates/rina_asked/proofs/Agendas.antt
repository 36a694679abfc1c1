-- What a member's agenda has more after what happens to it: messages to neighbours alone. It keeps its address and the invoke ids that it drew.
use Rattle.std.proofs.Common.{◌≡◌, ◌⊎◌, inl, inr, ⊎_elim, ℕ, Bool, true, false, cond, List, [], ◌∷◌, ◌++◌, Contains, map, filter, slice_set, Option, Some, None, Result, Ok, Err, refl, ap, subst, ◌≤◌, arith, sum_by}
use Rattle.std.proofs.lemmas.List.Elements.{Contains-append_cases}
use Rattle.rina_newest.specs.declared.item.Item.{Item}
use Rattle.rina_newest.specs.Newest.{is_newer, kept_at, taken}
use Rattle.rina_enrol.specs.declared.event.EnrolDo.{EnrolDo}
use Rattle.rina_enrol.specs.declared.event.EnrolDo.TheVariants as does
use Rattle.rina_enrol.specs.declared.message.LinkMessage.{LinkMessage}
use Rattle.rina_enrol.specs.declared.message.LinkMessage.TheVariants as messages
use Rattle.rina_agent.specs.declared.agent.Agent.{Agent}
use Rattle.rina_agent.specs.declared.link.Link.{Link}
use Rattle.rina_agent.specs.declared.message.ManagementMessage.{ManagementMessage}
use Rattle.rina_agent.specs.declared.message.ManagementMessage.TheVariants.{ToMember, ToNeighbour}
use Rattle.rina_agent.specs.declared.message.Waiting.{Waiting}
use Rattle.rina_agent.specs.declared.state.AgentError.{AgentError}
use Rattle.rina_agent.specs.declared.state.MemberState.{MemberState}
use Rattle.rina_agent.specs.declared.state.MemberState.TheVariants.{Denied, Enrolled, Joining, Outside}
use Rattle.rina_agent.specs.Agenda.{flood_on, floods, is_flooded, item_on, near, without_first}
use Rattle.rina_agent.specs.Counts.{next_of, spent, unless}
use Rattle.rina_agent.specs.Items.{made, own_item, stated}
use Rattle.rina_agent.specs.Neighbours.{link_key, link_state, member_key}
use Rattle.rina_agent.specs.Rows
use Rattle.rina_route.proofs.Lists.{cases, contains_filter, contains_unmap, in_none}
use Rattle.rina_member.proofs.Tells.{from_without}
use Rattle.rina_asked.proofs.Counting.{sum_filter, sum_more, sum_none, sum_without}
use Rattle.rina_asked.proofs.Drawn.{KeepsIds, ids_kept, ids_on, next_drawn}

-- a message is to a neighbour
abbrev pub IsNear : ManagementMessage → Type 0
IsNear (ToNeighbour m) = Unit {0}
IsNear (ToMember m) = ⊥

-- what waits then waited before, or is to a neighbour, and of what is not there is no more
pub record AddsNear (a g : Agent) : Type 0 where
  pub more : (w : Waiting) → Contains g.agenda w → Contains a.agenda w ⊎ IsNear w.message
  pub fewer : (F : Waiting → ℕ) → ((w : Waiting) → IsNear w.message → F w ≡ 0) → sum_by F g.agenda ≤ sum_by F a.agenda
  pub ids : KeepsIds a g

abbrev AllNear : List Waiting → Type 0
AllNear ws = (w : Waiting) → Contains ws w → IsNear w.message

pub adds_none : (a : Agent) → AddsNear a a
adds_none a = record { more = λ w has. inl has; fewer = λ F none. omega arith; ids = ids_kept a a refl refl }

pub adds_on : (a b c : Agent) → AddsNear a b → AddsNear b c → AddsNear a c
adds_on a b c f g = record {
  more = λ w has. ⊎_elim (λ mid. f.more w mid) (λ near. inr near) (g.more w has);
  fewer = λ F none. (let x = f.fewer F none in let y = g.fewer F none in omega (arith, x, y));
  ids = ids_on a b c f.ids g.ids;
}

-- its agenda stays
pub adds_same : (a g : Agent) → g.agenda ≡ a.agenda → KeepsIds a g → AddsNear a g
adds_same a g same ids = record {
  more = λ w has. inl (subst (λ (ws : List Waiting). Contains ws w) same has);
  fewer = λ F none. (let path = ap (sum_by F) same in omega (arith, path));
  ids = ids;
}

-- such messages are put behind it
adds_drawn : (a g : Agent) (b : List Waiting) → g.agenda ≡ a.agenda ++ b → KeepsIds a g → AllNear b → AddsNear a g
adds_drawn a g b path ids all = record {
  more = λ w has. ⊎_elim (λ old. inl old) (λ new. inr (all w new)) (Contains-append_cases a.agenda b w (subst (λ (ws : List Waiting). Contains ws w) path has));
  fewer = λ F none. (let sums = ap (sum_by F) path in let whole = sum_more F a.agenda b in let rest = sum_none F b (λ w has. none w (all w has)) in omega (arith, sums, whole, rest));
  ids = ids;
}

adds_more : (a g : Agent) (b : List Waiting) → g.agenda ≡ a.agenda ++ b → g.address ≡ a.address → g.last_invoke ≡ a.last_invoke → AllNear b → AddsNear a g
adds_more a g b path address invoke all = adds_drawn a g b path (ids_kept a g address invoke) all

one_near : (w : Waiting) → IsNear w.message → AllNear (w ∷ [])
one_near w is z has = ⊎_elim (λ same. subst (λ (x : Waiting). IsNear x.message) same is) (λ none. absurd (in_none z none)) (cases w [] z has)

both_near : (a b : List Waiting) → AllNear a → AllNear b → AllNear (a ++ b)
both_near a b f g w has = ⊎_elim (λ front. f w front) (λ back. g w back) (Contains-append_cases a b w has)

map_near : {X : Type 0} (f : X → Waiting) → ((x : X) → IsNear (f x).message) → (xs : List X) → AllNear (map f xs)
map_near f is xs w has = (let r = contains_unmap f xs w has in subst (λ (z : Waiting). IsNear z.message) r.2 (is r.0))

floods_near : (out : Option ℕ) (x : Item) (links : List Link) → AllNear (floods out x links)
floods_near out x links = map_near (flood_on x) (λ l. tt) (filter (is_flooded out) links)

-- Items

pub made_adds : (out : Option ℕ) (a : Agent) (now : ℕ) (key : List ℕ) (value : Option (List ℕ)) → AddsNear a (made out a now key value)
made_adds out a now key value = adds_more a (made out a now key value) (floods out (own_item a now key value) a.links) refl refl refl (floods_near out (own_item a now key value) a.links)

stated_adds : (out : Option ℕ) (a : Agent) (now : ℕ) → AddsNear a (stated out a now)
stated_adds out a now = made_adds out a now (link_key a.address) (Some (link_state out a.links))

took_by : (b : Bool) (link : ℕ) (a : Agent) (item : Item) → AddsNear a (cond b (record a { items = taken a.items item; agenda = a.agenda ++ floods (Some link) item a.links }) a)
took_by true link a item = adds_more a (record a { items = taken a.items item; agenda = a.agenda ++ floods (Some link) item a.links }) (floods (Some link) item a.links) refl refl refl (floods_near (Some link) item a.links)
took_by false link a item = adds_none a

-- Messages of an enrolment

abbrev AddsOr : Agent → Result Agent AgentError → Type 0
AddsOr a (Ok g) = AddsNear a g
AddsOr a (Err e) = Unit {0}

unless_adds : (a : Agent) (o : Option AgentError) (g : Agent) → AddsNear a g → AddsOr a (unless o g)
unless_adds a None g h = h
unless_adds a (Some e) g h = tt

connected_does : (a : Agent) (h : _) (d : EnrolDo) (reply : LinkMessage) → AddsNear a (Rows.connected_as d a h reply)
connected_does a h does.Nothing reply = adds_none a
connected_does a h (does.ConnectR denied) reply = adds_more a (Rows.replied a h.at h.link reply) (near h.link.number reply ∷ []) refl refl refl (one_near (near h.link.number reply) tt)
connected_does a h does.Start reply = adds_none a
connected_does a h does.StartR reply = adds_none a
connected_does a h does.StopR reply = adds_none a

connected_adds : (a : Agent) (reply : LinkMessage) (o : _) → AddsNear a (Rows.connected_by a reply o)
connected_adds a reply None = adds_none a
connected_adds a reply (Some h) = connected_does a h h.does reply

allowed_does : (a : Agent) (h : _) (d : EnrolDo) (start : LinkMessage) → AddsOr a (Rows.allowed_as d a h start)
allowed_does a h does.Nothing start = adds_none a
allowed_does a h (does.ConnectR denied) start = adds_none a
allowed_does a h does.Start start =
    let g : Agent = record a { last_invoke = next_of a.last_invoke; links = slice_set a.links h.at h.link; agenda = a.agenda ++ near h.link.number start ∷ [] } in
    unless_adds a (spent 1 a.last_invoke) g (adds_drawn a g (near h.link.number start ∷ []) refl (next_drawn a g refl refl) (one_near (near h.link.number start) tt))
allowed_does a h does.StartR start = adds_none a
allowed_does a h does.StopR start = adds_none a

allowed_adds : (a : Agent) (start : LinkMessage) (o : _) → AddsOr a (Rows.allowed_by a start o)
allowed_adds a start None = adds_none a
allowed_adds a start (Some h) = allowed_does a h h.does start

denied_adds : (a : Agent) (link rule : ℕ) (o : _) → AddsNear a (Rows.denied_by a link rule o)
denied_adds a link rule None = adds_none a
denied_adds a link rule (Some h) = (let g : Agent = record a { state = Rows.denied_state link rule a.state; links = slice_set a.links h.at h.link } in adds_same a g refl (ids_kept a g refl refl))

noted_adds : (a : Agent) (o : _) → AddsNear a (Rows.noted_by a o)
noted_adds a None = adds_none a
noted_adds a (Some h) = (let g : Agent = record a { links = slice_set a.links h.at h.link } in adds_same a g refl (ids_kept a g refl refl))

raised_adds : (a : Agent) (now at : ℕ) (l : Link) (batch : List Waiting) → AllNear batch → AddsNear a (Rows.raised a now at l batch)
raised_adds a now at l batch all =
    let mid : Agent = record a { links = slice_set a.links at l; agenda = a.agenda ++ batch } in
    adds_on a mid (stated None mid now) (adds_more a mid batch refl refl refl all) (stated_adds None mid now)

items_near : (link : ℕ) (items : List Item) → AllNear (map (item_on link) items)
items_near link items = map_near (item_on link) (λ x. tt) items

start_near : (link invoke : ℕ) (items : List Item) (stop : ℕ) → AllNear (Rows.start_batch link invoke items stop)
start_near link invoke items stop =
    both_near (near link (messages.StartR invoke) ∷ []) (map (item_on link) items ++ near link (messages.Stop stop) ∷ []) (one_near (near link (messages.StartR invoke)) tt)
    (both_near (map (item_on link) items) (near link (messages.Stop stop) ∷ []) (items_near link items) (one_near (near link (messages.Stop stop)) tt))

stop_near : (link invoke : ℕ) (items : List Item) → AllNear (Rows.stop_batch link invoke items)
stop_near link invoke items = both_near (near link (messages.StopR invoke) ∷ []) (map (item_on link) items) (one_near (near link (messages.StopR invoke)) tt) (items_near link items)

started_does : (a : Agent) (now : ℕ) (h : _) (invoke address : ℕ) (d : EnrolDo) → AddsOr a (Rows.started_as d a now h invoke address)
started_does a now h invoke address does.Nothing = adds_none a
started_does a now h invoke address (does.ConnectR denied) = adds_none a
started_does a now h invoke address does.Start = adds_none a
started_does a now h invoke address does.StartR =
    let mid : Agent = record a { last_invoke = next_of a.last_invoke } in
    unless_adds a (Rows.either (spent 1 a.last_count) (spent 1 a.last_invoke)) (Rows.started a now h invoke address)
    (adds_on a mid (Rows.started a now h invoke address) (adds_same a mid refl (next_drawn a mid refl refl))
    (raised_adds mid now h.at (Rows.up_link (Some address) h.link) (Rows.start_batch h.link.number invoke a.items (next_of a.last_invoke)) (start_near h.link.number invoke a.items (next_of a.last_invoke))))
started_does a now h invoke address does.StopR = adds_none a

started_adds : (a : Agent) (now invoke address : ℕ) (o : _) → AddsOr a (Rows.started_by a now invoke address o)
started_adds a now invoke address None = adds_none a
started_adds a now invoke address (Some h) = started_does a now h invoke address h.does

introduced_adds : (s : MemberState) (a : Agent) (now : ℕ) → AddsNear a (Rows.introduced_in s a now)
introduced_adds Outside a now = made_adds None a now (member_key a.address) (Some a.node)
introduced_adds (Joining link) a now = made_adds None a now (member_key a.address) (Some a.node)
introduced_adds Enrolled a now = adds_none a
introduced_adds (Denied rule) a now = made_adds None a now (member_key a.address) (Some a.node)

stopped_does : (a : Agent) (now : ℕ) (h : _) (invoke : ℕ) (d : EnrolDo) → AddsOr a (Rows.stopped_as d a now h invoke)
stopped_does a now h invoke does.Nothing = adds_none a
stopped_does a now h invoke (does.ConnectR denied) = adds_none a
stopped_does a now h invoke does.Start = adds_none a
stopped_does a now h invoke does.StartR = adds_none a
stopped_does a now h invoke does.StopR =
    let mid : Agent = Rows.introduced a now in
    let in_it : Agent = record mid { state = Enrolled } in
    unless_adds a (spent (Rows.need_in a.state) a.last_count) (Rows.entered mid now h invoke)
    (adds_on a mid (Rows.entered mid now h invoke) (introduced_adds a.state a now)
    (adds_on mid in_it (Rows.entered mid now h invoke) (adds_same mid in_it refl (ids_kept mid in_it refl refl))
    (raised_adds in_it now h.at (Rows.up_link (Rows.peer_by h.link.enrolment mid.items) h.link) (Rows.stop_batch h.link.number invoke mid.items) (stop_near h.link.number invoke mid.items))))

stopped_adds : (a : Agent) (now invoke : ℕ) (o : _) → AddsOr a (Rows.stopped_by a now invoke o)
stopped_adds a now invoke None = adds_none a
stopped_adds a now invoke (Some h) = stopped_does a now h invoke h.does

handled_or : (a : Agent) (now link : ℕ) (m : LinkMessage) → AddsOr a (Rows.handled a now link m)
handled_or a now link (messages.Connect invoke joiner member) = connected_adds a _ _
handled_or a now link (messages.ConnectR invoke None) = allowed_adds a _ _
handled_or a now link (messages.ConnectR invoke (Some rule)) = denied_adds a link rule _
handled_or a now link (messages.Start invoke address) = started_adds a now invoke address _
handled_or a now link (messages.StartR invoke) = noted_adds a _
handled_or a now link (messages.Item item) = took_by (is_newer item.version (kept_at a.items item.key)) link a item
handled_or a now link (messages.Stop invoke) = stopped_adds a now invoke _
handled_or a now link (messages.StopR invoke) = noted_adds a _
handled_or a now link (messages.Flood item) = took_by (is_newer item.version (kept_at a.items item.key)) link a item

pub handled_adds : (a a' : Agent) (now link : ℕ) (m : LinkMessage) → Rows.handled a now link m ≡ Ok a' → AddsNear a a'
handled_adds a a' now link m is = subst (AddsOr a) is (handled_or a now link m)

-- A link is lost, and a message sent

dropped_adds : (a : Agent) (link : ℕ) → AddsNear a (Rows.dropped a link)
dropped_adds a link = record { more = λ w has. inl (contains_filter _ a.agenda w has).0; fewer = λ F none. sum_filter F _ a.agenda; ids = ids_kept a (Rows.dropped a link) refl refl }

lost_or : (up : Bool) (a : Agent) (now link : ℕ) → AddsOr a (cond up (unless (spent 1 a.last_count) (Rows.dropped (stated (Some link) a now) link)) (Ok (Rows.dropped a link)))
lost_or true a now link = unless_adds a (spent 1 a.last_count) (Rows.dropped (stated (Some link) a now) link) (adds_on a (stated (Some link) a now) (Rows.dropped (stated (Some link) a now) link) (stated_adds (Some link) a now) (dropped_adds (stated (Some link) a now) link))
lost_or false a now link = dropped_adds a link

pub lost_adds : (a a' : Agent) (now link : ℕ) → Rows.lost a now link ≡ Ok a' → AddsNear a a'
lost_adds a a' now link is = subst (AddsOr a) is (lost_or _ a now link)

pub sent_adds : (link : ℕ) (a : Agent) → AddsNear a (record a { agenda = without_first link a.agenda })
sent_adds link a = record { more = λ w has. inl (from_without _ a.agenda w has); fewer = λ F none. sum_without F _ a.agenda; ids = ids_kept a (record a { agenda = without_first link a.agenda }) refl refl }

-- An enrolment is asked for

pub joining_adds : (a : Agent) (link : ℕ) (member node : List ℕ) → AddsNear a (Rows.joining a link member node)
joining_adds a link member node =
    let connect : Waiting = near link (messages.Connect (next_of a.last_invoke) a.name member) in
    adds_drawn a (Rows.joining a link member node) (connect ∷ []) refl (next_drawn a (Rows.joining a link member node) refl refl) (one_near connect tt)
