-- No call of a member makes what it keeps older.
use Rattle.std.proofs.Common.{◌≡◌, ℕ, Bool, true, false, cond, List, [], ◌∷◌, ◌++◌, Option, Some, None, Result, Ok, refl, sym, subst, slice_set}
use Rattle.std.specs.Prelude.{Contains}
use Rattle.rina_newest.specs.declared.item.Item.{Item}
use Rattle.rina_newest.specs.Newest.{kept_at, is_newer, taken}
use Rattle.rina_enrol.specs.declared.event.EnrolDo.{EnrolDo}
use Rattle.rina_enrol.specs.declared.event.EnrolDo.TheVariants as does
use Rattle.rina_enrol.specs.declared.message.LinkMessage.{LinkMessage}
use Rattle.rina_enrol.specs.declared.message.LinkMessage.TheVariants as messages
use Rattle.rina_agent.specs.declared.agent.Agent.{Agent}
use Rattle.rina_agent.specs.declared.link.Heard.{Heard}
use Rattle.rina_agent.specs.declared.state.MemberState.{MemberState}
use Rattle.rina_agent.specs.declared.state.MemberState.TheVariants.{Outside, Joining, Enrolled, Denied}
use Rattle.rina_agent.specs.declared.state.AgentError.{AgentError}
use Rattle.rina_agent.specs.Agenda.{floods}
use Rattle.rina_agent.specs.Counts.{next_of, unless}
use Rattle.rina_agent.specs.Items.{own_item, made, stated, took}
use Rattle.rina_agent.specs.Neighbours.{member_key, link_key, link_state}
use Rattle.rina_agent.specs.Rows
use Rattle.rina_agent.specs.Enrolled.{IsAtLeast, Event, Handles, Makes, Enrols, Claims, Loses, Takes, done, after, after_all, IsHandled}
use Rattle.rina_agent.proofs.Taking.{taken_least, taken_keeps, taken_same}

-- what the one keeps, or newer, the other keeps
abbrev Keeps : Agent → Agent → Type 0
Keeps a b = (x : Item) → IsAtLeast a.items x → IsAtLeast b.items x

abbrev KeepsOr : Agent → Result Agent AgentError → Type 0
KeepsOr a r = Keeps a (done a r)

made_keeps : (out : Option ℕ) (a : Agent) (now : ℕ) (key : List ℕ) (value : Option (List ℕ)) → Keeps a (made out a now key value)
made_keeps out a now key value = λ x h. taken_keeps a.items (own_item a now key value) x h

stated_keeps : (out : Option ℕ) (a : Agent) (now : ℕ) → Keeps a (stated out a now)
stated_keeps out a now = made_keeps out a now (link_key a.address) (Some (link_state out a.links))

took_by : (b : Bool) (link : ℕ) (a : Agent) (item : Item) → Keeps a (cond b (record a { items = taken a.items item; agenda = a.agenda ++ floods (Some link) item a.links }) a)
took_by true link a item = λ x h. taken_keeps a.items item x h
took_by false link a item = λ x h. h

took_keeps : (link : ℕ) (a : Agent) (item : Item) → Keeps a (took link a item)
took_keeps link a item = took_by (is_newer item.version (kept_at a.items item.key)) link a item

unless_keeps : (o : Option AgentError) (a b : Agent) → Keeps a b → KeepsOr a (unless o b)
unless_keeps None a b h = h
unless_keeps (Some e) a b h = λ x k. k

connected_does : (d : EnrolDo) (a : Agent) (h : Heard) (reply : LinkMessage) → Keeps a (Rows.connected_as d a h reply)
connected_does does.Nothing a h reply = λ x k. k
connected_does (does.ConnectR denied) a h reply = λ x k. k
connected_does does.Start a h reply = λ x k. k
connected_does does.StartR a h reply = λ x k. k
connected_does does.StopR a h reply = λ x k. k

connected_keeps : (a : Agent) (reply : LinkMessage) (o : Option Heard) → Keeps a (Rows.connected_by a reply o)
connected_keeps a reply None = λ x k. k
connected_keeps a reply (Some h) = connected_does h.does a h reply

allowed_does : (d : EnrolDo) (a : Agent) (h : Heard) (start : LinkMessage) → KeepsOr a (Rows.allowed_as d a h start)
allowed_does does.Nothing a h start = λ x k. k
allowed_does (does.ConnectR denied) a h start = λ x k. k
allowed_does does.Start a h start = unless_keeps _ a _ (λ x k. k)
allowed_does does.StartR a h start = λ x k. k
allowed_does does.StopR a h start = λ x k. k

allowed_keeps : (a : Agent) (start : LinkMessage) (o : Option Heard) → KeepsOr a (Rows.allowed_by a start o)
allowed_keeps a start None = λ x k. k
allowed_keeps a start (Some h) = allowed_does h.does a h start

denied_keeps : (a : Agent) (link rule : ℕ) (o : Option Heard) → Keeps a (Rows.denied_by a link rule o)
denied_keeps a link rule None = λ x k. k
denied_keeps a link rule (Some h) = λ x k. k

noted_keeps : (a : Agent) (o : Option Heard) → Keeps a (Rows.noted_by a o)
noted_keeps a None = λ x k. k
noted_keeps a (Some h) = λ x k. k

started_keeps : (a : Agent) (now : ℕ) (h : Heard) (invoke address : ℕ) → Keeps a (Rows.started a now h invoke address)
started_keeps a now h invoke address = stated_keeps None (record a { last_invoke = next_of a.last_invoke; links = slice_set a.links h.at (Rows.up_link (Some address) h.link); agenda = a.agenda ++ Rows.start_batch h.link.number invoke a.items (next_of a.last_invoke) }) now

started_does : (d : EnrolDo) (a : Agent) (now : ℕ) (h : Heard) (invoke address : ℕ) → KeepsOr a (Rows.started_as d a now h invoke address)
started_does does.Nothing a now h invoke address = λ x k. k
started_does (does.ConnectR denied) a now h invoke address = λ x k. k
started_does does.Start a now h invoke address = λ x k. k
started_does does.StartR a now h invoke address = unless_keeps _ a _ (started_keeps a now h invoke address)
started_does does.StopR a now h invoke address = λ x k. k

started_any : (a : Agent) (now invoke address : ℕ) (o : Option Heard) → KeepsOr a (Rows.started_by a now invoke address o)
started_any a now invoke address None = λ x k. k
started_any a now invoke address (Some h) = started_does h.does a now h invoke address

introduced_keeps : (s : MemberState) (a : Agent) (now : ℕ) → Keeps a (Rows.introduced_in s a now)
introduced_keeps Outside a now = made_keeps None a now (member_key a.address) (Some a.node)
introduced_keeps (Joining link) a now = made_keeps None a now (member_key a.address) (Some a.node)
introduced_keeps Enrolled a now = λ x k. k
introduced_keeps (Denied rule) a now = made_keeps None a now (member_key a.address) (Some a.node)

entered_keeps : (a : Agent) (now : ℕ) (h : Heard) (invoke : ℕ) → Keeps a (Rows.entered a now h invoke)
entered_keeps a now h invoke = stated_keeps None (record a { state = Enrolled; links = slice_set a.links h.at (Rows.up_link (Rows.peer_by h.link.enrolment a.items) h.link); agenda = a.agenda ++ Rows.stop_batch h.link.number invoke a.items }) now

stopped_does : (d : EnrolDo) (a : Agent) (now : ℕ) (h : Heard) (invoke : ℕ) → KeepsOr a (Rows.stopped_as d a now h invoke)
stopped_does does.Nothing a now h invoke = λ x k. k
stopped_does (does.ConnectR denied) a now h invoke = λ x k. k
stopped_does does.Start a now h invoke = λ x k. k
stopped_does does.StartR a now h invoke = λ x k. k
stopped_does does.StopR a now h invoke = unless_keeps _ a _ (λ x k. entered_keeps (Rows.introduced a now) now h invoke x (introduced_keeps a.state a now x k))

stopped_any : (a : Agent) (now invoke : ℕ) (o : Option Heard) → KeepsOr a (Rows.stopped_by a now invoke o)
stopped_any a now invoke None = λ x k. k
stopped_any a now invoke (Some h) = stopped_does h.does a now h invoke

handled_keeps : (a : Agent) (now link : ℕ) (m : LinkMessage) → KeepsOr a (Rows.handled a now link m)
handled_keeps a now link (messages.Connect invoke joiner member) = connected_keeps a _ _
handled_keeps a now link (messages.ConnectR invoke None) = allowed_keeps a _ _
handled_keeps a now link (messages.ConnectR invoke (Some rule)) = denied_keeps a link rule _
handled_keeps a now link (messages.Start invoke address) = started_any a now invoke address _
handled_keeps a now link (messages.StartR invoke) = noted_keeps a _
handled_keeps a now link (messages.Item item) = took_keeps link a item
handled_keeps a now link (messages.Stop invoke) = stopped_any a now invoke _
handled_keeps a now link (messages.StopR invoke) = noted_keeps a _
handled_keeps a now link (messages.Flood item) = took_keeps link a item

lost_by : (b : Bool) (a : Agent) (now link : ℕ) (o : Option AgentError) → KeepsOr a (cond b (unless o (Rows.dropped (stated (Some link) a now) link)) (Ok (Rows.dropped a link)))
lost_by true a now link o = unless_keeps o a _ (stated_keeps (Some link) a now)
lost_by false a now link o = λ x k. k

event_keeps : (a : Agent) (e : Event) → Keeps a (after a e)
event_keeps a (Handles now link m) = handled_keeps a now link m
event_keeps a (Makes now key value) = unless_keeps _ a _ (made_keeps None a now key value)
event_keeps a (Enrols link member node) = unless_keeps _ a _ (λ x k. k)
event_keeps a (Claims link) = λ x k. k
event_keeps a (Loses now link) = lost_by _ a now link _
event_keeps a (Takes link) = λ x k. k

pub events_keep : (a : Agent) (events : List Event) (x : Item) → IsAtLeast a.items x → IsAtLeast (after_all a events).items x
events_keep a [] x h = h
events_keep a (e ∷ events) x h = events_keep (after a e) events x (event_keeps a e x h)

-- an item that came is kept, or newer

came_by : (b : Bool) (link : ℕ) (a : Agent) (item : Item) → is_newer item.version (kept_at a.items item.key) ≡ b → IsAtLeast (cond b (record a { items = taken a.items item; agenda = a.agenda ++ floods (Some link) item a.links }) a).items item
came_by true link a item is = taken_least a.items item
came_by false link a item is = (let P : List Item → Type 0 = λ items. IsAtLeast items item in subst P (taken_same a.items item is) (taken_least a.items item))

came : (link : ℕ) (a : Agent) (item : Item) → IsAtLeast (took link a item).items item
came link a item = came_by (is_newer item.version (kept_at a.items item.key)) link a item refl

among : (a : Agent) (before : List Event) (now link : ℕ) (x : Item) (behind : List Event) → IsAtLeast (after_all a (before ++ Handles now link (messages.Item x) ∷ behind)).items x
among a [] now link x behind = events_keep (took link a x) behind x (came link a x)
among a (e ∷ before) now link x behind = among (after a e) before now link x behind

pub handled_is_kept : (a : Agent) (events : List Event) (x : Item) → IsHandled events x → IsAtLeast (after_all a events).items x
handled_is_kept a events x h =
    let P : List Event → Type 0 = λ es. IsAtLeast (after_all a es).items x in
    subst P (sym h.is) (among a h.before h.now h.link x h.behind)

pub has_all_handled : (a : Agent) (events : List Event) (items : List Item) → ((x : Item) → Contains items x → IsHandled events x) → (x : Item) → Contains items x → IsAtLeast (after_all a events).items x
has_all_handled a events items all x there = handled_is_kept a events x (all x there)
