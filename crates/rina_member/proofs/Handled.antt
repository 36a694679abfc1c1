-- What a member is after it handled a message of a neighbour.
use Rattle.std.proofs.Common.{◌≡◌, ◌∙◌, ⊎_elim, inl, inr, ℕ, ◌-◌, Bool, true, false, cond, List, [], ◌∷◌, ◌++◌, Option, Some, None, Result, Ok, Err, Contains, length, ltb, slice_get, refl, sym, ap, subst, arith}
use Rattle.std.specs.Prelude.{◌==◌, option_and_then}
use Rattle.std.specs.List.{position_or_len}
use Rattle.std.specs.Fmt.{decimal}
use Rattle.std.proofs.lemmas.Bool.{both_ways}
use Rattle.rina_newest.specs.declared.item.Item.{Item}
use Rattle.rina_newest.specs.Newest.{is_newer, kept_at, taken}
use Rattle.rina_enrol.specs.declared.event.EnrolDo.{EnrolDo}
use Rattle.rina_enrol.specs.declared.event.EnrolDo.TheVariants as does
use Rattle.rina_enrol.specs.declared.event.EnrolEvent.{EnrolEvent}
use Rattle.rina_enrol.specs.declared.event.EnrolEvent.TheVariants as events
use Rattle.rina_enrol.specs.declared.message.LinkMessage.{LinkMessage}
use Rattle.rina_enrol.specs.declared.message.LinkMessage.TheVariants as messages
use Rattle.rina_enrol.proofs.Guesses.{one_message}
use Rattle.rina_alloc.specs.declared.message.FlowMessage.{FlowMessage}
use Rattle.rina_alloc.specs.Messages.{IsInRange as IsFlowInRange, IsSpelled as IsFlowText}
use Rattle.rina_agent.specs.declared.agent.Agent.{Agent}
use Rattle.rina_agent.specs.declared.enrolment.Enrolment.{Enrolment}
use Rattle.rina_agent.specs.declared.link.Link.{Link}
use Rattle.rina_agent.specs.declared.state.AgentError.{AgentError}
use Rattle.rina_agent.specs.declared.state.AgentError.TheVariants.{CountSpent}
use Rattle.rina_agent.specs.declared.state.MemberState.{MemberState}
use Rattle.rina_agent.specs.declared.state.MemberState.TheVariants.{Outside, Joining, Enrolled, Denied}
use Rattle.rina_agent.specs.Agenda.{floods}
use Rattle.rina_agent.specs.Counts.{next_of, spent, unless}
use Rattle.rina_agent.specs.Enrolments.{heard_at, heard_by, heard_on, hears, is_numbered}
use Rattle.rina_agent.specs.Items.{took}
use Rattle.rina_agent.specs.Neighbours.{link_key, member_key}
use Rattle.rina_agent.specs.Rows
use Rattle.rina_rib.specs.Objects.{object_at}
use Rattle.rina_rib.specs.Rows.{Tree}
use Rattle.rina_route.proofs.Lists.{cases, in_none}
use Rattle.rina_member.specs.declared.management.Management.{Management}
use Rattle.rina_member.specs.Handling.{BringsItemName, IsItemName, IsSameMember, IsUnenrolled, KeepsOthers, KeepsOutsideItems, TakesNews, item_in}
use Rattle.rina_member.specs.Managements.{Handles, HandlesSdu, IsNews, IsSdu, all_live, is_news, keys_brought, keys_made, with_live}
use Rattle.rina_member.proofs.Lists.{first_at}
use Rattle.rina_member.proofs.Others.{live_others}
use Rattle.rina_member.proofs.TextsApart.{texts_apart}

same_agent : (x y : Agent) → ◌≡◌ {A = Result Agent AgentError} (Ok x) (Ok y) → x ≡ y
same_agent x y h = cc

-- Who the member is

abbrev SameOr : Agent → Result Agent AgentError → Type 0
SameOr a (Ok b) = IsSameMember a b
SameOr a (Err e) = Unit {0}

itself : (a : Agent) → IsSameMember a a
itself a = record { address = refl; name = refl; node = refl; rules = refl }

unless_same : (o : Option AgentError) (a b : Agent) → IsSameMember a b → SameOr a (unless o b)
unless_same None a b h = h
unless_same (Some e) a b h = tt

took_by : (b : Bool) (link : ℕ) (a : Agent) (item : Item) → IsSameMember a (cond b (record a { items = taken a.items item; agenda = a.agenda ++ floods (Some link) item a.links }) a)
took_by true link a item = record { address = refl; name = refl; node = refl; rules = refl }
took_by false link a item = itself a

took_same : (link : ℕ) (a : Agent) (item : Item) → IsSameMember a (took link a item)
took_same link a item = took_by (is_newer item.version (kept_at a.items item.key)) link a item

connected_does : (d : EnrolDo) (a : Agent) (h : _) (reply : LinkMessage) → IsSameMember a (Rows.connected_as d a h reply)
connected_does does.Nothing a h reply = itself a
connected_does (does.ConnectR denied) a h reply = record { address = refl; name = refl; node = refl; rules = refl }
connected_does does.Start a h reply = itself a
connected_does does.StartR a h reply = itself a
connected_does does.StopR a h reply = itself a

connected_same : (a : Agent) (reply : LinkMessage) (o : _) → IsSameMember a (Rows.connected_by a reply o)
connected_same a reply None = itself a
connected_same a reply (Some h) = connected_does h.does a h reply

allowed_does : (d : EnrolDo) (a : Agent) (h : _) (start : LinkMessage) → SameOr a (Rows.allowed_as d a h start)
allowed_does does.Nothing a h start = itself a
allowed_does (does.ConnectR denied) a h start = itself a
allowed_does does.Start a h start = unless_same (spent 1 a.last_invoke) a _ (record { address = refl; name = refl; node = refl; rules = refl })
allowed_does does.StartR a h start = itself a
allowed_does does.StopR a h start = itself a

allowed_same : (a : Agent) (start : LinkMessage) (o : _) → SameOr a (Rows.allowed_by a start o)
allowed_same a start None = itself a
allowed_same a start (Some h) = allowed_does h.does a h start

denied_same : (a : Agent) (link rule : ℕ) (o : _) → IsSameMember a (Rows.denied_by a link rule o)
denied_same a link rule None = itself a
denied_same a link rule (Some h) = record { address = refl; name = refl; node = refl; rules = refl }

noted_same : (a : Agent) (o : _) → IsSameMember a (Rows.noted_by a o)
noted_same a None = itself a
noted_same a (Some h) = record { address = refl; name = refl; node = refl; rules = refl }

started_does : (d : EnrolDo) (a : Agent) (now : ℕ) (h : _) (invoke address : ℕ) → SameOr a (Rows.started_as d a now h invoke address)
started_does does.Nothing a now h invoke address = itself a
started_does (does.ConnectR denied) a now h invoke address = itself a
started_does does.Start a now h invoke address = itself a
started_does does.StartR a now h invoke address = unless_same (Rows.either (spent 1 a.last_count) (spent 1 a.last_invoke)) a (Rows.started a now h invoke address) (record { address = refl; name = refl; node = refl; rules = refl })
started_does does.StopR a now h invoke address = itself a

started_same : (a : Agent) (now invoke address : ℕ) (o : _) → SameOr a (Rows.started_by a now invoke address o)
started_same a now invoke address None = itself a
started_same a now invoke address (Some h) = started_does h.does a now h invoke address

entered_same : (s : MemberState) (a : Agent) (now : ℕ) (h : _) (invoke : ℕ) → IsSameMember a (Rows.entered (Rows.introduced_in s a now) now h invoke)
entered_same Outside a now h invoke = record { address = refl; name = refl; node = refl; rules = refl }
entered_same (Joining link) a now h invoke = record { address = refl; name = refl; node = refl; rules = refl }
entered_same Enrolled a now h invoke = record { address = refl; name = refl; node = refl; rules = refl }
entered_same (Denied rule) a now h invoke = record { address = refl; name = refl; node = refl; rules = refl }

stopped_does : (d : EnrolDo) (a : Agent) (now : ℕ) (h : _) (invoke : ℕ) → SameOr a (Rows.stopped_as d a now h invoke)
stopped_does does.Nothing a now h invoke = itself a
stopped_does (does.ConnectR denied) a now h invoke = itself a
stopped_does does.Start a now h invoke = itself a
stopped_does does.StartR a now h invoke = itself a
stopped_does does.StopR a now h invoke = unless_same (spent (Rows.need_in a.state) a.last_count) a (Rows.entered (Rows.introduced a now) now h invoke) (entered_same a.state a now h invoke)

stopped_same : (a : Agent) (now invoke : ℕ) (o : _) → SameOr a (Rows.stopped_by a now invoke o)
stopped_same a now invoke None = itself a
stopped_same a now invoke (Some h) = stopped_does h.does a now h invoke

handled_same : (a : Agent) (now link : ℕ) (m : LinkMessage) → SameOr a (Rows.handled a now link m)
handled_same a now link (messages.Connect invoke joiner member) = connected_same a _ _
handled_same a now link (messages.ConnectR invoke None) = allowed_same a _ _
handled_same a now link (messages.ConnectR invoke (Some rule)) = denied_same a link rule _
handled_same a now link (messages.Start invoke address) = started_same a now invoke address _
handled_same a now link (messages.StartR invoke) = noted_same a _
handled_same a now link (messages.Item item) = took_same link a item
handled_same a now link (messages.Stop invoke) = stopped_same a now invoke _
handled_same a now link (messages.StopR invoke) = noted_same a _
handled_same a now link (messages.Flood item) = took_same link a item

-- a member is who it was after it handled a message
pub handles_same : (now link : ℕ) (message : LinkMessage) (m m' : Management) → Handles now link message m m' → IsSameMember m.agent m'.agent
handles_same now link message m m' h = subst (λ (r : Result Agent AgentError). SameOr m.agent r) h.handles (handled_same m.agent now link message)

-- A message of an enrolment on a link that no enrolment made

got_none : (at : ℕ) (message : LinkMessage) (replies : List LinkMessage) (event : EnrolEvent) (l : Link) → l.enrolment ≡ None → heard_on at message replies event l ≡ None
got_none at message replies event l none = ap (λ (e : Option Enrolment). heard_by at l message replies event e) none

at_none : (message : LinkMessage) (replies : List LinkMessage) (event : EnrolEvent) (at : ℕ) (o : Option Link) → ((l : Link) → o ≡ Some l → l.enrolment ≡ None) → option_and_then (heard_on at message replies event) o ≡ None
at_none message replies event at None free = refl
at_none message replies event at (Some l) free = got_none at message replies event l (free l refl)

placed_none : (links : List Link) (message : LinkMessage) (replies : List LinkMessage) (event : EnrolEvent) (at : ℕ) (b : Bool) → ((l : Link) → slice_get links at ≡ Some l → l.enrolment ≡ None) → heard_at links message replies event (cond b (Some at) None) ≡ None
placed_none links message replies event at true free = at_none message replies event at (slice_get links at) free
placed_none links message replies event at false free = refl

-- no session hears it
hears_none : (links : List Link) (number : ℕ) (message : LinkMessage) (replies : List LinkMessage) (event : EnrolEvent) → IsUnenrolled links number → hears links number message replies event ≡ None
hears_none links number message replies event free =
    let at : ℕ = position_or_len (is_numbered number) links in
    placed_none links message replies event at (ltb at (length links)) (λ l is. free l (sym (first_at (is_numbered number) links) ∙ is))

abbrev done : Agent → Result Agent AgentError
done a = Ok a

pub handled_none : (a : Agent) (now link : ℕ) (m : LinkMessage) → IsUnenrolled a.links link → item_in m ≡ None → Rows.handled a now link m ≡ Ok a
handled_none a now link (messages.Connect invoke joiner member) free none =
    let reply : LinkMessage = messages.ConnectR invoke (Rows.denial a joiner) in
    ap (λ o. done (Rows.connected_by a reply o)) (hears_none a.links link (messages.Connect invoke joiner member) (reply ∷ []) (events.Connect (Rows.denial a joiner)) free)
handled_none a now link (messages.ConnectR invoke None) free none =
    let start : LinkMessage = messages.Start (next_of a.last_invoke) a.address in
    ap (λ o. Rows.allowed_by a start o) (hears_none a.links link (messages.ConnectR invoke None) (start ∷ []) (events.ConnectR None) free)
handled_none a now link (messages.ConnectR invoke (Some rule)) free none = ap (λ o. done (Rows.denied_by a link rule o)) (hears_none a.links link (messages.ConnectR invoke (Some rule)) [] (events.ConnectR (Some rule)) free)
handled_none a now link (messages.Start invoke address) free none =
    ap (λ o. Rows.started_by a now invoke address o) (hears_none a.links link (messages.Start invoke address) (messages.StartR invoke ∷ messages.Stop (next_of a.last_invoke) ∷ []) events.Start free)
handled_none a now link (messages.StartR invoke) free none = ap (λ o. done (Rows.noted_by a o)) (hears_none a.links link (messages.StartR invoke) [] events.StartR free)
handled_none a now link (messages.Item item) free none = absurd (cc)
handled_none a now link (messages.Stop invoke) free none = ap (λ o. Rows.stopped_by a now invoke o) (hears_none a.links link (messages.Stop invoke) (messages.StopR invoke ∷ []) events.Stop free)
handled_none a now link (messages.StopR invoke) free none = ap (λ o. done (Rows.noted_by a o)) (hears_none a.links link (messages.StopR invoke) [] events.StopR free)
handled_none a now link (messages.Flood item) free none = absurd (cc)

nothing_made : (last : ℕ) (g : Agent) (m : LinkMessage) → g.last_count ≡ last → item_in m ≡ None → keys_brought last g m ≡ []
nothing_made last g (messages.Connect invoke joiner member) same none = (let nought : g.last_count - last ≡ 0 = omega (arith, same) in ap (λ (n : ℕ). keys_made g.address n) nought)
nothing_made last g (messages.ConnectR invoke denied) same none = (let nought : g.last_count - last ≡ 0 = omega (arith, same) in ap (λ (n : ℕ). keys_made g.address n) nought)
nothing_made last g (messages.Start invoke address) same none = (let nought : g.last_count - last ≡ 0 = omega (arith, same) in ap (λ (n : ℕ). keys_made g.address n) nought)
nothing_made last g (messages.StartR invoke) same none = (let nought : g.last_count - last ≡ 0 = omega (arith, same) in ap (λ (n : ℕ). keys_made g.address n) nought)
nothing_made last g (messages.Item item) same none = absurd (cc)
nothing_made last g (messages.Stop invoke) same none = (let nought : g.last_count - last ≡ 0 = omega (arith, same) in ap (λ (n : ℕ). keys_made g.address n) nought)
nothing_made last g (messages.StopR invoke) same none = (let nought : g.last_count - last ≡ 0 = omega (arith, same) in ap (λ (n : ℕ). keys_made g.address n) nought)
nothing_made last g (messages.Flood item) same none = absurd (cc)

abbrev both_of : Agent → Tree → Management
both_of g t = record { agent = g; objects = t }

same_management : (m m' : Management) → m'.agent ≡ m.agent → m'.objects ≡ m.objects → m' ≡ m
same_management m m' agents objects = ap (λ (g : Agent). both_of g m'.objects) agents ∙ ap (λ (t : Tree). both_of m.agent t) objects

-- it changes nothing at all
pub handles_none : (now link : ℕ) (message : LinkMessage) (m m' : Management) → IsUnenrolled m.agent.links link → item_in message ≡ None → Handles now link message m m' → m' ≡ m
handles_none now link message m m' free none h =
    let agents : m'.agent ≡ m.agent = same_agent m'.agent m.agent (sym h.handles ∙ handled_none m.agent now link message free none) in
    let keys : keys_brought m.agent.last_count m'.agent message ≡ [] = nothing_made m.agent.last_count m'.agent message (ap (λ (g : Agent). g.last_count) agents) none in
    same_management m m' agents (h.shows ∙ ap (λ (ks : List (List ℕ)). all_live m.objects m'.agent.items ks) keys)

-- Items

took_news : (link : ℕ) (a : Agent) (item : Item) → is_newer item.version (kept_at a.items item.key) ≡ true → took link a item ≡ record a { items = taken a.items item; agenda = a.agenda ++ floods (Some link) item a.links }
took_news link a item newer = rw newer refl

takes : (link : ℕ) (item : Item) (m m' : Management) → is_newer item.version (kept_at m.agent.items item.key) ≡ true → ◌≡◌ {A = Result Agent AgentError} (Ok (took link m.agent item)) (Ok m'.agent) → m'.objects ≡ with_live m.objects m'.agent.items item.key → TakesNews link item m m'
takes link item m m' newer handles shows =
    let agent : m'.agent ≡ record m.agent { items = taken m.agent.items item; agenda = m.agent.agenda ++ floods (Some link) item m.agent.links } = sym (same_agent (took link m.agent item) m'.agent handles) ∙ took_news link m.agent item newer in
    record { takes = agent; shows = shows ∙ ap (λ (g : Agent). with_live m.objects g.items item.key) agent }

took_agent : (link : ℕ) (x item : Item) (a b : Agent) → x ≡ item → ◌≡◌ {A = Result Agent AgentError} (Ok (took link a x)) (Ok b) → b ≡ took link a item
took_agent link x item a b same handles = sym (same_agent (took link a x) b handles) ∙ ap (λ (y : Item). took link a y) same

-- a member that handled an item, news or not, is as the item left it
pub handles_took : (now link : ℕ) (message : LinkMessage) (item : Item) (m m' : Management) → item_in message ≡ Some item → Handles now link message m m' → m'.agent ≡ took link m.agent item
handles_took now link (messages.Connect invoke joiner member) item m m' is h = absurd (cc)
handles_took now link (messages.ConnectR invoke denied) item m m' is h = absurd (cc)
handles_took now link (messages.Start invoke address) item m m' is h = absurd (cc)
handles_took now link (messages.StartR invoke) item m m' is h = absurd (cc)
handles_took now link (messages.Item x) item m m' is h = took_agent link x item m.agent m'.agent (cc) h.handles
handles_took now link (messages.Stop invoke) item m m' is h = absurd (cc)
handles_took now link (messages.StopR invoke) item m m' is h = absurd (cc)
handles_took now link (messages.Flood x) item m m' is h = took_agent link x item m.agent m'.agent (cc) h.handles

-- a member that handled news took the item
pub handles_item : (now link : ℕ) (message : LinkMessage) (item : Item) (m m' : Management) → item_in message ≡ Some item → is_news m.agent.items message ≡ true → Handles now link message m m' → TakesNews link item m m'
handles_item now link (messages.Connect invoke joiner member) item m m' is news h = absurd (cc)
handles_item now link (messages.ConnectR invoke denied) item m m' is news h = absurd (cc)
handles_item now link (messages.Start invoke address) item m m' is news h = absurd (cc)
handles_item now link (messages.StartR invoke) item m m' is news h = absurd (cc)
handles_item now link (messages.Item x) item m m' is news h = (let same : x ≡ item = cc in subst (λ (y : Item). TakesNews link y m m') same (takes link x m m' news h.handles h.shows))
handles_item now link (messages.Stop invoke) item m m' is news h = absurd (cc)
handles_item now link (messages.StopR invoke) item m m' is news h = absurd (cc)
handles_item now link (messages.Flood x) item m m' is news h = (let same : x ≡ item = cc in subst (λ (y : Item). TakesNews link y m m') same (takes link x m m' news h.handles h.shows))

-- an item never needs a version count
item_done : (now link : ℕ) (message : LinkMessage) (item : Item) (a : Agent) (e : AgentError) → item_in message ≡ Some item → Rows.handled a now link message ≡ Err e → ⊥
item_done now link (messages.Connect invoke joiner member) item a e is refused = absurd (cc)
item_done now link (messages.ConnectR invoke denied) item a e is refused = absurd (cc)
item_done now link (messages.Start invoke address) item a e is refused = absurd (cc)
item_done now link (messages.StartR invoke) item a e is refused = absurd (cc)
item_done now link (messages.Item x) item a e is refused = absurd (cc)
item_done now link (messages.Stop invoke) item a e is refused = absurd (cc)
item_done now link (messages.StopR invoke) item a e is refused = absurd (cc)
item_done now link (messages.Flood x) item a e is refused = absurd (cc)

-- bytes are one message
only_message : (n message : LinkMessage) (sdu : List ℕ) → IsSdu n sdu → IsSdu message sdu → n ≡ message
only_message n message sdu is other = one_message n message sdu is.in_range other.in_range is.spelled other.spelled

-- an SDU that is an item which is no news changes nothing
pub old_news : (now link : ℕ) (sdu : List ℕ) (message : LinkMessage) (m : Management) (after : Option Management) → IsSdu message sdu → is_news m.agent.items message ≡ false → HandlesSdu now link sdu m (Ok after) → after ≡ None
old_news now link sdu message m None is old h = refl
old_news now link sdu message m (Some m') is old h =
    let same : h.0 ≡ message = only_message h.0 message sdu h.1.is_sdu is in
    absurd (both_ways (is_news m.agent.items message) old (ap (λ (x : LinkMessage). is_news m.agent.items x) (sym same) ∙ h.1.news))

-- nor does a message about a flow
pub flow_news : (now link : ℕ) (sdu : List ℕ) (message : FlowMessage) (m : Management) (after : Option Management) → IsFlowInRange message → IsFlowText message sdu → HandlesSdu now link sdu m (Ok after) → after ≡ None
flow_news now link sdu message m None range text h = refl
flow_news now link sdu message m (Some m') range text h = absurd (texts_apart sdu h.0 message h.1.is_sdu text)

-- one that is news is handled
pub new_news : (now link : ℕ) (sdu : List ℕ) (message : LinkMessage) (m : Management) (after : Option Management) → IsNews message sdu m → HandlesSdu now link sdu m (Ok after)
    → (m' : Management) × (after ≡ Some m') × Handles now link message m m'
new_news now link sdu message m None is h = absurd (h message is)
new_news now link sdu message m (Some m') is h =
    (m', refl, subst (λ (x : LinkMessage). Handles now link x m m') (only_message h.0 message sdu h.1.is_sdu is.is_sdu) h.2)

-- Objects

pub handles_others : (now link : ℕ) (message : LinkMessage) (m m' : Management) → Handles now link message m m' → KeepsOthers (keys_brought m.agent.last_count m'.agent message) m.objects m'.objects
handles_others now link message m m' h name other =
    ap (λ (t : Tree). object_at t.objects name) h.shows ∙ live_others m.objects m'.agent.items (keys_brought m.agent.last_count m'.agent message) name other

made_named : (address made : ℕ) (name : List ℕ) (a b : Bool) → Contains (cond a [] (cond b (link_key address ∷ []) (member_key address ∷ link_key address ∷ []))) name → IsItemName name
made_named address made name true b among = absurd (in_none name among)
made_named address made name false true among = ⊎_elim (λ same. subst (λ (k : List ℕ). IsItemName k) same (inr (inl (decimal address, refl)))) (λ none. absurd (in_none name none)) (cases (link_key address) [] name among)
made_named address made name false false among = ⊎_elim
    (λ same. subst (λ (k : List ℕ). IsItemName k) same (inl (decimal address, refl)))
    (λ later. ⊎_elim (λ same. subst (λ (k : List ℕ). IsItemName k) same (inr (inl (decimal address, refl)))) (λ none. absurd (in_none name none)) (cases (link_key address) [] name later))
    (cases (member_key address) (link_key address ∷ []) name among)

own_named : (address made : ℕ) (name : List ℕ) → Contains (keys_made address made) name → IsItemName name
own_named address made name among = made_named address made name (made == 0) (made == 1) among

one_named : (item : Item) (name : List ℕ) → IsItemName item.key → Contains (item.key ∷ []) name → IsItemName name
one_named item name key among = ⊎_elim (λ same. subst (λ (k : List ℕ). IsItemName k) same key) (λ none. absurd (in_none name none)) (cases item.key [] name among)

brought_named : (last : ℕ) (g : Agent) (message : LinkMessage) (name : List ℕ) → BringsItemName message → Contains (keys_brought last g message) name → IsItemName name
brought_named last g (messages.Connect invoke joiner member) name brings among = own_named g.address (g.last_count - last) name among
brought_named last g (messages.ConnectR invoke denied) name brings among = own_named g.address (g.last_count - last) name among
brought_named last g (messages.Start invoke address) name brings among = own_named g.address (g.last_count - last) name among
brought_named last g (messages.StartR invoke) name brings among = own_named g.address (g.last_count - last) name among
brought_named last g (messages.Item item) name brings among = one_named item name (brings item refl) among
brought_named last g (messages.Stop invoke) name brings among = own_named g.address (g.last_count - last) name among
brought_named last g (messages.StopR invoke) name brings among = own_named g.address (g.last_count - last) name among
brought_named last g (messages.Flood item) name brings among = one_named item name (brings item refl) among

pub handles_outside : (now link : ℕ) (message : LinkMessage) (m m' : Management) → BringsItemName message → Handles now link message m m' → KeepsOutsideItems m.objects m'.objects
handles_outside now link message m m' brings h name outside =
    handles_others now link message m m' h name (λ among. outside (brought_named m.agent.last_count m'.agent message name brings among))

-- What needs no version count

pub item_counts : (now link need left : ℕ) (sdu : List ℕ) (message : LinkMessage) (item : Item) (m : Management) → IsSdu message sdu → item_in message ≡ Some item → HandlesSdu now link sdu m (Err (CountSpent need left)) → ⊥
item_counts now link need left sdu message item m is brings h =
    item_done now link h.0 item m.agent (CountSpent need left) (ap (λ (x : LinkMessage). item_in x) (only_message h.0 message sdu h.1.is_sdu is) ∙ brings) h.2

none_or_some : (now link need left : ℕ) (message : LinkMessage) (o : Option Item) (a : Agent) → item_in message ≡ o → IsUnenrolled a.links link → Rows.handled a now link message ≡ Err (CountSpent need left) → ⊥
none_or_some now link need left message None a is free refused = (let both = sym (handled_none a now link message free is) ∙ refused in absurd (cc))
none_or_some now link need left message (Some item) a is free refused = item_done now link message item a (CountSpent need left) is refused

pub none_counts : (now link need left : ℕ) (sdu : List ℕ) (m : Management) → IsUnenrolled m.agent.links link → HandlesSdu now link sdu m (Err (CountSpent need left)) → ⊥
none_counts now link need left sdu m free h = none_or_some now link need left h.0 (item_in h.0) m.agent refl free h.2

pub takes_item : (now link : ℕ) (sdu : List ℕ) (message : LinkMessage) (item : Item) (m : Management) (after : Option Management) → IsNews message sdu m → item_in message ≡ Some item → HandlesSdu now link sdu m (Ok after)
    → (m' : Management) × (after ≡ Some m') × TakesNews link item m m'
takes_item now link sdu message item m after is brings h =
    let r = new_news now link sdu message m after is h in
    (r.0, r.1, handles_item now link message item m r.0 brings is.news r.2)
