-- The messages of an enrolment that a member answers are short, too.
use Rattle.std.proofs.Common.{◌≡◌, ◌-◌, ℕ, ◌^◌, ◌<◌, ◌&&◌, ⊎_elim, Bool, true, false, cond, List, [], ◌∷◌, ◌++◌, Option, Some, None, Result, Contains, drop, map, slice_get, slice_set, refl, subst, arith}
use Rattle.std.specs.Prelude.{codes, nat_eq, option_and_then, option_map}
use Rattle.std.specs.List.{starts_with}
use Rattle.std.proofs.lemmas.List.{length-set}
use Rattle.std.proofs.lemmas.Option.{none-some, same_Some}
use Rattle.rina_base.specs.Decimals.{number_of}
use Rattle.rina_base.proofs.Decimals.{decimal_fits}
use Rattle.rina_cdap.specs.Messages.{IfThere}
use Rattle.rina_newest.specs.declared.item.Item.{Item}
use Rattle.rina_newest.specs.Newest.{items_under}
use Rattle.rina_session.specs.Sessions.{Talk}
use Rattle.rina_enrol.specs.declared.event.EnrolDo.{EnrolDo}
use Rattle.rina_enrol.specs.declared.event.EnrolDo.TheVariants as does
use Rattle.rina_enrol.specs.declared.event.EnrolEvent.{EnrolEvent}
use Rattle.rina_enrol.specs.declared.event.EnrolEvent.TheVariants as events
use Rattle.rina_enrol.specs.declared.message.LinkMessage.{LinkMessage}
use Rattle.rina_enrol.specs.declared.message.LinkMessage.TheVariants as messages
use Rattle.rina_enrol.specs.Messages.{IsInRange}
use Rattle.rina_agent.specs.declared.agent.Agent.{Agent}
use Rattle.rina_agent.specs.declared.enrolment.End.{End}
use Rattle.rina_agent.specs.declared.enrolment.End.TheVariants.{Joined, Joins}
use Rattle.rina_agent.specs.declared.enrolment.Enrolment.{Enrolment}
use Rattle.rina_agent.specs.declared.link.Link.{Link}
use Rattle.rina_agent.specs.declared.message.ManagementMessage.TheVariants.{ToNeighbour}
use Rattle.rina_agent.specs.declared.message.Waiting.{Waiting}
use Rattle.rina_agent.specs.declared.state.AgentError.{AgentError}
use Rattle.rina_agent.specs.declared.state.MemberState.{MemberState}
use Rattle.rina_agent.specs.declared.state.MemberState.TheVariants.{Denied, Enrolled, Joining, Outside}
use Rattle.rina_agent.specs.Agenda.{item_on, near}
use Rattle.rina_agent.specs.Counts.{next_of, spent}
use Rattle.rina_agent.specs.Enrolments.{exchanged, heard_as, heard_at, heard_by, heard_on, hears, place_of}
use Rattle.rina_agent.specs.Items.{own_version}
use Rattle.rina_agent.specs.Neighbours.{address_among, address_in, member_key, or_else, value_is}
use Rattle.rina_agent.specs.Rows
use Rattle.rina_member.specs.declared.management.Management.{Management}
use Rattle.rina_member.specs.Managements.{Handles}
use Rattle.rina_member.specs.Short.{AreShort, IsLinkInRange, IsShort, TellsShort}
use Rattle.rina_member.proofs.Lists.{is_there}
use Rattle.rina_member.proofs.Tells.{ShortOr, all_on_short, both_short, made_short, member_short, one_waits, set_cases, stated_short, took_short, unless_short}

-- The link on which a message was heard

talk_ranged : (at : ℕ) (l : Link) (e : Enrolment) (event : EnrolEvent) (t : Option Talk) (h : _) → IsLinkInRange l → option_map (heard_as at l e event) t ≡ Some h → IsLinkInRange h.link
talk_ranged at l e event None h r is = absurd (none-some h is)
talk_ranged at l e event (Some t) h r is = subst (λ g. IsLinkInRange g.link) (same_Some (heard_as at l e event t) h is) (record { peer = r.peer; least = r.least; weight = r.weight })

link_ranged : (at : ℕ) (m : LinkMessage) (replies : List LinkMessage) (event : EnrolEvent) (l : Link) (e : Option Enrolment) (h : _) → IsLinkInRange l → heard_by at l m replies event e ≡ Some h → IsLinkInRange h.link
link_ranged at m replies event l None h r is = absurd (none-some h is)
link_ranged at m replies event l (Some e) h r is = talk_ranged at l e event (exchanged e.session m replies) h r is

slot_ranged : (links : List Link) (at : ℕ) (m : LinkMessage) (replies : List LinkMessage) (event : EnrolEvent) (o : Option Link) (h : _) → ((l : Link) → Contains links l → IsLinkInRange l) → slice_get links at ≡ o → option_and_then (heard_on at m replies event) o ≡ Some h → IsLinkInRange h.link
slot_ranged links at m replies event None h ranges there is = absurd (none-some h is)
slot_ranged links at m replies event (Some l) h ranges there is = link_ranged at m replies event l l.enrolment h (ranges l (is_there links at l there)) is

place_ranged : (links : List Link) (m : LinkMessage) (replies : List LinkMessage) (event : EnrolEvent) (place : Option ℕ) (h : _) → ((l : Link) → Contains links l → IsLinkInRange l) → heard_at links m replies event place ≡ Some h → IsLinkInRange h.link
place_ranged links m replies event None h ranges is = absurd (none-some h is)
place_ranged links m replies event (Some at) h ranges is = slot_ranged links at m replies event (slice_get links at) h ranges refl is

heard_ranged : (links : List Link) (k : ℕ) (m : LinkMessage) (replies : List LinkMessage) (event : EnrolEvent) (h : _) → ((l : Link) → Contains links l → IsLinkInRange l) → hears links k m replies event ≡ Some h → IsLinkInRange h.link
heard_ranged links k m replies event h ranges is = place_ranged links m replies event (place_of k links) h ranges is

-- A link is another from now on, and more messages wait

pub set_ranged : (links : List Link) (at : ℕ) (l : Link) → ((z : Link) → Contains links z → IsLinkInRange z) → IsLinkInRange l → (z : Link) → Contains (slice_set links at l) z → IsLinkInRange z
set_ranged links at l ranges r z has = ⊎_elim (λ old. ranges z old) (λ same. subst (λ (x : Link). IsLinkInRange x) same r) (set_cases links at l z has)

relinked_short : (g : Agent) (state : MemberState) (at : ℕ) (l : Link) → TellsShort g → IsLinkInRange l → TellsShort (record g { state = state; links = slice_set g.links at l })
relinked_short g state at l h r =
    let same = length-set g.links at l in
    let few = h.few in
    record {
      address = h.address;
      name = h.name;
      node = h.node;
      items = h.items;
      few = omega (arith, same, few);
      ranges = set_ranged g.links at l h.ranges r;
      waiting = h.waiting;
    }

replied_short : (g : Agent) (state : MemberState) (invoke at : ℕ) (l : Link) (more : List Waiting) → TellsShort g → IsLinkInRange l → AreShort more → TellsShort (record g { state = state; last_invoke = invoke; links = slice_set g.links at l; agenda = g.agenda ++ more })
replied_short g state invoke at l more h r short =
    let same = length-set g.links at l in
    let few = h.few in
    record {
      address = h.address;
      name = h.name;
      node = h.node;
      items = h.items;
      few = omega (arith, same, few);
      ranges = set_ranged g.links at l h.ranges r;
      waiting = both_short g.agenda more h.waiting short;
    }

-- CONNECT and CONNECT_R

connected_does : (links : List Link) (k : ℕ) (m : LinkMessage) (replies : List LinkMessage) (event : EnrolEvent) (h : _) → hears links k m replies event ≡ Some h → IsLinkInRange h.link → (d : EnrolDo) (g : Agent) (reply : LinkMessage) → TellsShort g → IsShort (ToNeighbour reply) → TellsShort (Rows.connected_as d g h reply)
connected_does links k m replies event h is r does.Nothing g reply s short = s
connected_does links k m replies event h is r (does.ConnectR denied) g reply s short = replied_short g g.state g.last_invoke h.at h.link (near h.link.number reply ∷ []) s r (one_waits (near h.link.number reply) short)
connected_does links k m replies event h is r does.Start g reply s short = s
connected_does links k m replies event h is r does.StartR g reply s short = s
connected_does links k m replies event h is r does.StopR g reply s short = s

connected_short : (g : Agent) (k : ℕ) (m reply : LinkMessage) (replies : List LinkMessage) (event : EnrolEvent) (o : _) → hears g.links k m replies event ≡ o → TellsShort g → IsShort (ToNeighbour reply) → TellsShort (Rows.connected_by g reply o)
connected_short g k m reply replies event None is s short = s
connected_short g k m reply replies event (Some h) is s short = connected_does g.links k m replies event h is (heard_ranged g.links k m replies event h s.ranges is) h.does g reply s short

allowed_does : (links : List Link) (k : ℕ) (m : LinkMessage) (replies : List LinkMessage) (event : EnrolEvent) (h : _) → hears links k m replies event ≡ Some h → IsLinkInRange h.link → (d : EnrolDo) (g : Agent) (start : LinkMessage) → TellsShort g → IsShort (ToNeighbour start) → ShortOr (Rows.allowed_as d g h start)
allowed_does links k m replies event h is r does.Nothing g start s short = s
allowed_does links k m replies event h is r (does.ConnectR denied) g start s short = s
allowed_does links k m replies event h is r does.Start g start s short =
    unless_short (spent 1 g.last_invoke) _ (replied_short g g.state (next_of g.last_invoke) h.at h.link (near h.link.number start ∷ []) s r (one_waits (near h.link.number start) short))
allowed_does links k m replies event h is r does.StartR g start s short = s
allowed_does links k m replies event h is r does.StopR g start s short = s

allowed_short : (g : Agent) (k : ℕ) (m start : LinkMessage) (replies : List LinkMessage) (event : EnrolEvent) (o : _) → hears g.links k m replies event ≡ o → TellsShort g → IsShort (ToNeighbour start) → ShortOr (Rows.allowed_by g start o)
allowed_short g k m start replies event None is s short = s
allowed_short g k m start replies event (Some h) is s short = allowed_does g.links k m replies event h is (heard_ranged g.links k m replies event h s.ranges is) h.does g start s short

denied_short : (g : Agent) (k rule : ℕ) (m : LinkMessage) (replies : List LinkMessage) (event : EnrolEvent) (o : _) → hears g.links k m replies event ≡ o → TellsShort g → TellsShort (Rows.denied_by g k rule o)
denied_short g k rule m replies event None is s = s
denied_short g k rule m replies event (Some h) is s = relinked_short g (Rows.denied_state k rule g.state) h.at h.link s (heard_ranged g.links k m replies event h s.ranges is)

noted_short : (g : Agent) (k : ℕ) (m : LinkMessage) (replies : List LinkMessage) (event : EnrolEvent) (o : _) → hears g.links k m replies event ≡ o → TellsShort g → TellsShort (Rows.noted_by g o)
noted_short g k m replies event None is s = s
noted_short g k m replies event (Some h) is s = relinked_short g g.state h.at h.link s (heard_ranged g.links k m replies event h s.ranges is)

-- START

batch_short : (link invoke stop : ℕ) (items : List Item) → ((item : Item) → Contains items item → IsShort (ToNeighbour (messages.Item item))) → AreShort (Rows.start_batch link invoke items stop)
batch_short link invoke stop items short =
    both_short ((near link (messages.StartR invoke) ∷ []) ++ map (item_on link) items) (near link (messages.Stop stop) ∷ [])
    (both_short (near link (messages.StartR invoke) ∷ []) (map (item_on link) items) (one_waits (near link (messages.StartR invoke)) (tt, tt)) (all_on_short link items short))
    (one_waits (near link (messages.Stop stop)) (tt, tt))

started_as : (links : List Link) (k : ℕ) (m : LinkMessage) (replies : List LinkMessage) (event : EnrolEvent) (h : _) → hears links k m replies event ≡ Some h → IsLinkInRange h.link → (g : Agent) (now : ℕ) (invoke address : ℕ) → TellsShort g → address < 2 ^ 32 → TellsShort (Rows.started g now h invoke address)
started_as links k m replies event h is r g now invoke address s small =
    let up : Link = Rows.up_link (Some address) h.link in
    let batch : List Waiting = Rows.start_batch h.link.number invoke g.items (next_of g.last_invoke) in
    stated_short None (record g { last_invoke = next_of g.last_invoke; links = slice_set g.links h.at up; agenda = g.agenda ++ batch }) now
    (replied_short g g.state (next_of g.last_invoke) h.at up batch s (record { peer = small; least = r.least; weight = r.weight }) (batch_short h.link.number invoke (next_of g.last_invoke) g.items s.items))

started_does : (links : List Link) (k : ℕ) (m : LinkMessage) (replies : List LinkMessage) (event : EnrolEvent) (h : _) → hears links k m replies event ≡ Some h → IsLinkInRange h.link → (d : EnrolDo) (g : Agent) (now : ℕ) (invoke address : ℕ) → TellsShort g → address < 2 ^ 32 → ShortOr (Rows.started_as d g now h invoke address)
started_does links k m replies event h is r does.Nothing g now invoke address s small = s
started_does links k m replies event h is r (does.ConnectR denied) g now invoke address s small = s
started_does links k m replies event h is r does.Start g now invoke address s small = s
started_does links k m replies event h is r does.StartR g now invoke address s small = unless_short (Rows.either (spent 1 g.last_count) (spent 1 g.last_invoke)) (Rows.started g now h invoke address) (started_as links k m replies event h is r g now invoke address s small)
started_does links k m replies event h is r does.StopR g now invoke address s small = s

started_short : (g : Agent) (k now invoke address : ℕ) (m : LinkMessage) (replies : List LinkMessage) (event : EnrolEvent) (o : _) → hears g.links k m replies event ≡ o → TellsShort g → address < 2 ^ 32 → ShortOr (Rows.started_by g now invoke address o)
started_short g k now invoke address m replies event None is s small = s
started_short g k now invoke address m replies event (Some h) is s small = started_does g.links k m replies event h is (heard_ranged g.links k m replies event h s.ranges is) h.does g now invoke address s small

-- STOP

number_small : (text : List ℕ) (o : Option ℕ) → number_of text ≡ o → IfThere o (2 ^ 32)
number_small text None is = tt
number_small text (Some n) is = (let fits = decimal_fits (2 ^ 32 - 1) text n is in omega (arith, fits))

in_small : (node : List ℕ) (item : Item) (b : Bool) → IfThere (cond b (number_of (drop 8 item.key)) None) (2 ^ 32)
in_small node item true = number_small (drop 8 item.key) (number_of (drop 8 item.key)) refl
in_small node item false = tt

item_small : (node : List ℕ) (item : Item) → IfThere (address_in node item) (2 ^ 32)
unfolding address_in
item_small node item = in_small node item (starts_with nat_eq item.key (codes "/member/") && value_is node item.value)

else_small : (one other : Option ℕ) → IfThere one (2 ^ 32) → IfThere other (2 ^ 32) → IfThere (or_else one other) (2 ^ 32)
else_small None other h k = k
else_small (Some address) other h k = h

among_small : (node : List ℕ) (items : List Item) → IfThere (address_among node items) (2 ^ 32)
among_small node [] = tt
among_small node (x ∷ items) = else_small (address_in node x) (address_among node items) (item_small node x) (among_small node items)

end_small : (end : End) (items : List Item) → IfThere (Rows.end_peer end items) (2 ^ 32)
end_small (Joins joiner node) items = among_small node (items_under (codes "/member/") items)
end_small (Joined member) items = tt

pub peer_small : (e : Option Enrolment) (items : List Item) → IfThere (Rows.peer_by e items) (2 ^ 32)
peer_small None items = tt
peer_small (Some e) items = end_small e.end items

entered_short : (links : List Link) (k : ℕ) (m : LinkMessage) (replies : List LinkMessage) (event : EnrolEvent) (h : _) → hears links k m replies event ≡ Some h → IsLinkInRange h.link → (g : Agent) (now : ℕ) (invoke : ℕ) → TellsShort g → TellsShort (Rows.entered g now h invoke)
entered_short links k m replies event h is r g now invoke s =
    let up : Link = Rows.up_link (Rows.peer_by h.link.enrolment g.items) h.link in
    let batch : List Waiting = Rows.stop_batch h.link.number invoke g.items in
    stated_short None (record g { state = Enrolled; links = slice_set g.links h.at up; agenda = g.agenda ++ batch }) now
    (
    replied_short g Enrolled g.last_invoke h.at up batch s (record { peer = peer_small h.link.enrolment g.items; least = r.least; weight = r.weight })
    (both_short (near h.link.number (messages.StopR invoke) ∷ []) (map (item_on h.link.number) g.items) (one_waits (near h.link.number (messages.StopR invoke)) (tt, tt)) (all_on_short h.link.number g.items s.items))
    )

introduced_short : (state : MemberState) (g : Agent) (now : ℕ) → TellsShort g → TellsShort (Rows.introduced_in state g now)
introduced_short Outside g now s = made_short None g now (member_key g.address) (Some g.node) s (member_short g.address (own_version g now) g.node s.address s.node)
introduced_short (Joining link) g now s = made_short None g now (member_key g.address) (Some g.node) s (member_short g.address (own_version g now) g.node s.address s.node)
introduced_short Enrolled g now s = s
introduced_short (Denied rule) g now s = made_short None g now (member_key g.address) (Some g.node) s (member_short g.address (own_version g now) g.node s.address s.node)

stopped_does : (links : List Link) (k : ℕ) (m : LinkMessage) (replies : List LinkMessage) (event : EnrolEvent) (h : _) → hears links k m replies event ≡ Some h → IsLinkInRange h.link → (d : EnrolDo) (g : Agent) (now : ℕ) (invoke : ℕ) → TellsShort g → ShortOr (Rows.stopped_as d g now h invoke)
stopped_does links k m replies event h is r does.Nothing g now invoke s = s
stopped_does links k m replies event h is r (does.ConnectR denied) g now invoke s = s
stopped_does links k m replies event h is r does.Start g now invoke s = s
stopped_does links k m replies event h is r does.StartR g now invoke s = s
stopped_does links k m replies event h is r does.StopR g now invoke s =
    unless_short (spent (Rows.need_in g.state) g.last_count) (Rows.entered (Rows.introduced g now) now h invoke) (entered_short links k m replies event h is r (Rows.introduced g now) now invoke (introduced_short g.state g now s))

stopped_short : (g : Agent) (k now invoke : ℕ) (m : LinkMessage) (replies : List LinkMessage) (event : EnrolEvent) (o : _) → hears g.links k m replies event ≡ o → TellsShort g → ShortOr (Rows.stopped_by g now invoke o)
stopped_short g k now invoke m replies event None is s = s
stopped_short g k now invoke m replies event (Some h) is s = stopped_does g.links k m replies event h is (heard_ranged g.links k m replies event h s.ranges is) h.does g now invoke s

-- All messages

handled_short : (g : Agent) (now link : ℕ) (m : LinkMessage) → TellsShort g → IsInRange m → IsShort (ToNeighbour m) → ShortOr (Rows.handled g now link m)
handled_short g now link (messages.Connect invoke joiner member) s range short =
    let reply : LinkMessage = messages.ConnectR invoke (Rows.denial g joiner) in
    connected_short g link (messages.Connect invoke joiner member) reply (reply ∷ []) (events.Connect (Rows.denial g joiner)) _ refl s (tt, tt)
handled_short g now link (messages.ConnectR invoke None) s range short =
    let start : LinkMessage = messages.Start (next_of g.last_invoke) g.address in
    allowed_short g link (messages.ConnectR invoke None) start (start ∷ []) (events.ConnectR None) _ refl s (tt, tt)
handled_short g now link (messages.ConnectR invoke (Some rule)) s range short = denied_short g link rule (messages.ConnectR invoke (Some rule)) [] (events.ConnectR (Some rule)) _ refl s
handled_short g now link (messages.Start invoke address) s range short =
    started_short g link now invoke address (messages.Start invoke address) (messages.StartR invoke ∷ messages.Stop (next_of g.last_invoke) ∷ []) events.Start _ refl s range.1
handled_short g now link (messages.StartR invoke) s range short = noted_short g link (messages.StartR invoke) [] events.StartR _ refl s
handled_short g now link (messages.Item item) s range short = took_short link g item s short
handled_short g now link (messages.Stop invoke) s range short = stopped_short g link now invoke (messages.Stop invoke) (messages.StopR invoke ∷ []) events.Stop _ refl s
handled_short g now link (messages.StopR invoke) s range short = noted_short g link (messages.StopR invoke) [] events.StopR _ refl s
handled_short g now link (messages.Flood item) s range short = took_short link g item s short

-- a member that handled a short message tells short ones
pub handles_short : (now link : ℕ) (message : LinkMessage) (m m' : Management) → TellsShort m.agent → IsInRange message → IsShort (ToNeighbour message) → Handles now link message m m' → TellsShort m'.agent
handles_short now link message m m' s range short h = subst (λ (r : Result Agent AgentError). ShortOr r) h.handles (handled_short m.agent now link message s range short)
