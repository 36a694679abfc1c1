-- What a member does at each message of an enrolment. A message that its session refuses changes nothing, nor does one that the
-- machine of this end has no answer to, but for the session and the machine themselves.
use Rattle.std.specs.Prelude.{◌≡◌, ℕ, ◌==◌, Bool, true, false, List, [], ◌∷◌, ◌++◌, map, find, slice_set, Option, Some, None, Result, Ok, Err, if◌then◌else◌}
use Rattle.rina_session.specs.declared.session.State.TheVariants.{Idle, Calling}
use Rattle.rina_access.specs.declared.rules.Act.TheVariants as acts
use Rattle.rina_access.specs.declared.rules.Decision.{Decision}
use Rattle.rina_access.specs.declared.rules.Rule.{Rule}
use Rattle.rina_access.specs.Access.{decided}
use Rattle.rina_newest.specs.declared.item.Item.{Item}
use Rattle.rina_enrol.specs.declared.event.EnrolEvent.TheVariants as events
use Rattle.rina_enrol.specs.declared.event.EnrolDo.{EnrolDo}
use Rattle.rina_enrol.specs.declared.event.EnrolDo.TheVariants as does
use Rattle.rina_enrol.specs.declared.message.LinkMessage.{LinkMessage}
use Rattle.rina_enrol.specs.declared.message.LinkMessage.TheVariants as messages
use Rattle.rina_enrol.specs.Machines.{new_joiner, new_member}
use Rattle.rina_agent.specs.declared.agent.Agent.{Agent}
use Rattle.rina_agent.specs.declared.enrolment.End.{End}
use Rattle.rina_agent.specs.declared.enrolment.End.TheVariants.{Joins, Joined}
use Rattle.rina_agent.specs.declared.enrolment.Enrolment.{Enrolment}
use Rattle.rina_agent.specs.declared.link.Link.{Link}
use Rattle.rina_agent.specs.declared.link.Heard.{Heard}
use Rattle.rina_agent.specs.declared.message.Waiting.{Waiting}
use Rattle.rina_agent.specs.declared.state.MemberState.{MemberState}
use Rattle.rina_agent.specs.declared.state.MemberState.TheVariants.{Outside, Joining, Enrolled, Denied}
use Rattle.rina_agent.specs.declared.state.AgentError.{AgentError}
use Rattle.rina_agent.specs.declared.state.AgentError.TheVariants.{Memory, CountSpent}
use Rattle.rina_agent.specs.Agenda.{near, item_on, without_at, without_link}
use Rattle.rina_agent.specs.Counts.{next_of, spent, unless}
use Rattle.rina_agent.specs.Enrolments.{hears, is_numbered, place_of}
use Rattle.rina_agent.specs.Items.{made, stated, took}
use Rattle.rina_agent.specs.Neighbours.{member_key, address_at}

-- a call did what is told of it; after a refusal, and where memory ran out, all is as before
abbrev pub Does : Result (Unit {0}) AgentError → Agent → Agent → Result Agent AgentError → Type 0
Does (Ok _) old new told = told ≡ Ok new
Does (Err Memory) old new told = new ≡ old
Does (Err (CountSpent need left)) old new told = (told ≡ Err (CountSpent need left)) × (new ≡ old)

-- the same, but where memory ran out an item may be kept already
abbrev pub DoesOrKeeps : Result (Unit {0}) AgentError → Agent → Agent → Result Agent AgentError → Type 0
DoesOrKeeps (Ok _) old new told = told ≡ Ok new
DoesOrKeeps (Err Memory) old new told = new ≡ record old { items = new.items }
DoesOrKeeps (Err (CountSpent need left)) old new told = (told ≡ Err (CountSpent need left)) × (new ≡ old)

-- A new link

-- a new link at the end that joins, whose session sent CONNECT
abbrev pub joining_link : ℕ → ℕ → List ℕ → Link
joining_link link invoke node = record {
  number = link;
  peer = None;
  weight = 1;
  up = false;
  enrolment = Some (record { session = record { state = Calling; waiting = invoke ∷ [] }; end = Joins new_joiner node });
}

-- a new link at the end that is joined, which waits for CONNECT
abbrev pub joined_link : ℕ → Link
joined_link link = record {
  number = link;
  peer = None;
  weight = 1;
  up = false;
  enrolment = Some (record { session = record { state = Idle; waiting = [] }; end = Joined new_member });
}

-- a member that is enrolled stays so
abbrev pub joining_state : ℕ → MemberState → MemberState
joining_state link Enrolled = Enrolled
joining_state link state = Joining link

-- an accepted enrol: CONNECT on the new link
abbrev pub joining : Agent → ℕ → List ℕ → List ℕ → Agent
joining a link member node = record a {
  state = joining_state link a.state;
  last_invoke = next_of a.last_invoke;
  links = a.links ++ joining_link link (next_of a.last_invoke) node ∷ [];
  agenda = a.agenda ++ near link (messages.Connect (next_of a.last_invoke) a.name member) ∷ [];
}

-- CONNECT

abbrev pub denial_by : Decision → Option ℕ
denial_by d = if d.allow then None else Some d.rule

abbrev pub denial_in : MemberState → List Rule → Bool → List ℕ → Option ℕ
denial_in Enrolled rules default joiner = denial_by (decided rules default joiner acts.Enrol)
denial_in other rules default joiner = Some 257

-- the rule that denies a joiner; 257 at a member that is not enrolled itself
abbrev pub denial : Agent → List ℕ → Option ℕ
denial a joiner = denial_in a.state a.rules.rules a.rules.default joiner

-- a message is put on the link that heard one
abbrev pub replied : Agent → ℕ → Link → LinkMessage → Agent
replied a at l m = record a { links = slice_set a.links at l; agenda = a.agenda ++ near l.number m ∷ [] }

abbrev pub connected_as : EnrolDo → Agent → Heard → LinkMessage → Agent
connected_as (does.ConnectR denied) a h reply = replied a h.at h.link reply
connected_as other a h reply = a

abbrev pub connected_by : Agent → LinkMessage → Option Heard → Agent
connected_by a reply None = a
connected_by a reply (Some h) = connected_as h.does a h reply

-- CONNECT was handled: CONNECT_R on that link
abbrev pub connected : Agent → ℕ → LinkMessage → ℕ → List ℕ → Agent
connected a link m invoke joiner =
    connected_by a (messages.ConnectR invoke (denial a joiner)) (hears a.links link m (messages.ConnectR invoke (denial a joiner) ∷ []) (events.Connect (denial a joiner)))

-- CONNECT_R

abbrev pub allowed_as : EnrolDo → Agent → Heard → LinkMessage → Result Agent AgentError
allowed_as does.Start a h start = unless (spent 1 a.last_invoke) (record a {
  last_invoke = next_of a.last_invoke;
  links = slice_set a.links h.at h.link;
  agenda = a.agenda ++ near h.link.number start ∷ [];
})
allowed_as other a h start = Ok a

abbrev pub allowed_by : Agent → LinkMessage → Option Heard → Result Agent AgentError
allowed_by a start None = Ok a
allowed_by a start (Some h) = allowed_as h.does a h start

-- CONNECT_R of result 0 was handled by the end that joins: START on that link
abbrev pub allowed : Agent → ℕ → LinkMessage → Result Agent AgentError
allowed a link m =
    allowed_by a (messages.Start (next_of a.last_invoke) a.address) (hears a.links link m (messages.Start (next_of a.last_invoke) a.address ∷ []) (events.ConnectR None))

abbrev pub denied_state : ℕ → ℕ → MemberState → MemberState
denied_state link rule (Joining number) = if number == link then Denied rule else Joining number
denied_state link rule state = state

abbrev pub denied_by : Agent → ℕ → ℕ → Option Heard → Agent
denied_by a link rule None = a
denied_by a link rule (Some h) = record a { state = denied_state link rule a.state; links = slice_set a.links h.at h.link }

-- CONNECT_R of result 1 was handled: a joiner that is not enrolled is denied
abbrev pub denied : Agent → ℕ → LinkMessage → ℕ → Agent
denied a link m rule = denied_by a link rule (hears a.links link m [] (events.ConnectR (Some rule)))

-- START

abbrev pub up_link : Option ℕ → Link → Link
up_link peer l = record l { peer = peer; up = true }

-- messages are put on a link, which is up from then on, and then the member makes its link state
abbrev pub raised : Agent → ℕ → ℕ → Link → List Waiting → Agent
raised a now at l batch = stated None (record a { links = slice_set a.links at l; agenda = a.agenda ++ batch }) now

-- START_R, each kept item, and STOP
abbrev pub start_batch : ℕ → ℕ → List Item → ℕ → List Waiting
start_batch link invoke items stop = (near link (messages.StartR invoke) ∷ []) ++ map (item_on link) items ++ near link (messages.Stop stop) ∷ []

abbrev pub started : Agent → ℕ → Heard → ℕ → ℕ → Agent
started a now h invoke address = raised (record a { last_invoke = next_of a.last_invoke }) now h.at (up_link (Some address) h.link) (start_batch h.link.number invoke a.items (next_of a.last_invoke))

abbrev pub either : Option AgentError → Option AgentError → Option AgentError
either None other = other
either (Some e) other = Some e

abbrev pub started_as : EnrolDo → Agent → ℕ → Heard → ℕ → ℕ → Result Agent AgentError
started_as does.StartR a now h invoke address = unless (either (spent 1 a.last_count) (spent 1 a.last_invoke)) (started a now h invoke address)
started_as other a now h invoke address = Ok a

abbrev pub started_by : Agent → ℕ → ℕ → ℕ → Option Heard → Result Agent AgentError
started_by a now invoke address None = Ok a
started_by a now invoke address (Some h) = started_as h.does a now h invoke address

-- START was handled by a member that allowed the joiner: START_R, the items and STOP on that link, which is up; the member
-- makes its link state
abbrev pub asked_in : Agent → ℕ → ℕ → LinkMessage → ℕ → ℕ → Result Agent AgentError
asked_in a now link m invoke address =
    started_by a now invoke address (hears a.links link m (messages.StartR invoke ∷ messages.Stop (next_of a.last_invoke) ∷ []) events.Start)

-- STOP

abbrev pub introduced_in : MemberState → Agent → ℕ → Agent
introduced_in Enrolled a now = a
introduced_in other a now = made None a now (member_key a.address) (Some a.node)

-- a member that was not enrolled makes its member item
abbrev pub introduced : Agent → ℕ → Agent
introduced a now = introduced_in a.state a now

abbrev pub need_in : MemberState → ℕ
need_in Enrolled = 1
need_in other = 2

abbrev pub end_peer : End → List Item → Option ℕ
end_peer (Joins joiner node) items = address_at node items
end_peer (Joined member) items = None

-- the address of the member that was joined, by the name of its node
abbrev pub peer_by : Option Enrolment → List Item → Option ℕ
peer_by None items = None
peer_by (Some e) items = end_peer e.end items

-- STOP_R and each kept item
abbrev pub stop_batch : ℕ → ℕ → List Item → List Waiting
stop_batch link invoke items = (near link (messages.StopR invoke) ∷ []) ++ map (item_on link) items

abbrev pub entered : Agent → ℕ → Heard → ℕ → Agent
entered a now h invoke = raised (record a { state = Enrolled }) now h.at (up_link (peer_by h.link.enrolment a.items) h.link) (stop_batch h.link.number invoke a.items)

abbrev pub stopped_as : EnrolDo → Agent → ℕ → Heard → ℕ → Result Agent AgentError
stopped_as does.StopR a now h invoke = unless (spent (need_in a.state) a.last_count) (entered (introduced a now) now h invoke)
stopped_as other a now h invoke = Ok a

abbrev pub stopped_by : Agent → ℕ → ℕ → Option Heard → Result Agent AgentError
stopped_by a now invoke None = Ok a
stopped_by a now invoke (Some h) = stopped_as h.does a now h invoke

-- STOP was handled by the end that joins: a joiner that was not enrolled makes its member item; STOP_R and the items on that
-- link, which is up; the joiner is enrolled and makes its link state
abbrev pub stopped : Agent → ℕ → ℕ → LinkMessage → ℕ → Result Agent AgentError
stopped a now link m invoke = stopped_by a now invoke (hears a.links link m (messages.StopR invoke ∷ []) events.Stop)

-- START_R and STOP_R

abbrev pub noted_by : Agent → Option Heard → Agent
noted_by a None = a
noted_by a (Some h) = record a { links = slice_set a.links h.at h.link }

-- All messages of neighbours

-- a message of a link was handled at a tick
abbrev pub handled : Agent → ℕ → ℕ → LinkMessage → Result Agent AgentError
handled a now link (messages.Connect invoke joiner member) = Ok (connected a link (messages.Connect invoke joiner member) invoke joiner)
handled a now link (messages.ConnectR invoke None) = allowed a link (messages.ConnectR invoke None)
handled a now link (messages.ConnectR invoke (Some rule)) = Ok (denied a link (messages.ConnectR invoke (Some rule)) rule)
handled a now link (messages.Start invoke address) = asked_in a now link (messages.Start invoke address) invoke address
handled a now link (messages.StartR invoke) = Ok (noted_by a (hears a.links link (messages.StartR invoke) [] events.StartR))
handled a now link (messages.Item item) = Ok (took link a item)
handled a now link (messages.Stop invoke) = stopped a now link (messages.Stop invoke) invoke
handled a now link (messages.StopR invoke) = Ok (noted_by a (hears a.links link (messages.StopR invoke) [] events.StopR))
handled a now link (messages.Flood item) = Ok (took link a item)

-- A lost link

abbrev pub lost_state : ℕ → MemberState → MemberState
lost_state link (Joining number) = if number == link then Outside else Joining number
lost_state link state = state

-- a link is gone with all that waits for it, and the enrolment that runs on it ends
abbrev pub dropped : Agent → ℕ → Agent
dropped a link = record a {
  state = lost_state link a.state;
  links = without_at (place_of link a.links) a.links;
  agenda = without_link link a.agenda;
}

abbrev pub was_up : Option Link → Bool
was_up None = false
was_up (Some l) = l.up

-- a link is lost: where it was up, the member makes its link state without it, and floods that on the others
abbrev pub lost : Agent → ℕ → ℕ → Result Agent AgentError
lost a now link = if was_up (find (is_numbered link) a.links)
    then unless (spent 1 a.last_count) (dropped (stated (Some link) a now) link)
    else Ok (dropped a link)
