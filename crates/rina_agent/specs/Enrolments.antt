-- One end of an enrolment at a message: what its session and its machine become, and what the machine answers.
use Rattle.std.specs.Prelude.{ℕ, List, [], ◌∷◌, Option, Some, None, option_map, option_and_then, position, slice_get, Bool, ◌==◌}
use Rattle.std.specs.Result.{result_ok}
use Rattle.rina_session.specs.Sessions.{Talk, sent, got}
use Rattle.rina_enrol.specs.declared.event.EnrolEvent.{EnrolEvent}
use Rattle.rina_enrol.specs.declared.event.EnrolDo.{EnrolDo}
use Rattle.rina_enrol.specs.declared.message.LinkMessage.{LinkMessage}
use Rattle.rina_enrol.specs.Machines.{joiner_does, joiner_after, member_does, member_after}
use Rattle.rina_enrol.specs.Messages.{message_of}
use Rattle.rina_agent.specs.declared.enrolment.End.{End}
use Rattle.rina_agent.specs.declared.enrolment.End.TheVariants.{Joins, Joined}
use Rattle.rina_agent.specs.declared.enrolment.Enrolment.{Enrolment}
use Rattle.rina_agent.specs.declared.link.Link.{Link}
use Rattle.rina_agent.specs.declared.link.Heard.{Heard}

-- the session after a message was got; none where it is refused
abbrev pub heard : Talk → LinkMessage → Option Talk
heard t m = result_ok (got t (message_of m))

-- the session after a message was sent; none where it is refused
abbrev pub spoken : Talk → LinkMessage → Option Talk
spoken t m = result_ok (sent t (message_of m))

abbrev pub all_spoken : Talk → List LinkMessage → Option Talk
all_spoken t [] = Some t
all_spoken t (m ∷ ms) = option_and_then (λ (u : Talk). all_spoken u ms) (spoken t m)

-- the session after a message was got and the replies to it were sent; none where one of them is refused
abbrev pub exchanged : Talk → LinkMessage → List LinkMessage → Option Talk
exchanged t m replies = option_and_then (λ (u : Talk). all_spoken u replies) (heard t m)

-- what the machine of an end answers to an event
abbrev pub answer_of : End → EnrolEvent → EnrolDo
answer_of (Joins joiner node) event = joiner_does joiner event
answer_of (Joined member) event = member_does member event

-- the end after an event
abbrev pub end_after : End → EnrolEvent → End
end_after (Joins joiner node) event = Joins (joiner_after joiner event) node
end_after (Joined member) event = Joined (member_after member event)

abbrev pub stepped : Enrolment → EnrolEvent → Talk → Enrolment
stepped e event t = record { session = t; end = end_after e.end event }

-- a message on the link at a place: the link after it, and the answer of its machine
abbrev pub heard_as : ℕ → Link → Enrolment → EnrolEvent → Talk → Heard
heard_as at l e event t = record { at = at; link = record l { enrolment = Some (stepped e event t) }; does = answer_of e.end event }

abbrev pub heard_by : ℕ → Link → LinkMessage → List LinkMessage → EnrolEvent → Option Enrolment → Option Heard
heard_by at l m replies event None = None
heard_by at l m replies event (Some e) = option_map (heard_as at l e event) (exchanged e.session m replies)

-- none where no enrolment made the link, or its session refuses the message or a reply
abbrev pub heard_on : ℕ → LinkMessage → List LinkMessage → EnrolEvent → Link → Option Heard
heard_on at m replies event l = heard_by at l m replies event l.enrolment

abbrev pub is_numbered : ℕ → Link → Bool
is_numbered number l = l.number == number

-- the place of the live link of a number
abbrev pub place_of : ℕ → List Link → Option ℕ
place_of number links = position (is_numbered number) links

abbrev pub heard_at : List Link → LinkMessage → List LinkMessage → EnrolEvent → Option ℕ → Option Heard
heard_at links m replies event None = None
heard_at links m replies event (Some at) = option_and_then (heard_on at m replies event) (slice_get links at)

-- a message on the link of a number
abbrev pub hears : List Link → ℕ → LinkMessage → List LinkMessage → EnrolEvent → Option Heard
hears links number m replies event = heard_at links m replies event (place_of number links)
