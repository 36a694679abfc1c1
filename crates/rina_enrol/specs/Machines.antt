-- What each end of an enrolment does at an event, and what it is after it.
use Rattle.std.specs.Prelude.{Bool, true, false, ◌||◌, not, if◌then◌else◌, List, [], ◌∷◌, None}
use Rattle.rina_enrol.specs.declared.event.EnrolEvent.{EnrolEvent}
use Rattle.rina_enrol.specs.declared.event.EnrolEvent.TheVariants as events
use Rattle.rina_enrol.specs.declared.event.EnrolDo.{EnrolDo}
use Rattle.rina_enrol.specs.declared.event.EnrolDo.TheVariants as does
use Rattle.rina_enrol.specs.declared.joiner.Joiner.{Joiner}
use Rattle.rina_enrol.specs.declared.member.Member.{Member}

abbrev pub new_joiner : Joiner
new_joiner = record { lost = false; enrolled = false }

-- of an end whose link stands
abbrev pub joiner_answers : EnrolEvent → EnrolDo
joiner_answers (events.ConnectR None) = does.Start
joiner_answers events.Stop = does.StopR
joiner_answers event = does.Nothing

-- without its link an end does nothing
abbrev pub joiner_does : Joiner → EnrolEvent → EnrolDo
joiner_does j event = if j.lost then does.Nothing else joiner_answers event

abbrev pub joiner_after : Joiner → EnrolEvent → Joiner
joiner_after j events.LinkLost = record j { lost = true }
joiner_after j events.Stop = record j { enrolled = j.enrolled || not j.lost }
joiner_after j event = j

abbrev pub new_member : Member
new_member = record { lost = false; allowed = false }

abbrev pub member_answers : Bool → EnrolEvent → EnrolDo
member_answers allowed (events.Connect denied) = does.ConnectR denied
member_answers true events.Start = does.StartR
member_answers allowed event = does.Nothing

abbrev pub member_does : Member → EnrolEvent → EnrolDo
member_does m event = if m.lost then does.Nothing else member_answers m.allowed event

abbrev pub member_after : Member → EnrolEvent → Member
member_after m events.LinkLost = record m { lost = true }
member_after m (events.Connect None) = record m { allowed = m.allowed || not m.lost }
member_after m event = m

-- after events, one after the other

abbrev pub joiner_run : Joiner → List EnrolEvent → Joiner
joiner_run j [] = j
joiner_run j (event ∷ events) = joiner_run (joiner_after j event) events

abbrev pub member_run : Member → List EnrolEvent → Member
member_run m [] = m
member_run m (event ∷ events) = member_run (member_after m event) events
