-- What holds of an end of an enrolment whatever events come.
use Rattle.std.specs.Prelude.{◌≡◌, ◌⊎◌, true, List, [], ◌∷◌, None}
use Rattle.rina_enrol.specs.declared.event.EnrolEvent.{EnrolEvent}
use Rattle.rina_enrol.specs.declared.event.EnrolEvent.TheVariants as events
use Rattle.rina_enrol.specs.declared.event.EnrolDo.TheVariants as does
use Rattle.rina_enrol.specs.Machines.{new_joiner, joiner_run, new_member, member_does, member_run}

-- an event is among those that came before the link was lost
abbrev pub ComesInTime : EnrolEvent → List EnrolEvent → Type 0
ComesInTime event [] = ⊥
ComesInTime event (events.LinkLost ∷ es) = ⊥
ComesInTime event (e ∷ es) = (e ≡ event) ⊎ ComesInTime event es

-- a joiner is enrolled only by STOP, which came while its link stood
abbrev pub IsEnrolledByStop : Type 0
IsEnrolledByStop = (es : List EnrolEvent) → (joiner_run new_joiner es).enrolled ≡ true → ComesInTime events.Stop es

-- a member answers START only to a joiner that it allowed while the link stood
abbrev pub AnswersWhomItAllowed : Type 0
AnswersWhomItAllowed = (es : List EnrolEvent) → member_does (member_run new_member es) events.Start ≡ does.StartR → ComesInTime (events.Connect None) es
