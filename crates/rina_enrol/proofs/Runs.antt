-- Runs of the two machines.
use Rattle.std.proofs.Common.{◌≡◌, inl, inr, Bool, true, false, List, [], ◌∷◌, None, refl, ap, arith}
use Rattle.rina_enrol.specs.declared.event.EnrolEvent.{EnrolEvent}
use Rattle.rina_enrol.specs.declared.event.EnrolEvent.TheVariants as events
use Rattle.rina_enrol.specs.declared.event.EnrolDo.{EnrolDo}
use Rattle.rina_enrol.specs.declared.event.EnrolDo.TheVariants as does
use Rattle.rina_enrol.specs.Laws.{ComesInTime}
use Rattle.rina_enrol.specs.Machines.{joiner_run, member_does, member_run}

-- without its link a joiner is enrolled no more than it was
pub joiner_stays : (es : List EnrolEvent) (enrolled : Bool) → (joiner_run (record { lost = true; enrolled = enrolled }) es).enrolled ≡ enrolled
joiner_stays [] enrolled = refl
joiner_stays (events.Stop ∷ es) true = joiner_stays es true
joiner_stays (events.Stop ∷ es) false = joiner_stays es false
joiner_stays (event ∷ es) enrolled = joiner_stays es enrolled

pub enrolled_by : (es : List EnrolEvent) → (joiner_run (record { lost = false; enrolled = false }) es).enrolled ≡ true → ComesInTime events.Stop es
enrolled_by [] h = grind (arith, h)
enrolled_by (events.LinkLost ∷ es) h = grind (arith, joiner_stays es false, h)
enrolled_by (events.Stop ∷ es) h = inl refl
enrolled_by (event ∷ es) h = inr (enrolled_by es h)

abbrev tells : EnrolDo → Bool
tells does.StartR = true
tells d = false

pub member_stays : (es : List EnrolEvent) (allowed : Bool) → (member_run (record { lost = true; allowed = allowed }) es).lost ≡ true
member_stays [] allowed = refl
member_stays (events.Connect None ∷ es) true = member_stays es true
member_stays (events.Connect None ∷ es) false = member_stays es false
member_stays (event ∷ es) allowed = member_stays es allowed

pub allowed_by : (es : List EnrolEvent) → member_does (member_run (record { lost = false; allowed = false }) es) events.Start ≡ does.StartR → ComesInTime (events.Connect None) es
allowed_by [] h = let k : false ≡ true = ap tells h in grind (arith, k)
allowed_by (events.LinkLost ∷ es) h = let k : tells (member_does (member_run (record { lost = true; allowed = false }) es) events.Start) ≡ true = ap tells h in
    let s = member_stays es false in let j : false ≡ true = rw s at k in grind (arith, j)
allowed_by (events.Connect None ∷ es) h = inl refl
allowed_by (event ∷ es) h = inr (allowed_by es h)
