-- Where a word that says one thing may want memory: where it copies names, and where a call of the tower does.
use Rattle.std.specs.Prelude.{◌≡◌, ℕ, ◌⊎◌, Bool, true, List, Option, Some, None, IsSome, Result, Ok, Err}
use Rattle.rina_base.specs.declared.number.Port.{Port}
use Rattle.rina_data.specs.declared.step.ClockStep.{ClockStep}
use Rattle.rina_data.specs.declared.step.InStep.{InStep}
use Rattle.rina_data.specs.declared.step.OutStep.{OutStep}
use Rattle.rina_iface.specs.declared.error.SendError.{SendError}
use Rattle.rina_dif.specs.declared.enrol.EnrolError.{EnrolError}
use Rattle.rina_schedule.specs.declared.event.Event.{Event}
use Rattle.rina_schedule.specs.declared.event.Event.TheVariants as events
use Rattle.rina_stack.specs.declared.plan.Plan.{Plan}
use Rattle.rina_stack.specs.Names.{place_in}
use Rattle.rina_tower.specs.declared.applications.AppError.{AppError}
use Rattle.rina_tower.specs.Applications.{AppClaims, AppSends}
use Rattle.rina_tower.specs.Enrolling.{EnrolsAt}
use Rattle.rina_tower.specs.MemoryFailure.{has_failed}
use Rattle.rina_tower.specs.Rounds.{Anything}
use Rattle.rina_tower.specs.Steps.{ClocksAt, InSteps, OutSteps}
use Rattle.rina_notes.specs.declared.site.Site.{Site}
use Rattle.rina_notes.specs.Copying.{copies_app, copies_clock, copies_drawn, copies_enrol, copies_in, copies_out, copies_send}
use Rattle.rina_notes.specs.Look.{state_at}
use Rattle.rina_notes.specs.Sites.{dif_site_at, fac_named, label_in, port_in, site_at}
use Rattle.rina_words.specs.declared.run.Run.{Run}
use Rattle.rina_words.specs.Step.{Stage, link_of, number_below, wire_of}

-- an allocation of the tower has failed
abbrev pub HasFailed : Run → Type 0
HasFailed w = has_failed w.tower ≡ true

-- an allocation of the tower has failed, or what it answered has names to copy
abbrev pub WantsToTell : {A : Type 0} → (A → Type 0) → (A → Bool) → Run → Type 0
WantsToTell {A} Answers copies w' = HasFailed w' ⊎ ((answer : A) × Answers answer × (copies answer ≡ true))

-- the line names a facility and a node, and there this is so
abbrev pub WantsAt : Result Site ℕ → (Site → Type 0) → Type 0
WantsAt (Err field) Wants = ⊥
WantsAt (Ok site) Wants = Wants site

-- the line names the label of a port, and there this is so
abbrev pub WantsOn : Option (ℕ × Port) → (ℕ → Port → Type 0) → Type 0
WantsOn None Wants = ⊥
WantsOn (Some p) Wants = Wants p.0 p.1

-- a field names something, and of its number this is so
abbrev pub WantsWith : Option ℕ → (ℕ → Type 0) → Type 0
WantsWith None Wants = ⊥
WantsWith (Some n) Wants = Wants n

-- the line names a wire, and this is so
abbrev pub WantsOnWire : Option ℕ → Type 0 → Type 0
WantsOnWire None Wants = ⊥
WantsOnWire (Some wire) Wants = Wants

-- `alloc` and `accept` take no memory where the label is given already
abbrev pub WantsLabel : List ℕ → Run → Type 0 → Type 0
WantsLabel label w Wants = (label_in w.labels label ≡ None) × Wants

-- a flow is there to be claimed, so a label is made
abbrev pub WantsToAccept : List ℕ → Run → Run → Site → Type 0
WantsToAccept app w w' site = (port : Port) × AppClaims site.rank site.fac site.node app (Some port) w.tower w'.tower

abbrev pub WantsToSend : Plan → List ℕ → Run → Run → ℕ → Port → Type 0
WantsToSend plan bytes w w' rank port = WantsToTell (λ (e : AppError SendError). AppSends rank port bytes (Err e) w.tower w'.tower) (copies_app (copies_send plan rank)) w'

abbrev pub WantsToTakeIn : Plan → ℕ → Run → Run → Site → Type 0
WantsToTakeIn plan link w w' site = WantsToTell (λ (step : InStep). InSteps site.rank site.fac site.node (link_of link) (Ok step) w.tower w'.tower) (copies_in plan site.rank) w'

abbrev pub WantsToClock : Plan → Run → Run → Site → Type 0
WantsToClock plan w w' site = WantsToTell (λ (step : ClockStep). ClocksAt site.rank site.fac site.node (Ok step) w.tower w'.tower) (copies_clock plan site.rank) w'

abbrev pub WantsToLetOut : Plan → ℕ → Stage → Stage → Site → Type 0
WantsToLetOut plan link s s' site = WantsToTell (λ (step : OutStep). OutSteps Anything s.shelf s'.shelf site.rank site.fac site.node (link_of link) (Ok step) s.run.tower s'.run.tower) (copies_out plan site.rank) s'.run

abbrev pub WantsToEnrol : Run → Run → Site → ℕ → ℕ → Type 0
WantsToEnrol w w' site fac peer = WantsToTell (λ (e : EnrolError). EnrolsAt site.rank site.fac site.node fac peer (Err e) w.tower w'.tower) copies_enrol w'

-- where a word that says one thing may want memory
abbrev pub Wants : Plan → Event → Run → Run → Type 0
Wants plan (events.Register fac node app) w w' = WantsAt (site_at plan 1 fac node) (λ site. HasFailed w')
Wants plan (events.Unregister fac node app) w w' = WantsAt (site_at plan 1 fac node) (λ site. HasFailed w')
Wants plan (events.Alloc label fac node app to want) w w' = WantsAt (site_at plan 2 fac node) (λ site. label_in w.labels label ≡ None)
Wants plan (events.Accept label fac node app) w w' = WantsAt (site_at plan 2 fac node) (λ site. WantsLabel label w (WantsToAccept app w w' site))
Wants plan (events.Send label bytes) w w' = WantsOn (port_in w.labels label) (WantsToSend plan bytes w w')
Wants plan (events.State label) w w' = WantsOn (port_in w.labels label) (λ rank port. copies_drawn plan rank (state_at w.tower rank port) ≡ true)
Wants plan (events.Free label) w w' = WantsOn (port_in w.labels label) (λ rank port. HasFailed w')
Wants plan (events.Repeat wire frame at) w w' = WantsOnWire (wire_of plan wire) (HasFailed w')
Wants plan (events.In dif node link) w w' = WantsAt (dif_site_at plan dif node) (WantsToTakeIn plan link w w')
Wants plan (events.Clock dif node) w w' = WantsAt (dif_site_at plan dif node) (WantsToClock plan w w')
Wants plan (events.Cdap dif node bytes) w w' = WantsAt (dif_site_at plan dif node) (λ site. HasFailed w')
Wants plan (events.Publish dif node fac) w w' = WantsAt (dif_site_at plan dif node) (λ site. IsSome (number_below site.rank (fac_named plan fac)) × HasFailed w')
Wants plan (events.Enrol dif node fac peer) w w' = WantsAt (dif_site_at plan dif node) (λ site. WantsWith (number_below site.rank (fac_named plan fac)) (λ n. WantsWith (place_in plan.nodes peer) (WantsToEnrol w w' site n)))
Wants plan event w w' = ⊥
