-- Each word of a schedule keeps the DIFs as they were planned.
use Rattle.std.proofs.Common.{◌≡◌, ℕ, zero, suc, ◌+◌, nat_lt, Bool, true, false, ◌||◌, List, Some, None, Option, Result, Ok, Err, inl, inr, ap}
use Rattle.rina_base.specs.declared.number.Port.{Port}
use Rattle.rina_cube.specs.declared.Want.{Want}
use Rattle.rina_data.specs.declared.step.StepError.TheVariants.{NoIpc}
use Rattle.rina_dif.specs.declared.cdap.CdapCallError.TheVariants.{NoIpc as NoneThere}
use Rattle.rina_dif.specs.declared.enrol.EnrolError.TheVariants.{NoIpc as NoMember}
use Rattle.rina_report.specs.declared.note.Note.{Note}
use Rattle.rina_report.specs.declared.answer.Answer.{Answer}
use Rattle.rina_schedule.specs.declared.event.Event.{Event}
use Rattle.rina_schedule.specs.declared.event.Event.TheVariants as events
use Rattle.rina_stack.specs.declared.plan.Plan.{Plan}
use Rattle.rina_stack.specs.Names.{place_in}
use Rattle.rina_tower.specs.declared.tower.Tower.{Tower}
use Rattle.rina_tower.specs.Applications.{is_ipc_at}
use Rattle.rina_tower.specs.Cdap.{AsksAtTop}
use Rattle.rina_tower.specs.Bystanders.{is_ipc}
use Rattle.rina_tower.specs.Calls.{AllocatesAtTop, ClaimsAtTop, FreesAtTop, RegistersAtTop, SendsAtTop, UnregistersAtTop}
use Rattle.rina_tower.specs.Enrolling.{EnrolsAtTop}
use Rattle.rina_tower.specs.Events.{Cuts, HoldsBack, Loses, Mends, Repeats}
use Rattle.rina_tower.specs.Ranks.{now_of, seen_of}
use Rattle.rina_tower.specs.Rounds.{Anything}
use Rattle.rina_tower.specs.Steps.{ClocksAtTop, InStepsAtTop, OutStepsAtTop}
use Rattle.rina_wire.specs.declared.event.WireError.{WireError}
use Rattle.rina_wire.specs.Cut.{CutsOn, MendsOn}
use Rattle.rina_wire.specs.Disturb.{HoldsOn, LosesOn, RepeatsOn}
use Rattle.rina_notes.specs.declared.facility.RankedFac.{RankedFac}
use Rattle.rina_notes.specs.declared.label.Label.{Label}
use Rattle.rina_notes.specs.declared.site.Site.{Site}
use Rattle.rina_words.specs.declared.run.Run.{Run}
use Rattle.rina_notes.specs.Sites.{dif_site_at, fac_named, label_in, port_in, site_at}
use Rattle.rina_words.specs.Step.{Accounting, Acts, ActsOnRun, AtField, AtPort, AtSite, AtWire, CallsAllocate, CallsCdap, CallsClock, CallsEnrol, CallsFree, CallsIn, CallsIncoming, CallsPublish, CallsRegister, CallsSend, CallsUnregister, CallsWire, LettingOut, Reading, Showing, ShowingRib, Stage, TellsMember, TellsState, Ticking, Ticks, Unlabelled, asked, link_of, number_below, wire_of}
use Rattle.rina_laws.proofs.Published.{MayRegister, published}
use Rattle.rina_laws.proofs.PlannedAt as at
use Rattle.rina_laws.proofs.PlannedAt.{Keeps, keeps_on, keeps_same}

-- a run after another
abbrev KeepsIn : Plan → Run → Run → Type 0
KeepsIn plan w w' = Keeps plan w.tower w'.tower

same : (plan : Plan) (w w' : Run) → w' ≡ w → KeepsIn plan w w'
same plan w w' is = keeps_same plan w.tower w'.tower (ap (λ (v : Run). v.tower) is)

-- ---- where a word is refused before its call, nothing is done

at_site : (plan : Plan) (r : Result Site ℕ) (Call : Site → Option Answer → Run → Type 0) (w : Run) (says : Option Answer) (w' : Run) → ((site : Site) → Call site says w' → KeepsIn plan w w') → AtSite r Call w says w' → KeepsIn plan w w'
at_site plan (Err field) Call w says w' next d = same plan w w' d.run
at_site plan (Ok site) Call w says w' next d = next site d

unlabelled : (plan : Plan) (o : Option Label) (Call : Option Answer → Run → Type 0) (w : Run) (says : Option Answer) (w' : Run) → (Call says w' → KeepsIn plan w w') → Unlabelled o Call w says w' → KeepsIn plan w w'
unlabelled plan (Some label) Call w says w' next d = same plan w w' d.run
unlabelled plan None Call w says w' next d = next d

at_port : (plan : Plan) (o : Option (ℕ × Port)) (Call : ℕ → Port → Option Answer → Run → Type 0) (w : Run) (says : Option Answer) (w' : Run) → ((p : ℕ × Port) → Call p.0 p.1 says w' → KeepsIn plan w w') → AtPort o Call w says w' → KeepsIn plan w w'
at_port plan None Call w says w' next d = same plan w w' d.run
at_port plan (Some p) Call w says w' next d = next p d

at_wire : (plan : Plan) (o : Option ℕ) (Does : ℕ → Result (Unit {0}) WireError → Tower → Tower → Type 0) (w : Run) (says : Option Answer) (w' : Run) → ((n : ℕ) (r : Result (Unit {0}) WireError) → Does n r w.tower w'.tower → KeepsIn plan w w') → AtWire o (λ n. CallsWire (Does n) w) w says w' → KeepsIn plan w w'
at_wire plan None Does w says w' next d = same plan w w' d.run
at_wire plan (Some n) Does w says w' next d = next n d.result d.does

at_field : (plan : Plan) (field : ℕ) (o : Option ℕ) (Call : ℕ → Option Answer → Run → Type 0) (w : Run) (says : Option Answer) (w' : Run) → ((n : ℕ) → Call n says w' → KeepsIn plan w w') → AtField field o Call w says w' → KeepsIn plan w w'
at_field plan field None Call w says w' next d = same plan w w' d.run
at_field plan field (Some n) Call w says w' next d = next n d

-- ---- calls of applications

registers : (plan : Plan) (app : List ℕ) (w : Run) (site : Site) (says : Option Answer) (w' : Run) → CallsRegister app w site says w' → KeepsIn plan w w'
registers plan app w site says w' c = at.at_app plan site.rank (λ u. is_ipc app) (RegistersAtTop site.fac site.node app) c.result w.tower w'.tower (λ x u u' e. at.registers plan site.fac site.node app x u u' e) c.does

unregisters : (plan : Plan) (app : List ℕ) (w : Run) (site : Site) (says : Option Answer) (w' : Run) → CallsUnregister app w site says w' → KeepsIn plan w w'
unregisters plan app w site says w' c = at.at_app plan site.rank (λ u. is_ipc app) (UnregistersAtTop site.fac site.node app) c.result w.tower w'.tower (λ x u u' e. at.unregisters plan site.fac site.node app x u u' e) c.does

allocates : (plan : Plan) (label name node app to : List ℕ) (want : Want) (w : Run) (site : Site) (says : Option Answer) (w' : Run) → CallsAllocate plan label name node site.rank w (asked site app to want) says w' → KeepsIn plan w w'
allocates plan label name node app to want w site says w' c = at.at_app plan site.rank (λ u. is_ipc app || is_ipc to) (AllocatesAtTop (asked site app to want)) c.result w.tower w'.tower (λ x u u' e. at.allocates plan (asked site app to want) x u u' e) c.does

incoming : (plan : Plan) (label app : List ℕ) (w : Run) (site : Site) (says : Option Answer) (w' : Run) → CallsIncoming plan label app w site says w' → KeepsIn plan w w'
incoming plan label app w site says w' c = at.at_claim plan site.rank (is_ipc app) (ClaimsAtTop site.fac site.node app) c.result w.tower w'.tower (λ u u' e. at.claims plan site.fac site.node app c.result u u' e) c.does

sends : (plan : Plan) (bytes : List ℕ) (w : Run) (rank : ℕ) (port : Port) (says : Option Answer) (w' : Run) → CallsSend plan bytes w rank port says w' → KeepsIn plan w w'
sends plan bytes w rank port says w' c = at.at_app plan rank (λ u. is_ipc_at (seen_of u) port) (SendsAtTop port bytes) c.result w.tower w'.tower (λ x u u' e. at.sends plan port bytes x u u' e) c.does

frees : (plan : Plan) (w : Run) (rank : ℕ) (port : Port) (says : Option Answer) (w' : Run) → CallsFree w rank port says w' → KeepsIn plan w w'
frees plan w rank port says w' c = at.at_app plan rank (λ u. is_ipc_at (seen_of u) port) (FreesAtTop port) c.result w.tower w'.tower (λ x u u' e. at.frees plan port x u u' e) c.does

reading : (plan : Plan) (line : ℕ) (o : Option (ℕ × Port)) (w : Run) (ns : List Note) (w' : Run) → Reading line o w ns w' → KeepsIn plan w w'
reading plan line None w ns w' d = same plan w w' d.1
reading plan line (Some p) w ns w' d = at.passes plan p.0 p.1 w.tower d.entries w'.tower d.passes

-- ---- ticks

ticks : (plan : Plan) (line count : ℕ) (s : Stage) (ns : List Note) (s' : Stage) → Ticks plan line count s ns s' → KeepsIn plan s.run s'.run
ticks plan line zero s ns s' d = same plan s.run s'.run (ap (λ (v : Stage). v.run) d.1)
ticks plan line (suc count) s ns s' (mid, first, rest, once, others, is) =
    let ticked = at.tick plan (Ok tt) s.run.tower once.ticked once.ticks in
    let round = at.rounds_by plan plan.rounds s.shelf mid.shelf once.ticked mid.run.tower once.rounds in
    keeps_on plan s.run.tower mid.run.tower s'.run.tower (keeps_on plan s.run.tower once.ticked mid.run.tower ticked round) (ticks plan line count mid rest s' others)

ticking : (over : Bool) (plan : Plan) (line count : ℕ) (s : Stage) (ns : List Note) (s' : Stage) → Ticking over plan line count s ns s' → KeepsIn plan s.run s'.run
ticking true plan line count s ns s' d = same plan s.run s'.run (ap (λ (v : Stage). v.run) d.1)
ticking false plan line count s ns s' d = ticks plan line count s d.told s' d.ticks

-- ---- words of DIFs, and those that show

showing : (plan : Plan) (line : ℕ) (o : Option RankedFac) (w : Run) (ns : List Note) (w' : Run) → Showing plan line o w ns w' → KeepsIn plan w w'
showing plan line None w ns w' d = same plan w w' d.1
showing plan line (Some f) w ns w' d = same plan w w' d.run

accounting : (plan : Plan) (line : ℕ) (r : Result Site ℕ) (w : Run) (ns : List Note) (w' : Run) → Accounting plan line r w ns w' → KeepsIn plan w w'
accounting plan line (Err field) w ns w' d = same plan w w' d.1
accounting plan line (Ok site) w ns w' d = same plan w w' d.run

showing_rib : (plan : Plan) (line : ℕ) (path : Option (List ℕ)) (r : Result Site ℕ) (w : Run) (ns : List Note) (w' : Run) → ShowingRib line path r w ns w' → KeepsIn plan w w'
showing_rib plan line path (Err field) w ns w' d = same plan w w' d.1
showing_rib plan line path (Ok site) w ns w' d = same plan w w' d.run

takes_in : (plan : Plan) (link : ℕ) (w : Run) (site : Site) (says : Option Answer) (w' : Run) → CallsIn plan link w site says w' → KeepsIn plan w w'
takes_in plan link w site says w' c = at.at_rank plan site.rank (InStepsAtTop site.fac site.node (link_of link) c.result) (c.result ≡ Err NoIpc) w.tower w'.tower (at.ins plan site.fac site.node (link_of link) c.result) c.does

clocks : (plan : Plan) (w : Run) (site : Site) (says : Option Answer) (w' : Run) → CallsClock plan w site says w' → KeepsIn plan w w'
clocks plan w site says w' c = at.at_rank plan site.rank (ClocksAtTop site.fac site.node c.result) (c.result ≡ Err NoIpc) w.tower w'.tower (at.clocks plan site.fac site.node c.result) c.does

asking : (plan : Plan) (bytes : List ℕ) (w : Run) (site : Site) (says : Option Answer) (w' : Run) → CallsCdap bytes w site says w' → KeepsIn plan w w'
asking plan bytes w site says w' c = at.at_rank plan site.rank (AsksAtTop site.fac site.node bytes c.result) (c.result ≡ Err NoneThere) w.tower w'.tower (at.asks plan site.fac site.node bytes c.result) c.does

may_register : (plan : Plan) (fac node : ℕ) (u u' : Tower) → MayRegister fac node u u' → Keeps plan u u'
may_register plan fac node u u' (inl d) = keeps_same plan u u' d
may_register plan fac node u u' (inr (name, x, d)) = at.registers plan fac node name x u u' d

publishes : (plan : Plan) (w : Run) (site : Site) (fac : ℕ) (says : Option Answer) (w' : Run) → CallsPublish w site fac says w' → KeepsIn plan w w'
publishes plan w site fac says w' c =
    let k = published site.rank site.fac site.node fac c.result w.tower w'.tower c.does in
    at.at_rank plan k.rank (MayRegister fac site.node) ⊥ w.tower w'.tower (may_register plan fac site.node) k.done

enrols : (plan : Plan) (fac_name node_name : List ℕ) (w : Run) (site : Site) (fac peer : ℕ) (says : Option Answer) (w' : Run) → CallsEnrol fac_name node_name w site fac peer says w' → KeepsIn plan w w'
enrols plan fac_name node_name w site fac peer says w' c = at.at_rank plan site.rank (EnrolsAtTop site.fac site.node fac peer c.result) (c.result ≡ Err NoMember) w.tower w'.tower (at.enrols plan site.fac site.node fac peer c.result) c.does

letting : (plan : Plan) (r : Result Site ℕ) (link : ℕ) (s : Stage) (says : Option Answer) (s' : Stage) → LettingOut plan r link s says s' → KeepsIn plan s.run s'.run
letting plan (Err field) link s says s' d = same plan s.run s'.run (ap (λ (v : Stage). v.run) d.1)
letting plan (Ok site) link s says s' d = at.at_rank plan site.rank (OutStepsAtTop Anything s.shelf s'.shelf site.fac site.node (link_of link) d.result) ((d.result ≡ Err NoIpc) × (s'.shelf ≡ s.shelf)) s.run.tower s'.run.tower (at.outs plan Anything s.shelf s'.shelf site.fac site.node (link_of link) d.result) d.does

-- ---- all words

words : (plan : Plan) (line : ℕ) (event : Event) (w : Run) (ns : List Note) (w' : Run) → ActsOnRun plan line event w ns w' → KeepsIn plan w w'
words plan line (events.Register name node app) w ns w' d = at_site plan (site_at plan 1 name node) (CallsRegister app w) w d.says w' (λ site c. registers plan app w site d.says w' c) d.does
words plan line (events.Alloc label name node app to want) w ns w' d =
    at_site plan (site_at plan 2 name node) (λ site. Unlabelled (label_in w.labels label) (CallsAllocate plan label name node site.rank w (asked site app to want)) w) w d.says w' (λ site u.
    unlabelled plan (label_in w.labels label) (CallsAllocate plan label name node site.rank w (asked site app to want)) w d.says w' (λ c. allocates plan label name node app to want w site d.says w' c) u) d.does
words plan line (events.Accept label name node app) w ns w' d =
    at_site plan (site_at plan 2 name node) (λ site. Unlabelled (label_in w.labels label) (CallsIncoming plan label app w site) w) w d.says w' (λ site u.
    unlabelled plan (label_in w.labels label) (CallsIncoming plan label app w site) w d.says w' (λ c. incoming plan label app w site d.says w' c) u) d.does
words plan line (events.Send label bytes) w ns w' d = at_port plan (port_in w.labels label) (CallsSend plan bytes w) w d.says w' (λ p c. sends plan bytes w p.0 p.1 d.says w' c) d.does
words plan line (events.Read label) w ns w' d = reading plan line (port_in w.labels label) w ns w' d
words plan line (events.Lose wire frame) w ns w' d = at_wire plan (wire_of plan wire) (λ n r t t'. Loses n frame r t t') w d.says w' (λ n r c. at.at_wires plan (λ a a'. LosesOn a n frame r a') w.tower w'.tower c) d.does
words plan line (events.Repeat wire frame tick) w ns w' d = at_wire plan (wire_of plan wire) (λ n r t t'. Repeats n frame tick r t t') w d.says w' (λ n r c. at.at_wires plan (λ a a'. RepeatsOn a n frame tick r a') w.tower w'.tower c) d.does
words plan line (events.Hold wire frame tick) w ns w' d = at_wire plan (wire_of plan wire) (λ n r t t'. HoldsBack n frame tick r t t') w d.says w' (λ n r c. at.at_wires plan (λ a a'. HoldsOn a n frame tick r a') w.tower w'.tower c) d.does
words plan line (events.Cut wire) w ns w' d = at_wire plan (wire_of plan wire) (λ n r t t'. Cuts n r t t') w d.says w' (λ n r c. at.at_wires plan (λ a a'. CutsOn a n r a') w.tower w'.tower c) d.does
words plan line (events.Mend wire) w ns w' d = at_wire plan (wire_of plan wire) (λ n r t t'. Mends n r t t') w d.says w' (λ n r c. at.at_wires plan (λ a a'. MendsOn a n r a') w.tower w'.tower c) d.does
words plan line (events.Unregister name node app) w ns w' d = at_site plan (site_at plan 1 name node) (CallsUnregister app w) w d.says w' (λ site c. unregisters plan app w site d.says w' c) d.does
words plan line (events.Free label) w ns w' d = at_port plan (port_in w.labels label) (CallsFree w) w d.says w' (λ p c. frees plan w p.0 p.1 d.says w' c) d.does
words plan line (events.State label) w ns w' d = at_port plan (port_in w.labels label) (TellsState plan w) w d.says w' (λ p c. same plan w w' c.run) d.does
words plan line (events.Journal name) w ns w' d = showing plan line (fac_named plan name) w ns w' d
words plan line (events.In dif node link) w ns w' d = at_site plan (dif_site_at plan dif node) (CallsIn plan link w) w d.says w' (λ site c. takes_in plan link w site d.says w' c) d.does
words plan line (events.Clock dif node) w ns w' d = at_site plan (dif_site_at plan dif node) (CallsClock plan w) w d.says w' (λ site c. clocks plan w site d.says w' c) d.does
words plan line (events.Ledger dif node) w ns w' d = accounting plan line (dif_site_at plan dif node) w ns w' d
words plan line (events.Cdap dif node bytes) w ns w' d = at_site plan (dif_site_at plan dif node) (CallsCdap bytes w) w d.says w' (λ site c. asking plan bytes w site d.says w' c) d.does
words plan line (events.Rib dif node path) w ns w' d = showing_rib plan line path (dif_site_at plan dif node) w ns w' d
words plan line (events.Publish dif node fac) w ns w' d =
    at_site plan (dif_site_at plan dif node) (λ site. AtField 3 (number_below site.rank (fac_named plan fac)) (CallsPublish w site) w) w d.says w' (λ site u.
    at_field plan 3 (number_below site.rank (fac_named plan fac)) (CallsPublish w site) w d.says w' (λ n c. publishes plan w site n d.says w' c) u) d.does
words plan line (events.Enrol dif node fac peer) w ns w' d =
    let Call : Site → ℕ → ℕ → Option Answer → Run → Type 0 = CallsEnrol fac node w in
    at_site plan (dif_site_at plan dif node) (λ site. AtField 3 (number_below site.rank (fac_named plan fac)) (λ n. AtField 4 (place_in plan.nodes peer) (Call site n) w) w) w d.says w' (λ site u.
    at_field plan 3 (number_below site.rank (fac_named plan fac)) (λ n. AtField 4 (place_in plan.nodes peer) (Call site n) w) w d.says w' (λ n v.
    at_field plan 4 (place_in plan.nodes peer) (Call site n) w d.says w' (λ m c. enrols plan fac node w site n m d.says w' c) v) u) d.does
words plan line (events.Member dif node) w ns w' d = at_site plan (dif_site_at plan dif node) (TellsMember w) w d.says w' (λ site c. same plan w w' c.run) d.does
words plan line event w ns w' d = absurd d.does

pub acts : (plan : Plan) (line : ℕ) (event : Event) (s : Stage) (ns : List Note) (s' : Stage) → Acts plan line event s ns s' → Keeps plan s.run.tower s'.run.tower
acts plan line (events.Retire policy) s ns s' d = same plan s.run s'.run d.run
acts plan line (events.Tick count) s ns s' d = ticking (nat_lt 10000000 (now_of s.run.tower + count)) plan line count s ns s' d
acts plan line (events.Out dif node link) s ns s' d = letting plan (dif_site_at plan dif node) link s d.says s' d.does
acts plan line events.Round s ns s' d = at.round plan s.shelf s'.shelf s.run.tower s'.run.tower d.does
acts plan line event s ns s' d = words plan line event s.run ns s'.run d.0
