-- What holds of a DIF and comes to hold by no call of an application comes to hold by no word of a schedule, but by one that registers a name, or takes what came.
use Rattle.std.proofs.Common.{◌≡◌, ℕ, Bool, true, false, ◌||◌, List, [], ◌∷◌, Option, Some, None, Result, Ok, Err, ap}
use Rattle.rina_base.specs.declared.number.Port.{Port}
use Rattle.rina_law.specs.declared.entry.Entry.{Entry}
use Rattle.rina_data.specs.declared.step.StepError.TheVariants.{NoIpc}
use Rattle.rina_dif.specs.declared.cdap.CdapCallError.TheVariants.{NoIpc as NoneThere}
use Rattle.rina_dif.specs.declared.enrol.EnrolError.TheVariants.{NoIpc as NoMember}
use Rattle.rina_report.specs.declared.note.Note.{Note}
use Rattle.rina_report.specs.declared.answer.Answer.{Answer}
use Rattle.rina_schedule.specs.declared.event.Event.{Event}
use Rattle.rina_schedule.specs.declared.event.Event.TheVariants as events
use Rattle.rina_stack.specs.declared.plan.Plan.{Plan}
use Rattle.rina_stack.specs.Names.{place_in}
use Rattle.rina_wire.specs.declared.event.WireError.{WireError}
use Rattle.rina_wire.specs.Cut.{CutsOn, MendsOn}
use Rattle.rina_wire.specs.Disturb.{HoldsOn, LosesOn, RepeatsOn}
use Rattle.rina_tower.specs.declared.applications.AppError.{AppError}
use Rattle.rina_tower.specs.declared.applications.AppError.TheVariants.{NoRank, NotYours, Call}
use Rattle.rina_tower.specs.declared.publish.PublishError.TheVariants.{NoIpc as NoneToPublish}
use Rattle.rina_tower.specs.declared.tower.Tower.{Tower}
use Rattle.rina_tower.specs.Applications.{Answers, ClaimsFor, is_ipc_at}
use Rattle.rina_tower.specs.Bystanders.{is_ipc}
use Rattle.rina_tower.specs.Calls.{AllocatesAtTop, ClaimsAtTop, FreesAtTop, PassesAtTop, SendsAtTop, UnregistersAtTop}
use Rattle.rina_tower.specs.Cdap.{AsksAtTop}
use Rattle.rina_tower.specs.Enrolling.{EnrolsAtTop}
use Rattle.rina_tower.specs.Events.{Cuts, HoldsBack, Loses, Mends, Repeats}
use Rattle.rina_tower.specs.Levels.{AtRank}
use Rattle.rina_tower.specs.Publishing.{PublishesAtTop}
use Rattle.rina_tower.specs.Ranks.{seen_of}
use Rattle.rina_tower.specs.Rounds.{Anything}
use Rattle.rina_tower.specs.Stands.{IsTower}
use Rattle.rina_tower.specs.Steps.{ClocksAtTop, OutStepsAtTop}
use Rattle.rina_notes.specs.declared.facility.RankedFac.{RankedFac}
use Rattle.rina_notes.specs.declared.label.Label.{Label}
use Rattle.rina_notes.specs.declared.site.Site.{Site}
use Rattle.rina_notes.specs.Sites.{dif_site_at, fac_named, label_in, port_in, site_at}
use Rattle.rina_words.specs.declared.run.Run.{Run}
use Rattle.rina_words.specs.Step.{Accounting, ActsOnRun, AtField, AtPort, AtSite, AtWire, CallsAllocate, CallsCdap, CallsClock, CallsEnrol, CallsFree, CallsIncoming, CallsPublish, CallsSend, CallsUnregister, CallsWire, LettingOut, Passes, Reading, Showing, ShowingRib, Stage, TellsMember, TellsState, Unlabelled, asked, link_of, number_below, wire_of}
use Rattle.rina_laws.proofs.NamedCalls.{Stays, allocates, asks, claims, frees, passes, sends, unregisters}
use Rattle.rina_laws.proofs.NamedComes.{Comes, Fact, Never, at_rank, at_wires, comes_is, never_on}
use Rattle.rina_laws.proofs.NamedSteps.{IpcsStay, does_due, enrols, lets_out, publishes}
use Rattle.rina_laws.proofs.WrittenWords.{pass_valid}

-- a word that registers no name, and takes nothing that came
abbrev pub IsOther : Event → Type 0
IsOther (events.Register name node app) = ⊥
IsOther (events.Publish dif node fac) = ⊥
IsOther (events.In dif node link) = ⊥
IsOther event = Unit {0}

module _ (F : Fact) where
  -- a run after another, where it never comes to hold
  abbrev pub In : Run → Run → Type 0
  In w w' = Comes F Never w.tower w'.tower

  pub same : (w w' : Run) → w' ≡ w → In w w'
  same w w' is = comes_is F Never w.tower w'.tower (ap (λ (x : Run). x.tower) is)

  -- ---- where a word is refused before its call, nothing is done

  pub at_site : (r : Result Site ℕ) (Does : Site → Option Answer → Run → Type 0) (w : Run) (says : Option Answer) (w' : Run) → ((site : Site) → Does site says w' → In w w') → AtSite r Does w says w' → In w w'
  at_site (Err field) Does w says w' next d = same w w' d.run
  at_site (Ok site) Does w says w' next d = next site d

  unlabelled : (o : Option Label) (Does : Option Answer → Run → Type 0) (w : Run) (says : Option Answer) (w' : Run) → (Does says w' → In w w') → Unlabelled o Does w says w' → In w w'
  unlabelled (Some label) Does w says w' next d = same w w' d.run
  unlabelled None Does w says w' next d = next d

  at_port : (o : Option (ℕ × Port)) (Does : ℕ → Port → Option Answer → Run → Type 0) (w : Run) (says : Option Answer) (w' : Run) → ((p : ℕ × Port) → Does p.0 p.1 says w' → In w w') → AtPort o Does w says w' → In w w'
  at_port None Does w says w' next d = same w w' d.run
  at_port (Some p) Does w says w' next d = next p d

  at_wire : (o : Option ℕ) (Does : ℕ → Result (Unit {0}) WireError → Tower → Tower → Type 0) (w : Run) (says : Option Answer) (w' : Run) → ((n : ℕ) (r : Result (Unit {0}) WireError) → Does n r w.tower w'.tower → In w w') → AtWire o (λ n. CallsWire (Does n) w) w says w' → In w w'
  at_wire None Does w says w' next d = same w w' d.run
  at_wire (Some n) Does w says w' next d = next n d.result d.does

  pub at_field : (field : ℕ) (o : Option ℕ) (Does : ℕ → Option Answer → Run → Type 0) (w : Run) (says : Option Answer) (w' : Run) → ((n : ℕ) → Does n says w' → In w w') → AtField field o Does w says w' → In w w'
  at_field field None Does w says w' next d = same w w' d.run
  at_field field (Some n) Does w says w' next d = next n d

  showing : (plan : Plan) (line : ℕ) (o : Option RankedFac) (w : Run) (ns : List Note) (w' : Run) → Showing plan line o w ns w' → In w w'
  showing plan line None w ns w' d = same w w' d.1
  showing plan line (Some f) w ns w' d = same w w' d.run

  accounting : (plan : Plan) (line : ℕ) (r : Result Site ℕ) (w : Run) (ns : List Note) (w' : Run) → Accounting plan line r w ns w' → In w w'
  accounting plan line (Err field) w ns w' d = same w w' d.1
  accounting plan line (Ok site) w ns w' d = same w w' d.run

  showing_rib : (line : ℕ) (path : Option (List ℕ)) (r : Result Site ℕ) (w : Run) (ns : List Note) (w' : Run) → ShowingRib line path r w ns w' → In w w'
  showing_rib line path (Err field) w ns w' d = same w w' d.1
  showing_rib line path (Ok site) w ns w' d = same w w' d.run

  -- ---- calls of applications

  answers : {T E : Type 0} (ipc : Bool) (u u' : Tower) (call : Result T E → Type 0) (r : Result T (AppError E)) → ((x : Result T E) → call x → Comes F Never u u') → Answers ipc call (u' ≡ u) r → Comes F Never u u'
  answers ipc u u' call (Ok x) next d = next (Ok x) d.1
  answers ipc u u' call (Err (Call e)) next d = next (Err e) d.1
  answers ipc u u' call (Err NotYours) next d = comes_is F Never u u' d.1
  answers ipc u u' call (Err NoRank) next d = absurd d

  pub at_app : {T E : Type 0} (r : ℕ) (ipc : Tower → Bool) (call : Result T E → Tower → Tower → Type 0) (result : Result T (AppError E)) (t t' : Tower) → IsTower t → ((x : Result T E) (u u' : Tower) → IsTower u → call x u u' → Comes F Never u u') → AtRank r (λ u u'. Answers (ipc u) (λ x. call x u u') (u' ≡ u) result) (result ≡ Err NoRank) t t' → Comes F Never t t'
  at_app r ipc call result t t' v next d = at_rank F Never r (λ u u'. Answers (ipc u) (λ x. call x u u') (u' ≡ u) result) (result ≡ Err NoRank) t t' v (λ u u' h w e. answers (ipc u) u u' (λ x. call x u u') result (λ x c. next x u u' w c) e) d

  claims_for : (ipc : Bool) (u u' : Tower) (call : Option Port → Type 0) (r : Option Port) → (call r → Comes F Never u u') → ClaimsFor ipc call (u' ≡ u) r → Comes F Never u u'
  claims_for true u u' call r next d = comes_is F Never u u' d.1
  claims_for false u u' call r next d = next d

  at_claim : (r : ℕ) (ipc : Bool) (call : Option Port → Tower → Tower → Type 0) (result : Option Port) (t t' : Tower) → IsTower t → ((u u' : Tower) → call result u u' → Comes F Never u u') → AtRank r (λ u u'. ClaimsFor ipc (λ x. call x u u') (u' ≡ u) result) (result ≡ None) t t' → Comes F Never t t'
  at_claim r ipc call result t t' v next d = at_rank F Never r (λ u u'. ClaimsFor ipc (λ x. call x u u') (u' ≡ u) result) (result ≡ None) t t' v (λ u u' h w e. claims_for ipc u u' (λ x. call x u u') result (λ c. next u u' c) e) d

module _ (F : Fact) (k : Stays F) where
  passed : (rank : ℕ) (port : Port) (t : Tower) (xs : List Entry) (t' : Tower) → IsTower t → Passes rank port t xs t' → Comes F Never t t'
  passed rank port t [] t' v d = comes_is F Never t t' d
  passed rank port t (x ∷ xs) t' v (mid, waits, one, others) =
      never_on F t mid t' (at_rank F Never rank (PassesAtTop port) ⊥ t mid v (λ u u' h w c. passes F k port u u' c) one) (passed rank port mid xs t' (pass_valid rank port t mid x v waits one) others)

  reading : (line : ℕ) (o : Option (ℕ × Port)) (w : Run) (ns : List Note) (w' : Run) → IsTower w.tower → Reading line o w ns w' → In F w w'
  reading line None w ns w' v d = same F w w' d.1
  reading line (Some p) w ns w' v d = passed p.0 p.1 w.tower d.entries w'.tower v d.passes

  pub letting : (plan : Plan) (r : Result Site ℕ) (link : ℕ) (s : Stage) (says : Option Answer) (s' : Stage) → IsTower s.run.tower → LettingOut plan r link s says s' → In F s.run s'.run
  letting plan (Err field) link s says s' v d = same F s.run s'.run (ap (λ (x : Stage). x.run) d.1)
  letting plan (Ok site) link s says s' v d =
      at_rank F Never site.rank (OutStepsAtTop Anything s.shelf s'.shelf site.fac site.node (link_of link) d.result) ((d.result ≡ Err NoIpc) × (s'.shelf ≡ s.shelf)) s.run.tower s'.run.tower v (λ u u' h w c. lets_out F k s.shelf s'.shelf site.fac site.node (link_of link) d.result u u' c) d.does

  pub words : (plan : Plan) (line : ℕ) (event : Event) (w : Run) (ns : List Note) (w' : Run) → IsTower w.tower → IsOther event → ActsOnRun plan line event w ns w' → In F w w'
  words plan line (events.Register name node app) w ns w' v o d = absurd o
  words plan line (events.Publish dif node fac) w ns w' v o d = absurd o
  words plan line (events.In dif node link) w ns w' v o d = absurd o
  words plan line (events.Free label) w ns w' v o d = at_port F (port_in w.labels label) (CallsFree w) w d.says w' (λ p c. at_app F p.0 (λ u. is_ipc_at (seen_of u) p.1) (FreesAtTop p.1) c.result w.tower w'.tower v (λ x u u' z e. frees F k p.1 x u u' e) c.does) d.does
  words plan line (events.Clock dif node) w ns w' v o d =
      at_site F (dif_site_at plan dif node) (CallsClock plan w) w d.says w' (λ site c. at_rank F Never site.rank (ClocksAtTop site.fac site.node c.result) (c.result ≡ Err NoIpc) w.tower w'.tower v (λ u u' h z e. does_due F k site.fac site.node c.result u u' e) c.does) d.does
  words plan line (events.Unregister name node app) w ns w' v o d =
      at_site F (site_at plan 1 name node) (CallsUnregister app w) w d.says w' (λ site c. at_app F site.rank (λ u. is_ipc app) (UnregistersAtTop site.fac site.node app) c.result w.tower w'.tower v (λ x u u' z e. unregisters F k site.fac site.node app x u u' e) c.does) d.does
  words plan line (events.Alloc label name node app to want) w ns w' v o d =
      at_site F (site_at plan 2 name node) (λ site. Unlabelled (label_in w.labels label) (CallsAllocate plan label name node site.rank w (asked site app to want)) w) w d.says w' (λ site u.
      unlabelled F (label_in w.labels label) (CallsAllocate plan label name node site.rank w (asked site app to want)) w d.says w' (λ c.
      at_app F site.rank (λ z. is_ipc app || is_ipc to) (AllocatesAtTop (asked site app to want)) c.result w.tower w'.tower v (λ x y y' z e. allocates F k (asked site app to want) x y y' z e) c.does) u) d.does
  words plan line (events.Accept label name node app) w ns w' v o d =
      at_site F (site_at plan 2 name node) (λ site. Unlabelled (label_in w.labels label) (CallsIncoming plan label app w site) w) w d.says w' (λ site u.
      unlabelled F (label_in w.labels label) (CallsIncoming plan label app w site) w d.says w' (λ c.
      at_claim F site.rank (is_ipc app) (ClaimsAtTop site.fac site.node app) c.result w.tower w'.tower v (λ y y' e. claims F k site.fac site.node app c.result y y' e) c.does) u) d.does
  words plan line (events.Send label bytes) w ns w' v o d = at_port F (port_in w.labels label) (CallsSend plan bytes w) w d.says w' (λ p c. at_app F p.0 (λ u. is_ipc_at (seen_of u) p.1) (SendsAtTop p.1 bytes) c.result w.tower w'.tower v (λ x u u' z e. sends F k p.1 bytes x u u' e) c.does) d.does
  words plan line (events.Read label) w ns w' v o d = reading line (port_in w.labels label) w ns w' v d
  words plan line (events.State label) w ns w' v o d = at_port F (port_in w.labels label) (TellsState plan w) w d.says w' (λ p c. same F w w' c.run) d.does
  words plan line (events.Lose wire frame) w ns w' v o d = at_wire F (wire_of plan wire) (λ n r t t'. Loses n frame r t t') w d.says w' (λ n r c. at_wires F (λ a a'. LosesOn a n frame r a') w.tower w'.tower c) d.does
  words plan line (events.Repeat wire frame tick) w ns w' v o d = at_wire F (wire_of plan wire) (λ n r t t'. Repeats n frame tick r t t') w d.says w' (λ n r c. at_wires F (λ a a'. RepeatsOn a n frame tick r a') w.tower w'.tower c) d.does
  words plan line (events.Hold wire frame tick) w ns w' v o d = at_wire F (wire_of plan wire) (λ n r t t'. HoldsBack n frame tick r t t') w d.says w' (λ n r c. at_wires F (λ a a'. HoldsOn a n frame tick r a') w.tower w'.tower c) d.does
  words plan line (events.Cut wire) w ns w' v o d = at_wire F (wire_of plan wire) (λ n r t t'. Cuts n r t t') w d.says w' (λ n r c. at_wires F (λ a a'. CutsOn a n r a') w.tower w'.tower c) d.does
  words plan line (events.Mend wire) w ns w' v o d = at_wire F (wire_of plan wire) (λ n r t t'. Mends n r t t') w d.says w' (λ n r c. at_wires F (λ a a'. MendsOn a n r a') w.tower w'.tower c) d.does
  words plan line (events.Journal name) w ns w' v o d = showing F plan line (fac_named plan name) w ns w' d
  words plan line (events.Ledger dif node) w ns w' v o d = accounting F plan line (dif_site_at plan dif node) w ns w' d
  words plan line (events.Rib dif node path) w ns w' v o d = showing_rib F line path (dif_site_at plan dif node) w ns w' d
  words plan line (events.Cdap dif node bytes) w ns w' v o d =
      at_site F (dif_site_at plan dif node) (CallsCdap bytes w) w d.says w' (λ site c. at_rank F Never site.rank (AsksAtTop site.fac site.node bytes c.result) (c.result ≡ Err NoneThere) w.tower w'.tower v (λ u u' h z e. asks F k site.fac site.node bytes c.result u u' e) c.does) d.does
  words plan line (events.Enrol dif node fac peer) w ns w' v o d =
      let Does : Site → ℕ → ℕ → Option Answer → Run → Type 0 = CallsEnrol fac node w in
      at_site F (dif_site_at plan dif node) (λ site. AtField 3 (number_below site.rank (fac_named plan fac)) (λ n. AtField 4 (place_in plan.nodes peer) (Does site n) w) w) w d.says w' (λ site u.
      at_field F 3 (number_below site.rank (fac_named plan fac)) (λ n. AtField 4 (place_in plan.nodes peer) (Does site n) w) w d.says w' (λ n s.
      at_field F 4 (place_in plan.nodes peer) (Does site n) w d.says w' (λ m c.
      at_rank F Never site.rank (EnrolsAtTop site.fac site.node n m c.result) (c.result ≡ Err NoMember) w.tower w'.tower v (λ y y' h z e. enrols F k site.fac site.node n m c.result y y' z e) c.does) s) u) d.does
  words plan line (events.Member dif node) w ns w' v o d = at_site F (dif_site_at plan dif node) (TellsMember w) w d.says w' (λ site c. same F w w' c.run) d.does
  words plan line event w ns w' v o d = absurd d.does

-- an IPC process is published, where its name is nothing to what holds
pub publishing : (F : Fact) (plan : Plan) (dif node fac : List ℕ) (w : Run) (says : Option Answer) (w' : Run) → ((n place : ℕ) → IpcsStay F n place) → IsTower w.tower → AtSite (dif_site_at plan dif node) (λ site. AtField 3 (number_below site.rank (fac_named plan fac)) (CallsPublish w site) w) w says w' → In F w w'
publishing F plan dif node fac w says w' regs v d =
    at_site F (dif_site_at plan dif node) (λ site. AtField 3 (number_below site.rank (fac_named plan fac)) (CallsPublish w site) w) w says w' (λ site u.
    at_field F 3 (number_below site.rank (fac_named plan fac)) (CallsPublish w site) w says w' (λ n c.
    at_rank F Never site.rank (PublishesAtTop site.fac site.node n c.result) (c.result ≡ Err NoneToPublish) w.tower w'.tower v (λ y y' h z e. publishes F n site.node (regs n site.node) site.fac c.result y y' z e) c.does) u) d
