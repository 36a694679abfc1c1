-- What each call and each step of a DIF keeps, each word of a schedule keeps of the DIFs of the tower.
use Rattle.std.proofs.Common.{◌≡◌, ◌∙◌, ℕ, ◌+◌, zero, suc, nat_lt, Bool, true, false, ◌||◌, List, [], ◌∷◌, slice_get, Option, Some, None, Result, Ok, Err, refl, sym, ap, subst, arith, ◌≤◌}
use Rattle.rina_base.specs.declared.number.Port.{Port}
use Rattle.rina_law.specs.declared.entry.Entry.{Entry}
use Rattle.rina_policy.specs.Slots.{Slot}
use Rattle.rina_data.specs.declared.step.StepError.TheVariants.{NoIpc}
use Rattle.rina_dif.specs.declared.cdap.CdapCallError.TheVariants.{NoIpc as NoneThere}
use Rattle.rina_dif.specs.declared.dif.Dif.{Dif}
use Rattle.rina_dif.specs.declared.enrol.EnrolError.TheVariants.{NoIpc as NoMember}
use Rattle.rina_report.specs.declared.note.Note.{Note}
use Rattle.rina_iface.specs.declared.error.RegisterError.{RegisterError}
use Rattle.rina_report.specs.declared.answer.Answer.{Answer}
use Rattle.rina_report.specs.declared.answer.Answer.TheVariants.{Done}
use Rattle.rina_schedule.specs.declared.error.LineError.{LineError}
use Rattle.rina_schedule.specs.declared.event.Event.{Event}
use Rattle.rina_schedule.specs.declared.event.Event.TheVariants as events
use Rattle.rina_stack.specs.declared.plan.Plan.{Plan}
use Rattle.rina_stack.specs.Names.{place_in}
use Rattle.rina_table.specs.declared.sketch.Rounds.{Rounds}
use Rattle.rina_table.specs.declared.sketch.Rounds.TheVariants.{Auto, Manual}
use Rattle.rina_wire.specs.declared.event.WireError.{WireError}
use Rattle.rina_wire.specs.Cut.{CutsOn, MendsOn}
use Rattle.rina_wire.specs.Disturb.{HoldsOn, LosesOn, RepeatsOn}
use Rattle.rina_tower.specs.declared.applications.AppError.{AppError}
use Rattle.rina_tower.specs.declared.applications.AppError.TheVariants.{NoRank, NotYours, Call}
use Rattle.rina_tower.specs.declared.publish.PublishError.{PublishError}
use Rattle.rina_tower.specs.declared.publish.PublishError.TheVariants.{NoIpc as NoneToPublish, Lower}
use Rattle.rina_tower.specs.declared.tower.Tower.{Tower, Wires, Rank'}
use Rattle.rina_tower.specs.Applications.{Answers, ClaimsFor, is_ipc_at}
use Rattle.rina_tower.specs.Bystanders.{IsIpc, is_ipc}
use Rattle.rina_tower.specs.Calls.{AllocatesAtTop, ClaimsAtTop, FreesAtTop, PassesAtTop, RegistersAtTop, SendsAtTop, UnregistersAtTop}
use Rattle.rina_tower.specs.Cdap.{AsksAtTop}
use Rattle.rina_tower.specs.Enrolling.{EnrolsAtTop}
use Rattle.rina_tower.specs.Events.{Cuts, HoldsBack, Loses, Mends, Repeats}
use Rattle.rina_tower.specs.Levels.{AtRank}
use Rattle.rina_tower.specs.Publishing.{PublishesAtTop, RegistersIpc, ipc_name_at}
use Rattle.rina_tower.specs.Ranks.{height_of, now_of, seen_of}
use Rattle.rina_tower.specs.Rounds.{Anything}
use Rattle.rina_tower.specs.Stands.{IsTower}
use Rattle.rina_tower.specs.Steps.{ClocksAtTop, InStepsAtTop, OutStepsAtTop}
use Rattle.rina_notes.specs.declared.facility.RankedFac.{RankedFac}
use Rattle.rina_notes.specs.declared.label.Label.{Label}
use Rattle.rina_notes.specs.declared.site.Site.{Site}
use Rattle.rina_notes.specs.Look.{noted}
use Rattle.rina_notes.specs.Sites.{dif_site_at, fac_named, label_in, port_in, site_at}
use Rattle.rina_notes.specs.Told.{answer_told, app_told, register_told}
use Rattle.rina_words.specs.declared.run.Run.{Run}
use Rattle.rina_words.specs.Step.{Accounting, Acts, ActsOnRun, AtField, AtPort, AtSite, AtWire, CallsAllocate, CallsCdap, CallsClock, CallsEnrol, CallsFree, CallsIn, CallsIncoming, CallsPublish, CallsRegister, CallsSend, CallsUnregister, CallsWire, LettingOut, Passes, Reading, RoundsBy, Showing, ShowingRib, Stage, TellsMember, TellsState, Ticking, Ticks, Unlabelled, asked, link_of, number_below, wire_of}
use Rattle.rina_laws.proofs.KeptDifs.{Each, IsKept, Keeps, Registering, allocates, asks, at_rank, at_wires, both, claims, frees, keeps_is, keeps_on, no_difs, passes, registers, sends, unregisters}
use Rattle.rina_laws.proofs.KeptSteps.{Sure, does_due, enrols, lets_out, round, sure_is, sure_on, takes, ticks}
use Rattle.rina_laws.proofs.NamedRun.{IsHere, clock_goes, here_told}
use Rattle.rina_laws.proofs.NamedSteps.{name_ipc}
use Rattle.rina_laws.proofs.WrittenGrows.{Never}
use Rattle.rina_laws.proofs.WrittenSteps as stepped
use Rattle.rina_laws.proofs.WrittenWords as written
use Rattle.rina_laws.proofs.WrittenWords.{lets, pass_valid}

module _ (P : ℕ → ℕ → Dif → Type 0) where
  -- a run after another
  abbrev In : Run → Run → Type 0
  In w w' = Keeps P w.tower w'.tower

  same : (w w' : Run) → w' ≡ w → In w w'
  same w w' is = keeps_is P w.tower w'.tower (ap (λ (x : Run). x.tower) is)

  -- ---- where a word is refused before its call, nothing is done

  at_site : (r : Result Site ℕ) (Does : Site → Option Answer → Run → Type 0) (w : Run) (says : Option Answer) (w' : Run) → ((site : Site) → Does site says w' → In w w') → AtSite r Does w says w' → In w w'
  at_site (Err field) Does w says w' next d = same w w' d.run
  at_site (Ok site) Does w says w' next d = next site d

  unlabelled : (o : Option Label) (Does : Option Answer → Run → Type 0) (w : Run) (says : Option Answer) (w' : Run) → (Does says w' → In w w') → Unlabelled o Does w says w' → In w w'
  unlabelled (Some label) Does w says w' next d = same w w' d.run
  unlabelled None Does w says w' next d = next d

  at_port : (o : Option (ℕ × Port)) (Does : ℕ → Port → Option Answer → Run → Type 0) (w : Run) (says : Option Answer) (w' : Run) → ((p : ℕ × Port) → Does p.0 p.1 says w' → In w w') → AtPort o Does w says w' → In w w'
  at_port None Does w says w' next d = same w w' d.run
  at_port (Some p) Does w says w' next d = next p d

  at_wire : (o : Option ℕ) (Does : ℕ → Result (Unit {0}) WireError → Tower → Tower → Type 0) (w : Run) (says : Option Answer) (w' : Run) → ((n : ℕ) (r : Result (Unit {0}) WireError) → Does n r w.tower w'.tower → In w w') → AtWire o (λ n. CallsWire (Does n) w) w says w' → In w w'
  at_wire None Does w says w' next d = same w w' d.run
  at_wire (Some n) Does w says w' next d = next n d.result d.does

  at_field : (field : ℕ) (o : Option ℕ) (Does : ℕ → Option Answer → Run → Type 0) (w : Run) (says : Option Answer) (w' : Run) → ((n : ℕ) → Does n says w' → In w w') → AtField field o Does w says w' → In w w'
  at_field field None Does w says w' next d = same w w' d.run
  at_field field (Some n) Does w says w' next d = next n d

  showing : (plan : Plan) (line : ℕ) (o : Option RankedFac) (w : Run) (ns : List Note) (w' : Run) → Showing plan line o w ns w' → In w w'
  showing plan line None w ns w' d = same w w' d.1
  showing plan line (Some f) w ns w' d = same w w' d.run

  accounting : (plan : Plan) (line : ℕ) (r : Result Site ℕ) (w : Run) (ns : List Note) (w' : Run) → Accounting plan line r w ns w' → In w w'
  accounting plan line (Err field) w ns w' d = same w w' d.1
  accounting plan line (Ok site) w ns w' d = same w w' d.run

  showing_rib : (line : ℕ) (path : Option (List ℕ)) (r : Result Site ℕ) (w : Run) (ns : List Note) (w' : Run) → ShowingRib line path r w ns w' → In w w'
  showing_rib line path (Err field) w ns w' d = same w w' d.1
  showing_rib line path (Ok site) w ns w' d = same w w' d.run

  -- ---- calls of applications

  answers : {T E : Type 0} (ipc : Bool) (u u' : Tower) (call : Result T E → Type 0) (r : Result T (AppError E)) → ((x : Result T E) → call x → Keeps P u u') → Answers ipc call (u' ≡ u) r → Keeps P u u'
  answers ipc u u' call (Ok x) next d = next (Ok x) d.1
  answers ipc u u' call (Err (Call e)) next d = next (Err e) d.1
  answers ipc u u' call (Err NotYours) next d = keeps_is P u u' d.1
  answers ipc u u' call (Err NoRank) next d = absurd d

  at_app : {T E : Type 0} (r : ℕ) (ipc : Tower → Bool) (call : Result T E → Tower → Tower → Type 0) (result : Result T (AppError E)) (t t' : Tower) → IsTower t → ((x : Result T E) (u u' : Tower) → IsTower u → call x u u' → Keeps P u u') → AtRank r (λ u u'. Answers (ipc u) (λ x. call x u u') (u' ≡ u) result) (result ≡ Err NoRank) t t' → Keeps P t t'
  at_app r ipc call result t t' v next d = at_rank P r (λ u u'. Answers (ipc u) (λ x. call x u u') (u' ≡ u) result) (result ≡ Err NoRank) t t' v (λ u u' high now w e. answers (ipc u) u u' (λ x. call x u u') result (λ x c. next x u u' w c) e) d

  claims_for : (ipc : Bool) (u u' : Tower) (call : Option Port → Type 0) (r : Option Port) → (call r → Keeps P u u') → ClaimsFor ipc call (u' ≡ u) r → Keeps P u u'
  claims_for true u u' call r next d = keeps_is P u u' d.1
  claims_for false u u' call r next d = next d

  at_claim : (r : ℕ) (ipc : Bool) (call : Option Port → Tower → Tower → Type 0) (result : Option Port) (t t' : Tower) → IsTower t → ((u u' : Tower) → call result u u' → Keeps P u u') → AtRank r (λ u u'. ClaimsFor ipc (λ x. call x u u') (u' ≡ u) result) (result ≡ None) t t' → Keeps P t t'
  at_claim r ipc call result t t' v next d = at_rank P r (λ u u'. ClaimsFor ipc (λ x. call x u u') (u' ≡ u) result) (result ≡ None) t t' v (λ u u' high now w e. claims_for ipc u u' (λ x. call x u u') result (λ c. next u u' c) e) d

-- a name that is not registered changes nothing, and the name of an IPC process is no matter
pub record IsOpen (P : Dif → Type 0) : Type 0 where
  pub refused : (node : ℕ) (app : List ℕ) (e : RegisterError) → Registering P 0 node app (Err e)
  pub ipcs : (node : ℕ) (app : List ℕ) (done : Unit {0}) → IsIpc app → Registering P 0 node app (Ok done)

-- what a line of this number registers, where it asks for this and its `ok` is told with a tick of at most this, keeps it from that tick on
abbrev pub HereKeeps : (ℕ → ℕ → Dif → Type 0) → (plan : Plan) (number : ℕ) (asked : Result (Option Event) LineError) (ns : List Note) → Type 0
HereKeeps P plan number asked ns = (r n node : ℕ) (app : List ℕ) (done : Unit {0}) (tick : ℕ) → IsHere plan r n node app number asked ns tick → Registering (P r n) tick node app (Ok done)

module _ (P : ℕ → ℕ → Dif → Type 0) (k : (r n : ℕ) → IsKept (P r n)) (open_to : (r n : ℕ) → IsOpen (P r n)) where
  passed : (rank : ℕ) (port : Port) (t : Tower) (xs : List Entry) (t' : Tower) → IsTower t → Passes rank port t xs t' → Keeps P t t'
  passed rank port t [] t' v d = keeps_is P t t' d
  passed rank port t (x ∷ xs) t' v (mid, waits, one, others) =
      keeps_on P t mid t' (at_rank P rank (PassesAtTop port) ⊥ t mid v (λ u u' high now w c. passes P k port u u' w c) one) (passed rank port mid xs t' (pass_valid rank port t mid x v waits one) others)

  reading : (line : ℕ) (o : Option (ℕ × Port)) (w : Run) (ns : List Note) (w' : Run) → IsTower w.tower → Reading line o w ns w' → In P w w'
  reading line None w ns w' v d = same P w w' d.1
  reading line (Some p) w ns w' v d = passed p.0 p.1 w.tower d.entries w'.tower v d.passes

  -- a name is registered, or not

  app_registers : (tick fac node : ℕ) (name : List ℕ) (x : Result (Unit {0}) (AppError RegisterError)) (u u' : Tower) → IsTower u → tick ≤ now_of u → ((done : Unit {0}) → x ≡ Ok done → Registering (P (height_of u) fac) tick node name (Ok done)) → Answers (is_ipc name) (λ y. RegistersAtTop fac node name y u u') (u' ≡ u) x → Keeps P u u'
  app_registers tick fac node name (Ok done) u u' v le may d = registers P k tick fac node name (Ok done) u u' v le (may done refl) d.1
  app_registers tick fac node name (Err (Call e)) u u' v le may d = registers P k 0 fac node name (Err e) u u' v (omega arith) ((open_to (height_of u) fac).refused node name e) d.1
  app_registers tick fac node name (Err NotYours) u u' v le may d = keeps_is P u u' d.1
  app_registers tick fac node name (Err NoRank) u u' v le may d = absurd d

  registering : (plan : Plan) (line : ℕ) (dif_name node_name name : List ℕ) (found : Result Site ℕ) (w : Run) (says : Option Answer) (ns : List Note) (w' : Run) → IsTower w.tower → now_of w'.tower ≡ now_of w.tower → site_at plan 1 dif_name node_name ≡ found → ns ≡ noted line (now_of w'.tower) says → HereKeeps P plan line (Ok (Some (events.Register dif_name node_name name))) ns → AtSite found (CallsRegister name w) w says w' → In P w w'
  registering plan line dif_name node_name name (Err field) w says ns w' v still is notes may d = same P w w' d.run
  registering plan line dif_name node_name name (Ok site) w says ns w' v still is notes may d =
      let tick = now_of w'.tower in
      at_rank P site.rank (λ u u'. Answers (is_ipc name) (λ x. RegistersAtTop site.fac site.node name x u u') (u' ≡ u) d.result) (d.result ≡ Err NoRank) w.tower w'.tower v (λ u u' high now z e.
      app_registers tick site.fac site.node name d.result u u' z (omega (arith, now, still)) (λ done ok. subst (λ (h : ℕ). Registering (P h site.fac) tick site.node name (Ok done)) (sym high) (may site.rank site.fac site.node name done tick
      (here_told site.rank site.fac site.node name plan line name dif_name node_name says ns tick (record { site = is; app_is = refl; done = d.told ∙ ap (answer_told (λ (u : Unit {0}). Some Done) (app_told register_told)) ok }) notes))) e) d.does

  -- an IPC process is published

  registers_ipc : (o : Option (List ℕ)) (fac node : ℕ) (x : Result (Unit {0}) PublishError) (b b' : Tower) → IsTower b → ((name : List ℕ) → o ≡ Some name → IsIpc name) → RegistersIpc o fac node x b b' → Keeps P b b'
  registers_ipc None fac node x b b' v ipc d = keeps_is P b b' d.1
  registers_ipc (Some name) fac node (Ok done) b b' v ipc d = registers P k 0 fac node name (Ok done) b b' v (omega arith) ((open_to (height_of b) fac).ipcs node name done (ipc name refl)) d
  registers_ipc (Some name) fac node (Err (Lower e)) b b' v ipc d = registers P k 0 fac node name (Err e) b b' v (omega arith) ((open_to (height_of b) fac).refused node name e) d
  registers_ipc (Some name) fac node (Err NoneToPublish) b b' v ipc d = absurd d

  publishes : (dif node fac : ℕ) (x : Result (Unit {0}) PublishError) (u u' : Tower) → IsTower u → PublishesAtTop dif node fac x u u' → Keeps P u u'
  publishes dif node fac x (Wires a) (Wires a') v d = no_difs P a a'
  publishes dif node fac x (Rank' p difs below) (Rank' p' difs' below') v d =
      both P p p' difs difs' below below' (λ e. subst (Each (P (height_of below + 1))) (sym d.0) e) (registers_ipc (ipc_name_at difs dif node) fac node x below below' v.1 (λ name is. name_ipc node p difs below dif (slice_get difs dif) name v refl is) d.1)
  publishes dif node fac x (Wires a) (Rank' p difs below) v d = absurd d
  publishes dif node fac x (Rank' p difs below) (Wires a) v d = absurd d

  letting : (plan : Plan) (r : Result Site ℕ) (link : ℕ) (s : Stage) (says : Option Answer) (s' : Stage) → IsTower s.run.tower → LettingOut plan r link s says s' → In P s.run s'.run
  letting plan (Err field) link s says s' v d = same P s.run s'.run (ap (λ (x : Stage). x.run) d.1)
  letting plan (Ok site) link s says s' v d =
      at_rank P site.rank (OutStepsAtTop Anything s.shelf s'.shelf site.fac site.node (link_of link) d.result) ((d.result ≡ Err NoIpc) × (s'.shelf ≡ s.shelf)) s.run.tower s'.run.tower v (λ u u' high now w c. lets_out P k s.shelf s'.shelf site.fac site.node (link_of link) d.result u u' w c) d.does

  words : (plan : Plan) (line : ℕ) (event : Event) (w : Run) (ns : List Note) (w' : Run) → IsTower w.tower → now_of w'.tower ≡ now_of w.tower → HereKeeps P plan line (Ok (Some event)) ns → ActsOnRun plan line event w ns w' → In P w w'
  words plan line (events.Register name node app) w ns w' v still may d = registering plan line name node app (site_at plan 1 name node) w d.says ns w' v still refl d.notes may d.does
  words plan line (events.Unregister name node app) w ns w' v still may d =
      at_site P (site_at plan 1 name node) (CallsUnregister app w) w d.says w' (λ site c. at_app P site.rank (λ u. is_ipc app) (UnregistersAtTop site.fac site.node app) c.result w.tower w'.tower v (λ x u u' z e. unregisters P k site.fac site.node app x u u' e) c.does) d.does
  words plan line (events.Alloc label name node app to want) w ns w' v still may d =
      at_site P (site_at plan 2 name node) (λ site. Unlabelled (label_in w.labels label) (CallsAllocate plan label name node site.rank w (asked site app to want)) w) w d.says w' (λ site u.
      unlabelled P (label_in w.labels label) (CallsAllocate plan label name node site.rank w (asked site app to want)) w d.says w' (λ c.
      at_app P site.rank (λ z. is_ipc app || is_ipc to) (AllocatesAtTop (asked site app to want)) c.result w.tower w'.tower v (λ x y y' z e. allocates P k (asked site app to want) x y y' z e) c.does) u) d.does
  words plan line (events.Accept label name node app) w ns w' v still may d =
      at_site P (site_at plan 2 name node) (λ site. Unlabelled (label_in w.labels label) (CallsIncoming plan label app w site) w) w d.says w' (λ site u.
      unlabelled P (label_in w.labels label) (CallsIncoming plan label app w site) w d.says w' (λ c.
      at_claim P site.rank (is_ipc app) (ClaimsAtTop site.fac site.node app) c.result w.tower w'.tower v (λ y y' e. claims P k site.fac site.node app c.result y y' e) c.does) u) d.does
  words plan line (events.Send label bytes) w ns w' v still may d = at_port P (port_in w.labels label) (CallsSend plan bytes w) w d.says w' (λ p c. at_app P p.0 (λ u. is_ipc_at (seen_of u) p.1) (SendsAtTop p.1 bytes) c.result w.tower w'.tower v (λ x u u' z e. sends P k p.1 bytes x u u' z e) c.does) d.does
  words plan line (events.Free label) w ns w' v still may d = at_port P (port_in w.labels label) (CallsFree w) w d.says w' (λ p c. at_app P p.0 (λ u. is_ipc_at (seen_of u) p.1) (FreesAtTop p.1) c.result w.tower w'.tower v (λ x u u' z e. frees P k p.1 x u u' z e) c.does) d.does
  words plan line (events.Read label) w ns w' v still may d = reading line (port_in w.labels label) w ns w' v d
  words plan line (events.State label) w ns w' v still may d = at_port P (port_in w.labels label) (TellsState plan w) w d.says w' (λ p c. same P w w' c.run) d.does
  words plan line (events.Lose wire frame) w ns w' v still may d = at_wire P (wire_of plan wire) (λ n r t t'. Loses n frame r t t') w d.says w' (λ n r c. at_wires P (λ a a'. LosesOn a n frame r a') w.tower w'.tower c) d.does
  words plan line (events.Repeat wire frame tick) w ns w' v still may d = at_wire P (wire_of plan wire) (λ n r t t'. Repeats n frame tick r t t') w d.says w' (λ n r c. at_wires P (λ a a'. RepeatsOn a n frame tick r a') w.tower w'.tower c) d.does
  words plan line (events.Hold wire frame tick) w ns w' v still may d = at_wire P (wire_of plan wire) (λ n r t t'. HoldsBack n frame tick r t t') w d.says w' (λ n r c. at_wires P (λ a a'. HoldsOn a n frame tick r a') w.tower w'.tower c) d.does
  words plan line (events.Cut wire) w ns w' v still may d = at_wire P (wire_of plan wire) (λ n r t t'. Cuts n r t t') w d.says w' (λ n r c. at_wires P (λ a a'. CutsOn a n r a') w.tower w'.tower c) d.does
  words plan line (events.Mend wire) w ns w' v still may d = at_wire P (wire_of plan wire) (λ n r t t'. Mends n r t t') w d.says w' (λ n r c. at_wires P (λ a a'. MendsOn a n r a') w.tower w'.tower c) d.does
  words plan line (events.Journal name) w ns w' v still may d = showing P plan line (fac_named plan name) w ns w' d
  words plan line (events.Ledger dif node) w ns w' v still may d = accounting P plan line (dif_site_at plan dif node) w ns w' d
  words plan line (events.Rib dif node path) w ns w' v still may d = showing_rib P line path (dif_site_at plan dif node) w ns w' d
  words plan line (events.In dif node link) w ns w' v still may d =
      at_site P (dif_site_at plan dif node) (CallsIn plan link w) w d.says w' (λ site c. at_rank P site.rank (InStepsAtTop site.fac site.node (link_of link) c.result) (c.result ≡ Err NoIpc) w.tower w'.tower v (λ u u' high now z e. takes P k site.fac site.node (link_of link) c.result u u' z e) c.does) d.does
  words plan line (events.Clock dif node) w ns w' v still may d =
      at_site P (dif_site_at plan dif node) (CallsClock plan w) w d.says w' (λ site c. at_rank P site.rank (ClocksAtTop site.fac site.node c.result) (c.result ≡ Err NoIpc) w.tower w'.tower v (λ u u' high now z e. does_due P k site.fac site.node c.result u u' z e) c.does) d.does
  words plan line (events.Cdap dif node bytes) w ns w' v still may d =
      at_site P (dif_site_at plan dif node) (CallsCdap bytes w) w d.says w' (λ site c. at_rank P site.rank (AsksAtTop site.fac site.node bytes c.result) (c.result ≡ Err NoneThere) w.tower w'.tower v (λ u u' high now z e. asks P k site.fac site.node bytes c.result u u' e) c.does) d.does
  words plan line (events.Publish dif node fac) w ns w' v still may d =
      at_site P (dif_site_at plan dif node) (λ site. AtField 3 (number_below site.rank (fac_named plan fac)) (CallsPublish w site) w) w d.says w' (λ site u.
      at_field P 3 (number_below site.rank (fac_named plan fac)) (CallsPublish w site) w d.says w' (λ n c.
      at_rank P site.rank (PublishesAtTop site.fac site.node n c.result) (c.result ≡ Err NoneToPublish) w.tower w'.tower v (λ y y' high now z e. publishes site.fac site.node n c.result y y' z e) c.does) u) d.does
  words plan line (events.Enrol dif node fac peer) w ns w' v still may d =
      let Does : Site → ℕ → ℕ → Option Answer → Run → Type 0 = CallsEnrol fac node w in
      at_site P (dif_site_at plan dif node) (λ site. AtField 3 (number_below site.rank (fac_named plan fac)) (λ n. AtField 4 (place_in plan.nodes peer) (Does site n) w) w) w d.says w' (λ site u.
      at_field P 3 (number_below site.rank (fac_named plan fac)) (λ n. AtField 4 (place_in plan.nodes peer) (Does site n) w) w d.says w' (λ n s.
      at_field P 4 (place_in plan.nodes peer) (Does site n) w d.says w' (λ m c.
      at_rank P site.rank (EnrolsAtTop site.fac site.node n m c.result) (c.result ≡ Err NoMember) w.tower w'.tower v (λ y y' high now z e. enrols P k site.fac site.node n m c.result y y' z e) c.does) s) u) d.does
  words plan line (events.Member dif node) w ns w' v still may d = at_site P (dif_site_at plan dif node) (TellsMember w) w d.says w' (λ site c. same P w w' c.run) d.does
  words plan line event w ns w' v still may d = absurd d.does

  -- ---- rounds, and ticks with theirs

  pub rounds_by : (rounds : Rounds) (slots slots' : List Slot) (t t' : Tower) → IsTower t → RoundsBy rounds slots t slots' t' → Sure P k t t'
  rounds_by Auto slots slots' t t' v d = round P k slots slots' t t' v d
  rounds_by Manual slots slots' t t' v d = sure_is P k t t' v d.1

  all_ticks : (plan : Plan) (line count : ℕ) (s : Stage) (ns : List Note) (s' : Stage) → IsTower s.run.tower → Ticks plan line count s ns s' → Sure P k s.run.tower s'.run.tower
  all_ticks plan line zero s ns s' v d = sure_is P k s.run.tower s'.run.tower v (ap (λ (x : Stage). x.run.tower) d.1)
  all_ticks plan line (suc count) s ns s' v (mid, first, rest, once, others, is) =
      let ticked : Sure P k s.run.tower once.ticked = record { valid = (stepped.ticks Never (Ok tt) s.run.tower once.ticked v once.ticks).valid; keeps = ticks P k (Ok tt) s.run.tower once.ticked once.ticks } in
      let rounded = rounds_by plan.rounds s.shelf mid.shelf once.ticked mid.run.tower ticked.valid once.rounds in
      sure_on P k s.run.tower once.ticked s'.run.tower ticked (sure_on P k once.ticked mid.run.tower s'.run.tower rounded (all_ticks plan line count mid rest s' rounded.valid others))

  ticking : (over : Bool) (plan : Plan) (line count : ℕ) (s : Stage) (ns : List Note) (s' : Stage) → IsTower s.run.tower → Ticking over plan line count s ns s' → Sure P k s.run.tower s'.run.tower
  ticking true plan line count s ns s' v d = sure_is P k s.run.tower s'.run.tower v (ap (λ (x : Stage). x.run.tower) d.1)
  ticking false plan line count s ns s' v d = all_ticks plan line count s d.told s' v d.ticks

  -- ---- all words

  pub acts : (plan : Plan) (line : ℕ) (event : Event) (s : Stage) (ns : List Note) (s' : Stage) → IsTower s.run.tower → HereKeeps P plan line (Ok (Some event)) ns → Acts plan line event s ns s' → Sure P k s.run.tower s'.run.tower
  acts plan line (events.Retire policy) s ns s' v may d = sure_is P k s.run.tower s'.run.tower v (ap (λ (w : Run). w.tower) d.run)
  acts plan line (events.Tick count) s ns s' v may d = ticking (nat_lt 10000000 (now_of s.run.tower + count)) plan line count s ns s' v d
  acts plan line (events.Out dif node link) s ns s' v may d = record { valid = (lets plan line dif node link s ns s' v d).valid; keeps = letting plan (dif_site_at plan dif node) link s d.says s' v d.does }
  acts plan line events.Round s ns s' v may d = round P k s.shelf s'.shelf s.run.tower s'.run.tower v d.does
  acts plan line event s ns s' v may d =
      let goes = written.words plan line event s.run ns s'.run v d.0 in
      record { valid = goes.valid; keeps = words plan line event s.run ns s'.run v (clock_goes _ s.run.tower s'.run.tower goes) may d.0 }
