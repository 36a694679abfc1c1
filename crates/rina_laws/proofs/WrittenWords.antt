-- Each word of a schedule leaves a tower that stands; but for the steps of DIFs and the freeing of a flow none writes PDUs off.
use Rattle.std.proofs.Common.{◌≡◌, ◌∙◌, ℕ, Bool, true, false, ◌||◌, List, [], ◌∷◌, Some, None, Option, option_and_then, IsSome, Result, Ok, Err, inl, inr, refl, sym, ap}
use Rattle.rina_base.specs.declared.number.Port.{Port}
use Rattle.rina_cube.specs.declared.Want.{Want}
use Rattle.rina_law.specs.declared.entry.Entry.{Entry}
use Rattle.rina_iface.specs.Seen.{unpassed}
use Rattle.rina_data.specs.declared.step.StepError.TheVariants.{NoIpc}
use Rattle.rina_dif.specs.declared.cdap.CdapCallError.TheVariants.{NoIpc as NoneThere}
use Rattle.rina_dif.specs.declared.enrol.EnrolError.TheVariants.{NoIpc as NoMember}
use Rattle.rina_report.specs.declared.note.Note.{Note}
use Rattle.rina_report.specs.declared.answer.Answer.{Answer}
use Rattle.rina_schedule.specs.declared.event.Event.{Event}
use Rattle.rina_schedule.specs.declared.event.Event.TheVariants as events
use Rattle.rina_stack.specs.declared.plan.Plan.{Plan}
use Rattle.rina_stack.specs.Names.{place_in}
use Rattle.rina_wire.specs.declared.event.WireError.{WireError}
use Rattle.rina_wire.specs.Air.{Air}
use Rattle.rina_wire.specs.Cut.{CutsOn, MendsOn}
use Rattle.rina_wire.specs.Disturb.{HoldsOn, LosesOn, RepeatsOn}
use Rattle.rina_wire.proofs.SoundCut.{mends_unseen, sound_cuts, sound_mends}
use Rattle.rina_wire.proofs.SoundDisturb.{holds_unseen, loses_unseen, repeats_unseen, sound_holds, sound_loses, sound_repeats}
use Rattle.rina_tower.specs.declared.tower.Tower.{Tower, Wires}
use Rattle.rina_tower.specs.Applications.{AppPasses, is_ipc_at}
use Rattle.rina_tower.specs.Bystanders.{Anyone, IsIpc, LeavesNow, is_ipc}
use Rattle.rina_tower.specs.Calls.{AllocatesAtTop, ClaimsAtTop, FreesAtTop, PassesAtTop, RegistersAtTop, SendsAtTop, UnregistersAtTop}
use Rattle.rina_tower.specs.Cdap.{AsksAtTop}
use Rattle.rina_tower.specs.Enrolling.{EnrolsAtTop}
use Rattle.rina_tower.specs.Events.{Cuts, HoldsBack, Loses, Mends, Repeats}
use Rattle.rina_tower.specs.Ranks.{rank_of, seen_of}
use Rattle.rina_tower.specs.Rounds.{Anything}
use Rattle.rina_tower.specs.Stands.{IsTower}
use Rattle.rina_tower.specs.Steps.{ClocksAtTop, InStepsAtTop, OutStepsAtTop}
use Rattle.rina_tower.proofs.Alone.{fewer_now, now_on, same_alone}
use Rattle.rina_tower.proofs.Wiring.{cuts_alone}
use Rattle.rina_notes.specs.declared.facility.RankedFac.{RankedFac}
use Rattle.rina_notes.specs.declared.label.Label.{Label}
use Rattle.rina_notes.specs.declared.site.Site.{Site}
use Rattle.rina_notes.specs.Sites.{dif_site_at, fac_named, label_in, port_in, site_at}
use Rattle.rina_words.specs.declared.run.Run.{Run}
use Rattle.rina_words.specs.Step.{Accounting, ActsOnRun, AtField, AtPort, AtSite, AtWire, CallsAllocate, CallsCdap, CallsClock, CallsEnrol, CallsFree, CallsIn, CallsIncoming, CallsPublish, CallsRegister, CallsSend, CallsUnregister, CallsWire, LettingOut, Passes, Reading, SaysBeside, Showing, ShowingRib, Stage, TellsMember, TellsState, Unlabelled, asked, for_app, link_of, number_below, waiting, wire_of}
use Rattle.rina_laws.specs.Written.{MayWrite}
use Rattle.rina_laws.proofs.Published.{MayRegister, published}
use Rattle.rina_laws.proofs.WrittenCalls as calls
use Rattle.rina_laws.proofs.WrittenEnrols.{enrols}
use Rattle.rina_laws.proofs.WrittenGoes.{Goes, at_app, at_claim, at_rank, at_wires, goes_same}
use Rattle.rina_laws.proofs.WrittenGrows.{MayBeWritten, Never, grows_on}
use Rattle.rina_laws.proofs.WrittenSteps.{does_due, lets_out, takes}

-- a run after another
abbrev pub GoesIn : MayBeWritten → Run → Run → Type 0
GoesIn W w w' = Goes W w.tower w'.tower

same : (W : MayBeWritten) (w w' : Run) → IsTower w.tower → w' ≡ w → GoesIn W w w'
same W w w' v is = goes_same W w.tower w'.tower v (ap (λ (x : Run). x.tower) is)

-- ---- where a word is refused before its call, nothing is done

at_site : (W : MayBeWritten) (r : Result Site ℕ) (Call : Site → Option Answer → Run → Type 0) (w : Run) (says : Option Answer) (w' : Run) → IsTower w.tower → ((site : Site) → Call site says w' → GoesIn W w w') → AtSite r Call w says w' → GoesIn W w w'
at_site W (Err field) Call w says w' v next d = same W w w' v d.run
at_site W (Ok site) Call w says w' v next d = next site d

unlabelled : (W : MayBeWritten) (o : Option Label) (Call : Option Answer → Run → Type 0) (w : Run) (says : Option Answer) (w' : Run) → IsTower w.tower → (Call says w' → GoesIn W w w') → Unlabelled o Call w says w' → GoesIn W w w'
unlabelled W (Some label) Call w says w' v next d = same W w w' v d.run
unlabelled W None Call w says w' v next d = next d

at_port : (W : MayBeWritten) (o : Option (ℕ × Port)) (Call : ℕ → Port → Option Answer → Run → Type 0) (w : Run) (says : Option Answer) (w' : Run) → IsTower w.tower → ((p : ℕ × Port) → Call p.0 p.1 says w' → GoesIn W w w') → AtPort o Call w says w' → GoesIn W w w'
at_port W None Call w says w' v next d = same W w w' v d.run
at_port W (Some p) Call w says w' v next d = next p d

at_wire : (W : MayBeWritten) (o : Option ℕ) (Does : ℕ → Result (Unit {0}) WireError → Tower → Tower → Type 0) (w : Run) (says : Option Answer) (w' : Run) → IsTower w.tower → ((n : ℕ) (r : Result (Unit {0}) WireError) → Does n r w.tower w'.tower → GoesIn W w w') → AtWire o (λ n. CallsWire (Does n) w) w says w' → GoesIn W w w'
at_wire W None Does w says w' v next d = same W w w' v d.run
at_wire W (Some n) Does w says w' v next d = next n d.result d.does

at_field : (W : MayBeWritten) (field : ℕ) (o : Option ℕ) (Call : ℕ → Option Answer → Run → Type 0) (w : Run) (says : Option Answer) (w' : Run) → IsTower w.tower → ((n : ℕ) → Call n says w' → GoesIn W w w') → AtField field o Call w says w' → GoesIn W w w'
at_field W field None Call w says w' v next d = same W w w' v d.run
at_field W field (Some n) Call w says w' v next d = next n d

-- ---- calls of applications

registers : (W : MayBeWritten) (app : List ℕ) (w : Run) (site : Site) (says : Option Answer) (w' : Run) → IsTower w.tower → CallsRegister app w site says w' → GoesIn W w w'
registers W app w site says w' v c = at_app W site.rank (λ u. is_ipc app) (RegistersAtTop site.fac site.node app) c.result w.tower w'.tower v (λ x u u' k no e. calls.registers W site.fac site.node app x u u' k e) c.does

unregisters : (W : MayBeWritten) (app : List ℕ) (w : Run) (site : Site) (says : Option Answer) (w' : Run) → IsTower w.tower → CallsUnregister app w site says w' → GoesIn W w w'
unregisters W app w site says w' v c = at_app W site.rank (λ u. is_ipc app) (UnregistersAtTop site.fac site.node app) c.result w.tower w'.tower v (λ x u u' k no e. calls.unregisters W site.fac site.node app x u u' k e) c.does

allocates : (W : MayBeWritten) (plan : Plan) (label name node app to : List ℕ) (want : Want) (w : Run) (site : Site) (says : Option Answer) (w' : Run) → IsTower w.tower → CallsAllocate plan label name node site.rank w (asked site app to want) says w' → GoesIn W w w'
allocates W plan label name node app to want w site says w' v c = at_app W site.rank (λ u. is_ipc app || is_ipc to) (AllocatesAtTop (asked site app to want)) c.result w.tower w'.tower v (λ x u u' k no e. calls.allocates W (asked site app to want) x u u' k no e) c.does

incoming : (W : MayBeWritten) (plan : Plan) (label app : List ℕ) (w : Run) (site : Site) (says : Option Answer) (w' : Run) → IsTower w.tower → CallsIncoming plan label app w site says w' → GoesIn W w w'
incoming W plan label app w site says w' v c = at_claim W site.rank (is_ipc app) (ClaimsAtTop site.fac site.node app) c.result w.tower w'.tower v (λ u u' k e. calls.claims W site.fac site.node app c.result u u' k e) c.does

sends : (W : MayBeWritten) (plan : Plan) (bytes : List ℕ) (w : Run) (rank : ℕ) (port : Port) (says : Option Answer) (w' : Run) → IsTower w.tower → CallsSend plan bytes w rank port says w' → GoesIn W w w'
sends W plan bytes w rank port says w' v c = at_app W rank (λ u. is_ipc_at (seen_of u) port) (SendsAtTop port bytes) c.result w.tower w'.tower v (λ x u u' k no e. calls.sends W port bytes x u u' k no e) c.does

frees : (w : Run) (rank : ℕ) (port : Port) (says : Option Answer) (w' : Run) → IsTower w.tower → CallsFree w rank port says w' → GoesIn MayWrite w w'
frees w rank port says w' v c = at_app MayWrite rank (λ u. is_ipc_at (seen_of u) port) (FreesAtTop port) c.result w.tower w'.tower v (λ x u u' k no e. calls.frees port x u u' k e) c.does

-- ---- reading

app_waits : (ipc : Bool) (oldest : Option Entry) (x : Entry) → for_app ipc oldest ≡ Some x → (ipc ≡ false) × (oldest ≡ Some x)
app_waits true oldest x h = cc
app_waits false oldest x h = (refl, h)

waits_there : (t u : Tower) (rank : ℕ) (port : Port) (x : Entry) → rank_of t rank ≡ Some u → waiting t rank port ≡ Some x → (is_ipc_at (seen_of u) port ≡ false) × (unpassed (seen_of u) port ≡ Some x)
waits_there t u rank port x is h =
    let here : for_app (is_ipc_at (seen_of u) port) (unpassed (seen_of u) port) ≡ Some x = sym (ap (option_and_then (λ (v : Tower). for_app (is_ipc_at (seen_of v) port) (unpassed (seen_of v) port))) is) ∙ h in
    app_waits (is_ipc_at (seen_of u) port) (unpassed (seen_of u) port) x here

pass_here : (W : MayBeWritten) (port : Port) (x : Entry) (u u' : Tower) → IsTower u → (is_ipc_at (seen_of u) port ≡ false) × (unpassed (seen_of u) port ≡ Some x) → PassesAtTop port u u' → Goes W u u'
pass_here W port x u u' v waits d = (let some : IsSome (unpassed (seen_of u) port) = rw waits.1 refl in calls.passes W port u u' v some waits.0 d)

pass : (W : MayBeWritten) (rank : ℕ) (port : Port) (t t' : Tower) (x : Entry) → IsTower t → waiting t rank port ≡ Some x → AppPasses rank port t t' → Goes W t t'
pass W rank port t t' x v waits d = at_rank W rank (PassesAtTop port) ⊥ t t' v (λ u u' is k e. pass_here W port x u u' k (waits_there t u rank port x is waits) e) d

pub pass_valid : (rank : ℕ) (port : Port) (t t' : Tower) (x : Entry) → IsTower t → waiting t rank port ≡ Some x → AppPasses rank port t t' → IsTower t'
pass_valid rank port t t' x v waits d = (pass Never rank port t t' x v waits d).valid

never_on : (t u v : Tower) → Goes Never t u → Goes Never u v → Goes Never t v
never_on t u v x y = record { valid = y.valid; height = y.height ∙ x.height; alone = now_on IsIpc (seen_of t) (seen_of u) (seen_of v) x.alone y.alone; grows = grows_on t u v x.grows y.grows }

passes : (rank : ℕ) (port : Port) (t : Tower) (xs : List Entry) (t' : Tower) → IsTower t → Passes rank port t xs t' → Goes Never t t'
passes rank port t [] t' v d = goes_same Never t t' v d
passes rank port t (x ∷ xs) t' v (mid, waits, one, others) = (let first = pass Never rank port t mid x v waits one in never_on t mid t' first (passes rank port mid xs t' first.valid others))

reading : (line : ℕ) (o : Option (ℕ × Port)) (w : Run) (ns : List Note) (w' : Run) → IsTower w.tower → Reading line o w ns w' → GoesIn Never w w'
reading line None w ns w' v d = same Never w w' v d.1
reading line (Some p) w ns w' v d = passes p.0 p.1 w.tower d.entries w'.tower v d.passes

-- ---- events of wires

-- nothing of the wires that is seen changes
unseen : (a a' : Air) → seen_of (Wires a') ≡ seen_of (Wires a) → LeavesNow IsIpc (seen_of (Wires a)) (seen_of (Wires a'))
unseen a a' is = same_alone IsIpc (seen_of (Wires a)) (seen_of (Wires a')) is

cut_beside : (a : Air) (wire : ℕ) (r : Result (Unit {0}) WireError) (a' : Air) → CutsOn a wire r a' → LeavesNow IsIpc (seen_of (Wires a)) (seen_of (Wires a'))
cut_beside a wire r a' d = fewer_now Anyone IsIpc (seen_of (Wires a)) (seen_of (Wires a')) (λ name mine. tt) (cuts_alone a wire r a' d)

-- ---- words of DIFs, and those that show

showing : (W : MayBeWritten) (plan : Plan) (line : ℕ) (o : Option RankedFac) (w : Run) (ns : List Note) (w' : Run) → IsTower w.tower → Showing plan line o w ns w' → GoesIn W w w'
showing W plan line None w ns w' v d = same W w w' v d.1
showing W plan line (Some f) w ns w' v d = same W w w' v d.run

accounting : (W : MayBeWritten) (plan : Plan) (line : ℕ) (r : Result Site ℕ) (w : Run) (ns : List Note) (w' : Run) → IsTower w.tower → Accounting plan line r w ns w' → GoesIn W w w'
accounting W plan line (Err field) w ns w' v d = same W w w' v d.1
accounting W plan line (Ok site) w ns w' v d = same W w w' v d.run

showing_rib : (W : MayBeWritten) (line : ℕ) (path : Option (List ℕ)) (r : Result Site ℕ) (w : Run) (ns : List Note) (w' : Run) → IsTower w.tower → ShowingRib line path r w ns w' → GoesIn W w w'
showing_rib W line path (Err field) w ns w' v d = same W w w' v d.1
showing_rib W line path (Ok site) w ns w' v d = same W w w' v d.run

asking : (W : MayBeWritten) (bytes : List ℕ) (w : Run) (site : Site) (says : Option Answer) (w' : Run) → IsTower w.tower → CallsCdap bytes w site says w' → GoesIn W w w'
asking W bytes w site says w' v c = at_rank W site.rank (AsksAtTop site.fac site.node bytes c.result) (c.result ≡ Err NoneThere) w.tower w'.tower v (λ u u' is k e. calls.asks W site.fac site.node bytes c.result u u' k e) c.does

may_register : (W : MayBeWritten) (fac node : ℕ) (u u' : Tower) → IsTower u → MayRegister fac node u u' → Goes W u u'
may_register W fac node u u' v (inl d) = goes_same W u u' v d
may_register W fac node u u' v (inr (name, x, d)) = calls.registers W fac node name x u u' v d

publishes : (W : MayBeWritten) (w : Run) (site : Site) (fac : ℕ) (says : Option Answer) (w' : Run) → IsTower w.tower → CallsPublish w site fac says w' → GoesIn W w w'
publishes W w site fac says w' v c =
    let k = published site.rank site.fac site.node fac c.result w.tower w'.tower c.does in
    at_rank W k.rank (MayRegister fac site.node) ⊥ w.tower w'.tower v (λ u u' is t e. may_register W fac site.node u u' t e) k.done

enrolling : (W : MayBeWritten) (fac_name node_name : List ℕ) (w : Run) (site : Site) (fac peer : ℕ) (says : Option Answer) (w' : Run) → IsTower w.tower → CallsEnrol fac_name node_name w site fac peer says w' → GoesIn W w w'
enrolling W fac_name node_name w site fac peer says w' v c = at_rank W site.rank (EnrolsAtTop site.fac site.node fac peer c.result) (c.result ≡ Err NoMember) w.tower w'.tower v (λ u u' is k e. enrols W site.fac site.node fac peer c.result u u' k e) c.does

takes_in : (plan : Plan) (link : ℕ) (w : Run) (site : Site) (says : Option Answer) (w' : Run) → IsTower w.tower → CallsIn plan link w site says w' → GoesIn MayWrite w w'
takes_in plan link w site says w' v c = at_rank MayWrite site.rank (InStepsAtTop site.fac site.node (link_of link) c.result) (c.result ≡ Err NoIpc) w.tower w'.tower v (λ u u' is k e. takes site.fac site.node (link_of link) c.result u u' k e) c.does

clocks : (plan : Plan) (w : Run) (site : Site) (says : Option Answer) (w' : Run) → IsTower w.tower → CallsClock plan w site says w' → GoesIn MayWrite w w'
clocks plan w site says w' v c = at_rank MayWrite site.rank (ClocksAtTop site.fac site.node c.result) (c.result ≡ Err NoIpc) w.tower w'.tower v (λ u u' is k e. does_due site.fac site.node c.result u u' k e) c.does

-- ---- all words

letting : (plan : Plan) (r : Result Site ℕ) (link : ℕ) (s : Stage) (says : Option Answer) (s' : Stage) → IsTower s.run.tower → LettingOut plan r link s says s' → GoesIn MayWrite s.run s'.run
letting plan (Err field) link s says s' v d = same MayWrite s.run s'.run v (ap (λ (x : Stage). x.run) d.1)
letting plan (Ok site) link s says s' v d =
    at_rank MayWrite site.rank (OutStepsAtTop Anything s.shelf s'.shelf site.fac site.node (link_of link) d.result) ((d.result ≡ Err NoIpc) × (s'.shelf ≡ s.shelf)) s.run.tower s'.run.tower v (λ u u' is k e. lets_out Anything s.shelf s'.shelf site.fac site.node (link_of link) d.result u u' k e) d.does

-- what a word may write
abbrev pub written_by : Event → MayBeWritten
written_by (events.Free label) = MayWrite
written_by (events.In dif node link) = MayWrite
written_by (events.Clock dif node) = MayWrite
written_by (events.Out dif node link) = MayWrite
written_by event = Never

pub words : (plan : Plan) (line : ℕ) (event : Event) (w : Run) (ns : List Note) (w' : Run) → IsTower w.tower → ActsOnRun plan line event w ns w' → GoesIn (written_by event) w w'
words plan line (events.Free label) w ns w' v d = at_port MayWrite (port_in w.labels label) (CallsFree w) w d.says w' v (λ p c. frees w p.0 p.1 d.says w' v c) d.does
words plan line (events.In dif node link) w ns w' v d = at_site MayWrite (dif_site_at plan dif node) (CallsIn plan link w) w d.says w' v (λ site c. takes_in plan link w site d.says w' v c) d.does
words plan line (events.Clock dif node) w ns w' v d = at_site MayWrite (dif_site_at plan dif node) (CallsClock plan w) w d.says w' v (λ site c. clocks plan w site d.says w' v c) d.does
words plan line (events.Register name node app) w ns w' v d = at_site Never (site_at plan 1 name node) (CallsRegister app w) w d.says w' v (λ site c. registers Never app w site d.says w' v c) d.does
words plan line (events.Unregister name node app) w ns w' v d = at_site Never (site_at plan 1 name node) (CallsUnregister app w) w d.says w' v (λ site c. unregisters Never app w site d.says w' v c) d.does
words plan line (events.Alloc label name node app to want) w ns w' v d =
    at_site Never (site_at plan 2 name node) (λ site. Unlabelled (label_in w.labels label) (CallsAllocate plan label name node site.rank w (asked site app to want)) w) w d.says w' v (λ site u.
    unlabelled Never (label_in w.labels label) (CallsAllocate plan label name node site.rank w (asked site app to want)) w d.says w' v (λ c. allocates Never plan label name node app to want w site d.says w' v c) u) d.does
words plan line (events.Accept label name node app) w ns w' v d =
    at_site Never (site_at plan 2 name node) (λ site. Unlabelled (label_in w.labels label) (CallsIncoming plan label app w site) w) w d.says w' v (λ site u.
    unlabelled Never (label_in w.labels label) (CallsIncoming plan label app w site) w d.says w' v (λ c. incoming Never plan label app w site d.says w' v c) u) d.does
words plan line (events.Send label bytes) w ns w' v d = at_port Never (port_in w.labels label) (CallsSend plan bytes w) w d.says w' v (λ p c. sends Never plan bytes w p.0 p.1 d.says w' v c) d.does
words plan line (events.Read label) w ns w' v d = reading line (port_in w.labels label) w ns w' v d
words plan line (events.State label) w ns w' v d = at_port Never (port_in w.labels label) (TellsState plan w) w d.says w' v (λ p c. same Never w w' v c.run) d.does
words plan line (events.Lose wire frame) w ns w' v d =
    at_wire Never (wire_of plan wire) (λ n r t t'. Loses n frame r t t') w d.says w' v (λ n r c. at_wires Never (λ a a'. LosesOn a n frame r a') w.tower w'.tower v (λ a a' k e. (sound_loses a n frame r a' k e, unseen a a' (loses_unseen a n frame r a' e))) c) d.does
words plan line (events.Repeat wire frame tick) w ns w' v d =
    at_wire Never (wire_of plan wire) (λ n r t t'. Repeats n frame tick r t t') w d.says w' v (λ n r c. at_wires Never (λ a a'. RepeatsOn a n frame tick r a') w.tower w'.tower v (λ a a' k e. (sound_repeats a n frame tick r a' k e, unseen a a' (repeats_unseen a n frame tick r a' e))) c) d.does
words plan line (events.Hold wire frame tick) w ns w' v d =
    at_wire Never (wire_of plan wire) (λ n r t t'. HoldsBack n frame tick r t t') w d.says w' v (λ n r c. at_wires Never (λ a a'. HoldsOn a n frame tick r a') w.tower w'.tower v (λ a a' k e. (sound_holds a n frame tick r a' k e, unseen a a' (holds_unseen a n frame tick r a' e))) c) d.does
words plan line (events.Cut wire) w ns w' v d =
    at_wire Never (wire_of plan wire) (λ n r t t'. Cuts n r t t') w d.says w' v (λ n r c. at_wires Never (λ a a'. CutsOn a n r a') w.tower w'.tower v (λ a a' k e. (sound_cuts a n r a' k e, cut_beside a n r a' e)) c) d.does
words plan line (events.Mend wire) w ns w' v d =
    at_wire Never (wire_of plan wire) (λ n r t t'. Mends n r t t') w d.says w' v (λ n r c. at_wires Never (λ a a'. MendsOn a n r a') w.tower w'.tower v (λ a a' k e. (sound_mends a n r a' k e, unseen a a' (mends_unseen a n r a' e))) c) d.does
words plan line (events.Journal name) w ns w' v d = showing Never plan line (fac_named plan name) w ns w' v d
words plan line (events.Ledger dif node) w ns w' v d = accounting Never plan line (dif_site_at plan dif node) w ns w' v d
words plan line (events.Rib dif node path) w ns w' v d = showing_rib Never line path (dif_site_at plan dif node) w ns w' v d
words plan line (events.Cdap dif node bytes) w ns w' v d = at_site Never (dif_site_at plan dif node) (CallsCdap bytes w) w d.says w' v (λ site c. asking Never bytes w site d.says w' v c) d.does
words plan line (events.Publish dif node fac) w ns w' v d =
    at_site Never (dif_site_at plan dif node) (λ site. AtField 3 (number_below site.rank (fac_named plan fac)) (CallsPublish w site) w) w d.says w' v (λ site u.
    at_field Never 3 (number_below site.rank (fac_named plan fac)) (CallsPublish w site) w d.says w' v (λ n c. publishes Never w site n d.says w' v c) u) d.does
words plan line (events.Enrol dif node fac peer) w ns w' v d =
    let Call : Site → ℕ → ℕ → Option Answer → Run → Type 0 = CallsEnrol fac node w in
    at_site Never (dif_site_at plan dif node) (λ site. AtField 3 (number_below site.rank (fac_named plan fac)) (λ n. AtField 4 (place_in plan.nodes peer) (Call site n) w) w) w d.says w' v (λ site u.
    at_field Never 3 (number_below site.rank (fac_named plan fac)) (λ n. AtField 4 (place_in plan.nodes peer) (Call site n) w) w d.says w' v (λ n s.
    at_field Never 4 (place_in plan.nodes peer) (Call site n) w d.says w' v (λ m c. enrolling Never fac node w site n m d.says w' v c) s) u) d.does
words plan line (events.Member dif node) w ns w' v d = at_site Never (dif_site_at plan dif node) (TellsMember w) w d.says w' v (λ site c. same Never w w' v c.run) d.does
words plan line event w ns w' v d = absurd d.does

pub lets : (plan : Plan) (line : ℕ) (dif node : List ℕ) (link : ℕ) (s : Stage) (ns : List Note) (s' : Stage) → IsTower s.run.tower → SaysBeside line (LettingOut plan (dif_site_at plan dif node) link s) ns s' → GoesIn MayWrite s.run s'.run
lets plan line dif node link s ns s' v d = letting plan (dif_site_at plan dif node) link s d.says s' v d.does
