-- What each call keeps of wires, each word of a schedule keeps, but for those that touch a frame, end a flow or register a name.
use Rattle.std.proofs.Common.{◌≡◌, ℕ, zero, suc, ◌+◌, nat_lt, Bool, true, false, ◌||◌, List, slice_get, Some, None, Option, Result, Ok, Err, refl, sym, ◌∙◌, subst, inl, inr}
use Rattle.rina_base.specs.declared.number.Port.{Port}
use Rattle.rina_cube.specs.declared.Want.{Want}
use Rattle.rina_data.specs.declared.step.StepError.TheVariants.{NoIpc}
use Rattle.rina_base.specs.declared.number.Num.{Num}
use Rattle.rina_dif.specs.declared.cdap.CdapCallError.{CdapCallError}
use Rattle.rina_dif.specs.declared.cdap.CdapCallError.TheVariants.{NoIpc as NoneThere}
use Rattle.rina_dif.specs.declared.enrol.EnrolError.{EnrolError}
use Rattle.rina_dif.specs.declared.enrol.EnrolError.TheVariants.{NoIpc as NoMember}
use Rattle.rina_iface.specs.declared.ask.Ask.{Ask}
use Rattle.rina_iface.specs.declared.error.AllocateError.{AllocateError}
use Rattle.rina_iface.specs.declared.error.FreeError.{FreeError}
use Rattle.rina_iface.specs.declared.error.RegisterError.{RegisterError}
use Rattle.rina_iface.specs.declared.error.SendError.{SendError}
use Rattle.rina_iface.specs.declared.error.UnregisterError.{UnregisterError}
use Rattle.rina_report.specs.declared.note.Note.{Note}
use Rattle.rina_report.specs.declared.answer.Answer.{Answer}
use Rattle.rina_report.specs.declared.answer.Answer.TheVariants.{Done}
use Rattle.rina_schedule.specs.declared.event.Event.{Event}
use Rattle.rina_schedule.specs.declared.event.Event.TheVariants as events
use Rattle.rina_stack.specs.declared.plan.Plan.{Plan}
use Rattle.rina_stack.specs.Names.{place_in}
use Rattle.rina_tower.specs.declared.tower.Tower.{Tower, Rank', Wires}
use Rattle.rina_tower.specs.declared.applications.AppError.{AppError}
use Rattle.rina_tower.specs.declared.applications.AppError.TheVariants as apps
use Rattle.rina_tower.specs.declared.publish.PublishError.{PublishError}
use Rattle.rina_tower.specs.declared.publish.PublishError.TheVariants.{NoIpc as NoneToPublish, Lower}
use Rattle.rina_tower.specs.Applications.{Answers, is_ipc_at}
use Rattle.rina_tower.specs.Cdap.{AsksAtTop}
use Rattle.rina_tower.specs.Bystanders.{IsIpc, is_ipc}
use Rattle.rina_tower.specs.Calls.{AllocatesAtTop, ClaimsAtTop, FreesAtTop, RegistersAtTop, SendsAtTop, UnregistersAtTop}
use Rattle.rina_tower.specs.Enrolling.{EnrolsAtTop}
use Rattle.rina_tower.specs.Events.{Cuts, HoldsBack, Loses, Mends, Repeats}
use Rattle.rina_tower.specs.Levels.{AtWires}
use Rattle.rina_tower.specs.Publishing.{PublishesAtTop, RegistersIpc, ipc_name_at}
use Rattle.rina_tower.specs.Ranks.{height_of, now_of, seen_of}
use Rattle.rina_tower.specs.Rounds.{Anything}
use Rattle.rina_tower.specs.Stands.{IsTower}
use Rattle.rina_tower.specs.Steps.{InStepsAtTop, OutStepsAtTop}
use Rattle.rina_wire.specs.declared.event.WireError.{WireError}
use Rattle.rina_wire.specs.Air.{Air}
use Rattle.rina_wire.specs.Cut.{CutsOn, MendsOn}
use Rattle.rina_wire.specs.Disturb.{HoldsOn, LosesOn, RepeatsOn}
use Rattle.rina_wire.specs.Free.{FreesOn}
use Rattle.rina_wire.specs.Register.{RegistersOn}
use Rattle.rina_notes.specs.declared.facility.RankedFac.{RankedFac}
use Rattle.rina_notes.specs.declared.label.Label.{Label}
use Rattle.rina_notes.specs.declared.site.Site.{Site}
use Rattle.rina_words.specs.declared.run.Run.{Run}
use Rattle.rina_notes.specs.Told.{answer_told, wire_told}
use Rattle.rina_notes.specs.Sites.{dif_site_at, fac_named, label_in, port_in, site_at}
use Rattle.rina_words.specs.Step.{Accounting, Acts, ActsOnRun, AtField, AtPort, AtSite, AtWire, CallsAllocate, CallsCdap, CallsClock, CallsEnrol, CallsFree, CallsIn, CallsIncoming, CallsPublish, CallsRegister, CallsSend, CallsUnregister, CallsWire, LettingOut, Reading, Showing, ShowingRib, Stage, TellsMember, TellsState, Ticking, Ticks, Unlabelled, asked, link_of, number_below, wire_of}
use Rattle.rina_laws.specs.Frames.{wires_of}
use Rattle.rina_laws.specs.SomeStep.{SomeOfTicking, SomeOfTicks, SomeOfWord}
use Rattle.rina_laws.proofs.Enrolled.{enrol_asks}
use Rattle.rina_laws.proofs.NamedNames.{IsDone}
use Rattle.rina_laws.proofs.NamedRun.{was_done}
use Rattle.rina_laws.proofs.NamedSteps.{name_ipc}
use Rattle.rina_laws.proofs.WiresAt.{Holds, IsPart, Keeps, KeepsClocks, at_app, at_claim, at_rank, at_wires, ins_here, outs_here, passes, round, rounds_by, tick}

-- ---- where a word is refused before its call, nothing is done

at_site : (P : Air → Type 0) (r : Result Site ℕ) (Call : Site → Option Answer → Run → Type 0) (w : Run) (says : Option Answer) (w' : Run) → Holds P w.tower → AtSite r Call w says w' → ((site : Site) → Call site says w' → Holds P w'.tower) → Holds P w'.tower
at_site P (Err field) Call w says w' h d next = subst (λ (v : Run). Holds P v.tower) (sym d.run) h
at_site P (Ok site) Call w says w' h d next = next site d

unlabelled : (P : Air → Type 0) (o : Option Label) (Call : Option Answer → Run → Type 0) (w : Run) (says : Option Answer) (w' : Run) → Holds P w.tower → Unlabelled o Call w says w' → (Call says w' → Holds P w'.tower) → Holds P w'.tower
unlabelled P (Some label) Call w says w' h d next = subst (λ (v : Run). Holds P v.tower) (sym d.run) h
unlabelled P None Call w says w' h d next = next d

at_port : (P : Air → Type 0) (o : Option (ℕ × Port)) (Call : ℕ → Port → Option Answer → Run → Type 0) (w : Run) (says : Option Answer) (w' : Run) → Holds P w.tower → AtPort o Call w says w' → ((p : ℕ × Port) → Call p.0 p.1 says w' → Holds P w'.tower) → Holds P w'.tower
at_port P None Call w says w' h d next = subst (λ (v : Run). Holds P v.tower) (sym d.run) h
at_port P (Some p) Call w says w' h d next = next p d

at_field : (P : Air → Type 0) (field : ℕ) (o : Option ℕ) (Call : ℕ → Option Answer → Run → Type 0) (w : Run) (says : Option Answer) (w' : Run) → Holds P w.tower → AtField field o Call w says w' → ((n : ℕ) → Call n says w' → Holds P w'.tower) → Holds P w'.tower
at_field P field None Call w says w' h d next = subst (λ (v : Run). Holds P v.tower) (sym d.run) h
at_field P field (Some n) Call w says w' h d next = next n d

-- ---- calls of applications: at wires, or at a rank of DIFs, where nothing is done below

unregisters_here : (P : Air → Type 0) (kept : Keeps P) (n node : ℕ) (app : List ℕ) (x : Result (Unit {0}) UnregisterError) (u u' : Tower) → Holds P u → UnregistersAtTop n node app x u u' → Holds P u'
unregisters_here P kept n node app x (Wires a) (Wires a') h d = kept.unregisters a n node app x a' h d
unregisters_here P kept n node app x (Rank' p difs below) (Rank' p' difs' below') h d = subst (Holds P) (sym d.1) h
unregisters_here P kept n node app x (Wires a) (Rank' p difs below) h d = absurd d
unregisters_here P kept n node app x (Rank' p difs below) (Wires a) h d = absurd d

allocates_here : (P : Air → Type 0) (kept : Keeps P) (ask : Ask) (x : Result Port AllocateError) (u u' : Tower) → Holds P u → AllocatesAtTop ask x u u' → Holds P u'
allocates_here P kept ask x (Wires a) (Wires a') h d = kept.allocates a ask x a' h d
allocates_here P kept ask x (Rank' p difs below) (Rank' p' difs' below') h d = subst (Holds P) (sym d.1) h
allocates_here P kept ask x (Wires a) (Rank' p difs below) h d = absurd d
allocates_here P kept ask x (Rank' p difs below) (Wires a) h d = absurd d

claims_here : (P : Air → Type 0) (kept : Keeps P) (n node : ℕ) (app : List ℕ) (x : Option Port) (u u' : Tower) → Holds P u → ClaimsAtTop n node app x u u' → Holds P u'
claims_here P kept n node app x (Wires a) (Wires a') h d = kept.claims a n node app x a' h d
claims_here P kept n node app x (Rank' p difs below) (Rank' p' difs' below') h d = subst (Holds P) (sym d.1) h
claims_here P kept n node app x (Wires a) (Rank' p difs below) h d = absurd d
claims_here P kept n node app x (Rank' p difs below) (Wires a) h d = absurd d

sends_here : (P : Air → Type 0) (kept : Keeps P) (port : Port) (bytes : List ℕ) (x : Result Num SendError) (u u' : Tower) → Holds P u → SendsAtTop port bytes x u u' → Holds P u'
sends_here P kept port bytes x (Wires a) (Wires a') h d = kept.sends a port bytes x a' h d
sends_here P kept port bytes x (Rank' p difs below) (Rank' p' difs' below') h d = subst (Holds P) (sym d.1) h
sends_here P kept port bytes x (Wires a) (Rank' p difs below) h d = absurd d
sends_here P kept port bytes x (Rank' p difs below) (Wires a) h d = absurd d

unregisters : (P : Air → Type 0) (kept : Keeps P) (app : List ℕ) (w : Run) (site : Site) (says : Option Answer) (w' : Run) → Holds P w.tower → CallsUnregister app w site says w' → Holds P w'.tower
unregisters P kept app w site says w' h c = at_app P site.rank (λ u. is_ipc app) (UnregistersAtTop site.fac site.node app) c.result w.tower w'.tower h c.does (λ u u' part x g e. unregisters_here P kept site.fac site.node app x u u' g e)

allocates : (P : Air → Type 0) (kept : Keeps P) (plan : Plan) (label name node app to : List ℕ) (want : Want) (w : Run) (site : Site) (says : Option Answer) (w' : Run) → Holds P w.tower → CallsAllocate plan label name node site.rank w (asked site app to want) says w' → Holds P w'.tower
allocates P kept plan label name node app to want w site says w' h c = at_app P site.rank (λ u. is_ipc app || is_ipc to) (AllocatesAtTop (asked site app to want)) c.result w.tower w'.tower h c.does (λ u u' part x g e. allocates_here P kept (asked site app to want) x u u' g e)

incoming : (P : Air → Type 0) (kept : Keeps P) (plan : Plan) (label app : List ℕ) (w : Run) (site : Site) (says : Option Answer) (w' : Run) → Holds P w.tower → CallsIncoming plan label app w site says w' → Holds P w'.tower
incoming P kept plan label app w site says w' h c = at_claim P site.rank (is_ipc app) (ClaimsAtTop site.fac site.node app) c.result w.tower w'.tower h c.does (λ u u' g e. claims_here P kept site.fac site.node app c.result u u' g e)

sends : (P : Air → Type 0) (kept : Keeps P) (plan : Plan) (bytes : List ℕ) (w : Run) (rank : ℕ) (port : Port) (says : Option Answer) (w' : Run) → Holds P w.tower → CallsSend plan bytes w rank port says w' → Holds P w'.tower
sends P kept plan bytes w rank port says w' h c = at_app P rank (λ u. is_ipc_at (seen_of u) port) (SendsAtTop port bytes) c.result w.tower w'.tower h c.does (λ u u' part x g e. sends_here P kept port bytes x u u' g e)

reading : (P : Air → Type 0) (kept : Keeps P) (line : ℕ) (o : Option (ℕ × Port)) (w : Run) (ns : List Note) (w' : Run) → Holds P w.tower → Reading line o w ns w' → Holds P w'.tower
reading P kept line None w ns w' h d = subst (λ (v : Run). Holds P v.tower) (sym d.1) h
reading P kept line (Some p) w ns w' h d = passes P kept p.0 p.1 w.tower d.entries w'.tower h d.passes

-- ---- events that touch a frame, and the end of a flow: what they do is known of the wires

-- what is done at the wires by an event of the wire that is named
wires_event : (P : Air → Type 0) (Does : ℕ → Air → Result (Unit {0}) WireError → Air → Type 0) (o : Option ℕ) (w : Run) (says : Option Answer) (w' : Run) → Holds P w.tower → AtWire o (λ n. CallsWire (λ r t t'. AtWires (λ a a'. Does n a r a') t t') w) w says w' → ((n : ℕ) (r : Result (Unit {0}) WireError) (a' : Air) → o ≡ Some n → says ≡ answer_told (λ done. Some Done) wire_told r → Holds P w.tower → Does n (wires_of w.tower) r a' → P a') → Holds P w'.tower
wires_event P Does None w says w' h d next = subst (λ (v : Run). Holds P v.tower) (sym d.run) h
wires_event P Does (Some n) w says w' h d next = at_wires P (λ a a'. Does n a d.result a') w.tower w'.tower h d.does (λ a' g e. next n d.result a' refl d.told g e)

pub losing : (P : Air → Type 0) (o : Option ℕ) (frame : ℕ) (w : Run) (says : Option Answer) (w' : Run) → Holds P w.tower → AtWire o (λ n. CallsWire (Loses n frame) w) w says w' → ((n : ℕ) (r : Result (Unit {0}) WireError) (a' : Air) → o ≡ Some n → says ≡ answer_told (λ done. Some Done) wire_told r → Holds P w.tower → LosesOn (wires_of w.tower) n frame r a' → P a') → Holds P w'.tower
losing P o frame w says w' h d next = wires_event P (λ n a r a'. LosesOn a n frame r a') o w says w' h d next

pub repeating : (P : Air → Type 0) (o : Option ℕ) (frame at : ℕ) (w : Run) (says : Option Answer) (w' : Run) → Holds P w.tower → AtWire o (λ n. CallsWire (Repeats n frame at) w) w says w' → ((n : ℕ) (r : Result (Unit {0}) WireError) (a' : Air) → o ≡ Some n → says ≡ answer_told (λ done. Some Done) wire_told r → Holds P w.tower → RepeatsOn (wires_of w.tower) n frame at r a' → P a') → Holds P w'.tower
repeating P o frame at w says w' h d next = wires_event P (λ n a r a'. RepeatsOn a n frame at r a') o w says w' h d next

pub holding : (P : Air → Type 0) (o : Option ℕ) (frame at : ℕ) (w : Run) (says : Option Answer) (w' : Run) → Holds P w.tower → AtWire o (λ n. CallsWire (HoldsBack n frame at) w) w says w' → ((n : ℕ) (r : Result (Unit {0}) WireError) (a' : Air) → o ≡ Some n → says ≡ answer_told (λ done. Some Done) wire_told r → Holds P w.tower → HoldsOn (wires_of w.tower) n frame at r a' → P a') → Holds P w'.tower
holding P o frame at w says w' h d next = wires_event P (λ n a r a'. HoldsOn a n frame at r a') o w says w' h d next

pub cutting : (P : Air → Type 0) (o : Option ℕ) (w : Run) (says : Option Answer) (w' : Run) → Holds P w.tower → AtWire o (λ n. CallsWire (Cuts n) w) w says w' → ((n : ℕ) (r : Result (Unit {0}) WireError) (a' : Air) → o ≡ Some n → says ≡ answer_told (λ done. Some Done) wire_told r → Holds P w.tower → CutsOn (wires_of w.tower) n r a' → P a') → Holds P w'.tower
cutting P o w says w' h d next = wires_event P (λ n a r a'. CutsOn a n r a') o w says w' h d next

mending : (P : Air → Type 0) (kept : Keeps P) (o : Option ℕ) (w : Run) (says : Option Answer) (w' : Run) → Holds P w.tower → AtWire o (λ n. CallsWire (Mends n) w) w says w' → Holds P w'.tower
mending P kept o w says w' h d = wires_event P (λ n a r a'. MendsOn a n r a') o w says w' h d (λ n r a' is told g e. kept.mends (wires_of w.tower) n r a' g e)

-- a flow of the wires is freed at a port of rank 0; at a rank of DIFs nothing is done below
frees_here : (P : Air → Type 0) (t : Tower) (rank : ℕ) (port : Port) (x : Result (Unit {0}) FreeError) (u u' : Tower) → IsPart t rank u → ((a' : Air) → rank ≡ 0 → Holds P t → FreesOn (wires_of t) port x a' → P a') → Holds P u → FreesAtTop port x u u' → Holds P u'
frees_here P t rank port x (Wires a) (Wires a') part next h d =
    next a' part.height (subst P part.wires h) (subst (λ (z : Air). FreesOn z port x a') part.wires d)
frees_here P t rank port x (Rank' p difs below) (Rank' p' difs' below') part next h d = subst (Holds P) (sym d.1) h
frees_here P t rank port x (Wires a) (Rank' p difs below) part next h d = absurd d
frees_here P t rank port x (Rank' p difs below) (Wires a) part next h d = absurd d

pub freeing : (P : Air → Type 0) (o : Option (ℕ × Port)) (w : Run) (says : Option Answer) (w' : Run) → Holds P w.tower → AtPort o (CallsFree w) w says w' → ((rank : ℕ) (port : Port) (r : Result (Unit {0}) FreeError) (a' : Air) → o ≡ Some (rank, port) → rank ≡ 0 → Holds P w.tower → FreesOn (wires_of w.tower) port r a' → P a') → Holds P w'.tower
freeing P None w says w' h d next = subst (λ (v : Run). Holds P v.tower) (sym d.run) h
freeing P (Some p) w says w' h d next = at_app P p.0 (λ u. is_ipc_at (seen_of u) p.1) (FreesAtTop p.1) d.result w.tower w'.tower h d.does (λ u u' part x g e. frees_here P w.tower p.0 p.1 x u u' part (λ a' low held does. next p.0 p.1 x a' refl low held does) g e)

-- ---- names that are registered: of the wires it is known what that does

-- a name is registered at a rank over these wires; at a rank of DIFs nothing is done below
registers_here : (P : Air → Type 0) (t : Tower) (n node : ℕ) (app : List ℕ) (x : Result (Unit {0}) RegisterError) (u u' : Tower) → wires_of u ≡ wires_of t → Holds P u → RegistersAtTop n node app x u u' → ((a' : Air) → height_of u ≡ 0 → Holds P t → RegistersOn (wires_of t) n node app x a' → P a') → Holds P u'
registers_here P t n node app x (Wires a) (Wires a') same h d next = next a' refl (subst P same h) (subst (λ (z : Air). RegistersOn z n node app x a') same d)
registers_here P t n node app x (Rank' p difs below) (Rank' p' difs' below') same h d next = subst (Holds P) (sym d.1) h
registers_here P t n node app x (Wires a) (Rank' p difs below) same h d next = absurd d
registers_here P t n node app x (Rank' p difs below) (Wires a) same h d next = absurd d

-- an application's name, by its line
name_answered : (P : Air → Type 0) (t : Tower) (ipc : Bool) (rank n node : ℕ) (app : List ℕ) (r : Result (Unit {0}) (AppError RegisterError)) (u u' : Tower) → IsPart t rank u → Holds P u → Answers ipc (λ x. RegistersAtTop n node app x u u') (u' ≡ u) r → ((x : Result (Unit {0}) RegisterError) (a' : Air) → (IsDone x → IsDone r) → rank ≡ 0 → Holds P t → RegistersOn (wires_of t) n node app x a' → P a') → Holds P u'
name_answered P t ipc rank n node app (Ok done) u u' part h d next = registers_here P t n node app (Ok done) u u' part.wires h d.1 (λ a' low. next (Ok done) a' (λ x. x) (part.height ∙ low))
name_answered P t ipc rank n node app (Err (apps.Call e)) u u' part h d next = registers_here P t n node app (Err e) u u' part.wires h d.1 (λ a' low. next (Err e) a' (λ x. absurd x) (part.height ∙ low))
name_answered P t ipc rank n node app (Err apps.NotYours) u u' part h d next = subst (Holds P) (sym d.1) h
name_answered P t ipc rank n node app (Err apps.NoRank) u u' part h d next = absurd d

pub registering : (P : Air → Type 0) (app : List ℕ) (o : Result Site ℕ) (w : Run) (says : Option Answer) (w' : Run) → Holds P w.tower → AtSite o (CallsRegister app w) w says w' → ((site : Site) (x : Result (Unit {0}) RegisterError) (a' : Air) → o ≡ Ok site → site.rank ≡ 0 → (IsDone x → says ≡ Some Done) → Holds P w.tower → RegistersOn (wires_of w.tower) site.fac site.node app x a' → P a') → Holds P w'.tower
registering P app (Err field) w says w' h d next = subst (λ (v : Run). Holds P v.tower) (sym d.run) h
registering P app (Ok site) w says w' h d next =
    at_rank P site.rank (λ u u'. Answers (is_ipc app) (λ x. RegistersAtTop site.fac site.node app x u u') (u' ≡ u) d.result) (d.result ≡ Err apps.NoRank) w.tower w'.tower h d.does (λ u u' part g e.
    name_answered P w.tower (is_ipc app) site.rank site.fac site.node app d.result u u' part g e (λ x a' done low held does. next site x a' refl low (λ ok. d.told ∙ was_done d.result (done ok)) held does))

-- an IPC process's name, where it is published
ipc_registers : (P : Air → Type 0) (o : Option (List ℕ)) (n node : ℕ) (x : Result (Unit {0}) PublishError) (b b' : Tower) → Holds P b → RegistersIpc o n node x b b' → ((name : List ℕ) (y : Result (Unit {0}) RegisterError) → o ≡ Some name → RegistersAtTop n node name y b b' → Holds P b') → Holds P b'
ipc_registers P None n node x b b' h d next = subst (Holds P) (sym d.1) h
ipc_registers P (Some name) n node (Ok done) b b' h d next = next name (Ok done) refl d
ipc_registers P (Some name) n node (Err (Lower e)) b b' h d next = next name (Err e) refl d
ipc_registers P (Some name) n node (Err NoneToPublish) b b' h d next = absurd d

publishes_here : (P : Air → Type 0) (t : Tower) (rank dif node n : ℕ) (x : Result (Unit {0}) PublishError) (u u' : Tower) → IsPart t rank u → Holds P u → PublishesAtTop dif node n x u u' → ((name : List ℕ) (y : Result (Unit {0}) RegisterError) (a' : Air) → (IsTower t → IsIpc name) → Holds P t → RegistersOn (wires_of t) n node name y a' → P a') → Holds P u'
publishes_here P t rank dif node n x (Wires a) (Wires a') part h d next = subst P (sym d.1) h
publishes_here P t rank dif node n x (Rank' p difs below) (Rank' p' difs' below') part h d next =
    ipc_registers P (ipc_name_at difs dif node) n node x below below' h d.1 (λ name y is e.
    registers_here P t n node name y below below' part.wires h e (λ a' low held does. next name y a' (λ v. name_ipc node p difs below dif (slice_get difs dif) name (part.stands v) refl is) held does))
publishes_here P t rank dif node n x (Wires a) (Rank' p difs below) part h d next = absurd d
publishes_here P t rank dif node n x (Rank' p difs below) (Wires a) part h d next = absurd d

pub publishing : (P : Air → Type 0) (plan : Plan) (dif node fac : List ℕ) (w : Run) (says : Option Answer) (w' : Run) → Holds P w.tower → AtSite (dif_site_at plan dif node) (λ site. AtField 3 (number_below site.rank (fac_named plan fac)) (CallsPublish w site) w) w says w' → ((n place : ℕ) (name : List ℕ) (y : Result (Unit {0}) RegisterError) (a' : Air) → (IsTower w.tower → IsIpc name) → Holds P w.tower → RegistersOn (wires_of w.tower) n place name y a' → P a') → Holds P w'.tower
publishing P plan dif node fac w says w' h d next =
    at_site P (dif_site_at plan dif node) (λ site. AtField 3 (number_below site.rank (fac_named plan fac)) (CallsPublish w site) w) w says w' h d (λ site f.
    at_field P 3 (number_below site.rank (fac_named plan fac)) (CallsPublish w site) w says w' h f (λ n c.
    at_rank P site.rank (PublishesAtTop site.fac site.node n c.result) (c.result ≡ Err NoneToPublish) w.tower w'.tower h c.does (λ u u' part g e.
    publishes_here P w.tower site.rank site.fac site.node n c.result u u' part g e (λ name y a' ipc held does. next n site.node name y a' ipc held does))))

-- what has to be shown of a word that touches a frame, ends a flow or registers a name
abbrev pub Special : (Air → Type 0) → Event → Run → Type 0
Special P (events.Lose wire frame) w' = Holds P w'.tower
Special P (events.Repeat wire frame at) w' = Holds P w'.tower
Special P (events.Hold wire frame at) w' = Holds P w'.tower
Special P (events.Cut wire) w' = Holds P w'.tower
Special P (events.Free label) w' = Holds P w'.tower
Special P (events.Register name node app) w' = Holds P w'.tower
Special P (events.Publish dif node fac) w' = Holds P w'.tower
Special P event w' = Unit {0}

-- ---- ticks

ticks : (P : Air → Type 0) (kept : Keeps P) (Is : Tower → Tower → Type 0) (clock : KeepsClocks P Is) (plan : Plan) (line count : ℕ) (s : Stage) (ns : List Note) (s' : Stage) (d : Ticks plan line count s ns s') → (SomeOfTicks Is plan line count s ns s' d → ⊥) → Holds P s.run.tower → Holds P s'.run.tower
ticks P kept Is clock plan line zero s ns s' d unspoilt h = subst (λ (v : Stage). Holds P v.run.tower) (sym d.1) h
ticks P kept Is clock plan line (suc count) s ns s' (mid, first, rest, once, others, is) unspoilt h =
    let ticked = tick P kept s.run.tower once.ticked h once.ticks in
    ticks P kept Is clock plan line count mid rest s' others (λ x. unspoilt (inr x)) (rounds_by P kept Is clock plan.rounds s.shelf mid.shelf once.ticked mid.run.tower once.rounds (λ x. unspoilt (inl x)) ticked)

ticking : (P : Air → Type 0) (kept : Keeps P) (Is : Tower → Tower → Type 0) (clock : KeepsClocks P Is) (over : Bool) (plan : Plan) (line count : ℕ) (s : Stage) (ns : List Note) (s' : Stage) (d : Ticking over plan line count s ns s') → (SomeOfTicking Is over plan line count s ns s' d → ⊥) → Holds P s.run.tower → Holds P s'.run.tower
ticking P kept Is clock true plan line count s ns s' d unspoilt h = subst (λ (v : Stage). Holds P v.run.tower) (sym d.1) h
ticking P kept Is clock false plan line count s ns s' d unspoilt h = ticks P kept Is clock plan line count s d.told s' d.ticks unspoilt h

-- ---- words of DIFs, and those that show

showing : (P : Air → Type 0) (plan : Plan) (line : ℕ) (o : Option RankedFac) (w : Run) (ns : List Note) (w' : Run) → Holds P w.tower → Showing plan line o w ns w' → Holds P w'.tower
showing P plan line None w ns w' h d = subst (λ (v : Run). Holds P v.tower) (sym d.1) h
showing P plan line (Some f) w ns w' h d = subst (λ (v : Run). Holds P v.tower) (sym d.run) h

accounting : (P : Air → Type 0) (plan : Plan) (line : ℕ) (r : Result Site ℕ) (w : Run) (ns : List Note) (w' : Run) → Holds P w.tower → Accounting plan line r w ns w' → Holds P w'.tower
accounting P plan line (Err field) w ns w' h d = subst (λ (v : Run). Holds P v.tower) (sym d.1) h
accounting P plan line (Ok site) w ns w' h d = subst (λ (v : Run). Holds P v.tower) (sym d.run) h

showing_rib : (P : Air → Type 0) (line : ℕ) (path : Option (List ℕ)) (r : Result Site ℕ) (w : Run) (ns : List Note) (w' : Run) → Holds P w.tower → ShowingRib line path r w ns w' → Holds P w'.tower
showing_rib P line path (Err field) w ns w' h d = subst (λ (v : Run). Holds P v.tower) (sym d.1) h
showing_rib P line path (Ok site) w ns w' h d = subst (λ (v : Run). Holds P v.tower) (sym d.run) h

takes_in : (P : Air → Type 0) (kept : Keeps P) (plan : Plan) (link : ℕ) (w : Run) (site : Site) (says : Option Answer) (w' : Run) → Holds P w.tower → CallsIn plan link w site says w' → Holds P w'.tower
takes_in P kept plan link w site says w' h c = at_rank P site.rank (InStepsAtTop site.fac site.node (link_of link) c.result) (c.result ≡ Err NoIpc) w.tower w'.tower h c.does (λ u u' part g d. ins_here P kept site.fac site.node (link_of link) c.result u u' g d)

clocks : (P : Air → Type 0) (Is : Tower → Tower → Type 0) (clock : KeepsClocks P Is) (plan : Plan) (w : Run) (site : Site) (says : Option Answer) (w' : Run) → (Is w.tower w'.tower → ⊥) → Holds P w.tower → CallsClock plan w site says w' → Holds P w'.tower
clocks P Is clock plan w site says w' unspoilt h c = clock site.rank site.fac site.node c.result w.tower w'.tower unspoilt h c.does

-- a CDAP message does nothing below
asks_here : (P : Air → Type 0) (n node : ℕ) (bytes : List ℕ) (x : Result (List ℕ) CdapCallError) (u u' : Tower) → Holds P u → AsksAtTop n node bytes x u u' → Holds P u'
asks_here P n node bytes x (Wires a) (Wires a') h d = subst P (sym d.1) h
asks_here P n node bytes x (Rank' p difs below) (Rank' p' difs' below') h d = subst (Holds P) (sym d.1) h
asks_here P n node bytes x (Wires a) (Rank' p difs below) h d = absurd d
asks_here P n node bytes x (Rank' p difs below) (Wires a) h d = absurd d

asking : (P : Air → Type 0) (bytes : List ℕ) (w : Run) (site : Site) (says : Option Answer) (w' : Run) → Holds P w.tower → CallsCdap bytes w site says w' → Holds P w'.tower
asking P bytes w site says w' h c = at_rank P site.rank (AsksAtTop site.fac site.node bytes c.result) (c.result ≡ Err NoneThere) w.tower w'.tower h c.does (λ u u' part g d. asks_here P site.fac site.node bytes c.result u u' g d)

-- over wires a flow may be asked for; at a rank of DIFs over DIFs nothing is done below
enrols_here : (P : Air → Type 0) (kept : Keeps P) (dif node n peer : ℕ) (x : Result (Unit {0}) EnrolError) (u u' : Tower) → Holds P u → EnrolsAtTop dif node n peer x u u' → Holds P u'
enrols_here P kept dif node n peer x (Wires a) (Wires a') h d = subst P (sym d.1) h
enrols_here P kept dif node n peer x (Rank' p difs (Wires a)) (Rank' p' difs' (Wires a')) h d = elim (enrol_asks dif node n peer x p p' difs difs' (Wires a) (Wires a') d) [
  | inl same ↦ subst (Holds P) (sym same) h
  | inr k ↦ kept.allocates a k.ask k.answer a' h k.does
]
enrols_here P kept dif node n peer x (Rank' p difs (Rank' q lower under)) (Rank' p' difs' (Rank' q' lower' under')) h d = subst (Holds P) (sym d.1.1) h
enrols_here P kept dif node n peer x (Rank' p difs (Wires a)) (Rank' p' difs' (Rank' q' lower' under')) h d = absurd d.1
enrols_here P kept dif node n peer x (Rank' p difs (Rank' q lower under)) (Rank' p' difs' (Wires a')) h d = absurd d.1
enrols_here P kept dif node n peer x (Wires a) (Rank' p difs below) h d = absurd d
enrols_here P kept dif node n peer x (Rank' p difs below) (Wires a) h d = absurd d

enrols : (P : Air → Type 0) (kept : Keeps P) (fac_name node_name : List ℕ) (w : Run) (site : Site) (n peer : ℕ) (says : Option Answer) (w' : Run) → Holds P w.tower → CallsEnrol fac_name node_name w site n peer says w' → Holds P w'.tower
enrols P kept fac_name node_name w site n peer says w' h c = at_rank P site.rank (EnrolsAtTop site.fac site.node n peer c.result) (c.result ≡ Err NoMember) w.tower w'.tower h c.does (λ u u' part g d. enrols_here P kept site.fac site.node n peer c.result u u' g d)

letting : (P : Air → Type 0) (kept : Keeps P) (plan : Plan) (r : Result Site ℕ) (link : ℕ) (s : Stage) (says : Option Answer) (s' : Stage) → Holds P s.run.tower → LettingOut plan r link s says s' → Holds P s'.run.tower
letting P kept plan (Err field) link s says s' h d = subst (λ (v : Stage). Holds P v.run.tower) (sym d.1) h
letting P kept plan (Ok site) link s says s' h d = at_rank P site.rank (OutStepsAtTop Anything s.shelf s'.shelf site.fac site.node (link_of link) d.result) ((d.result ≡ Err NoIpc) × (s'.shelf ≡ s.shelf)) s.run.tower s'.run.tower h d.does (λ u u' part g e. outs_here P kept Anything s.shelf s'.shelf site.fac site.node (link_of link) d.result u u' g e)

-- ---- all words

-- where the word asks for a step by the clock
abbrev AtClock : Type 0 → Event → Type 0
AtClock N (events.Clock dif node) = N
AtClock N event = Unit {0}

words : (P : Air → Type 0) (kept : Keeps P) (Is : Tower → Tower → Type 0) (clock : KeepsClocks P Is) (plan : Plan) (line : ℕ) (event : Event) (w : Run) (ns : List Note) (w' : Run) → Special P event w' → AtClock (Is w.tower w'.tower → ⊥) event → Holds P w.tower → ActsOnRun plan line event w ns w' → Holds P w'.tower
words P kept Is clock plan line (events.Register name node app) w ns w' special unspoilt h d = special
words P kept Is clock plan line (events.Alloc label name node app to want) w ns w' special unspoilt h d =
    at_site P (site_at plan 2 name node) (λ site. Unlabelled (label_in w.labels label) (CallsAllocate plan label name node site.rank w (asked site app to want)) w) w d.says w' h d.does (λ site u.
    unlabelled P (label_in w.labels label) (CallsAllocate plan label name node site.rank w (asked site app to want)) w d.says w' h u (λ c. allocates P kept plan label name node app to want w site d.says w' h c))
words P kept Is clock plan line (events.Accept label name node app) w ns w' special unspoilt h d =
    at_site P (site_at plan 2 name node) (λ site. Unlabelled (label_in w.labels label) (CallsIncoming plan label app w site) w) w d.says w' h d.does (λ site u.
    unlabelled P (label_in w.labels label) (CallsIncoming plan label app w site) w d.says w' h u (λ c. incoming P kept plan label app w site d.says w' h c))
words P kept Is clock plan line (events.Send label bytes) w ns w' special unspoilt h d = at_port P (port_in w.labels label) (CallsSend plan bytes w) w d.says w' h d.does (λ p c. sends P kept plan bytes w p.0 p.1 d.says w' h c)
words P kept Is clock plan line (events.Read label) w ns w' special unspoilt h d = reading P kept line (port_in w.labels label) w ns w' h d
words P kept Is clock plan line (events.Lose wire frame) w ns w' special unspoilt h d = special
words P kept Is clock plan line (events.Repeat wire frame at) w ns w' special unspoilt h d = special
words P kept Is clock plan line (events.Hold wire frame at) w ns w' special unspoilt h d = special
words P kept Is clock plan line (events.Cut wire) w ns w' special unspoilt h d = special
words P kept Is clock plan line (events.Mend wire) w ns w' special unspoilt h d = mending P kept (wire_of plan wire) w d.says w' h d.does
words P kept Is clock plan line (events.Unregister name node app) w ns w' special unspoilt h d = at_site P (site_at plan 1 name node) (CallsUnregister app w) w d.says w' h d.does (λ site c. unregisters P kept app w site d.says w' h c)
words P kept Is clock plan line (events.Free label) w ns w' special unspoilt h d = special
words P kept Is clock plan line (events.State label) w ns w' special unspoilt h d = at_port P (port_in w.labels label) (TellsState plan w) w d.says w' h d.does (λ p c. subst (λ (v : Run). Holds P v.tower) (sym c.run) h)
words P kept Is clock plan line (events.Journal name) w ns w' special unspoilt h d = showing P plan line (fac_named plan name) w ns w' h d
words P kept Is clock plan line (events.In dif node link) w ns w' special unspoilt h d = at_site P (dif_site_at plan dif node) (CallsIn plan link w) w d.says w' h d.does (λ site c. takes_in P kept plan link w site d.says w' h c)
words P kept Is clock plan line (events.Clock dif node) w ns w' special unspoilt h d = at_site P (dif_site_at plan dif node) (CallsClock plan w) w d.says w' h d.does (λ site c. clocks P Is clock plan w site d.says w' unspoilt h c)
words P kept Is clock plan line (events.Ledger dif node) w ns w' special unspoilt h d = accounting P plan line (dif_site_at plan dif node) w ns w' h d
words P kept Is clock plan line (events.Cdap dif node bytes) w ns w' special unspoilt h d = at_site P (dif_site_at plan dif node) (CallsCdap bytes w) w d.says w' h d.does (λ site c. asking P bytes w site d.says w' h c)
words P kept Is clock plan line (events.Rib dif node path) w ns w' special unspoilt h d = showing_rib P line path (dif_site_at plan dif node) w ns w' h d
words P kept Is clock plan line (events.Publish dif node fac) w ns w' special unspoilt h d = special
words P kept Is clock plan line (events.Enrol dif node fac peer) w ns w' special unspoilt h d =
    let Call : Site → ℕ → ℕ → Option Answer → Run → Type 0 = CallsEnrol fac node w in
    at_site P (dif_site_at plan dif node) (λ site. AtField 3 (number_below site.rank (fac_named plan fac)) (λ n. AtField 4 (place_in plan.nodes peer) (Call site n) w) w) w d.says w' h d.does (λ site u.
    at_field P 3 (number_below site.rank (fac_named plan fac)) (λ n. AtField 4 (place_in plan.nodes peer) (Call site n) w) w d.says w' h u (λ n v.
    at_field P 4 (place_in plan.nodes peer) (Call site n) w d.says w' h v (λ m c. enrols P kept fac node w site n m d.says w' h c)))
words P kept Is clock plan line (events.Member dif node) w ns w' special unspoilt h d = at_site P (dif_site_at plan dif node) (TellsMember w) w d.says w' h d.does (λ site c. subst (λ (v : Run). Holds P v.tower) (sym c.run) h)
words P kept Is clock plan line event w ns w' special unspoilt h d = absurd d.does

pub acts : (P : Air → Type 0) (kept : Keeps P) (Is : Tower → Tower → Type 0) (clock : KeepsClocks P Is) (plan : Plan) (line : ℕ) (event : Event) (s : Stage) (ns : List Note) (s' : Stage) → Special P event s'.run → (d : Acts plan line event s ns s') → (SomeOfWord Is plan line event s ns s' d → ⊥) → Holds P s.run.tower → Holds P s'.run.tower
acts P kept Is clock plan line (events.Retire policy) s ns s' special d unspoilt h = subst (λ (v : Run). Holds P v.tower) (sym d.run) h
acts P kept Is clock plan line (events.Tick count) s ns s' special d unspoilt h = ticking P kept Is clock (nat_lt 10000000 (now_of s.run.tower + count)) plan line count s ns s' d unspoilt h
acts P kept Is clock plan line (events.Out dif node link) s ns s' special d unspoilt h = letting P kept plan (dif_site_at plan dif node) link s d.says s' h d.does
acts P kept Is clock plan line events.Round s ns s' special d unspoilt h = round P kept Is clock s.shelf s'.shelf s.run.tower s'.run.tower d.does unspoilt h
acts P kept Is clock plan line (events.Clock dif node) s ns s' special d unspoilt h = words P kept Is clock plan line (events.Clock dif node) s.run ns s'.run special unspoilt h d.0
acts P kept Is clock plan line event s ns s' special d unspoilt h = words P kept Is clock plan line event s.run ns s'.run special tt h d.0
