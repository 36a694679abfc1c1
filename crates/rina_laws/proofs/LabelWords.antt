-- Each word of a schedule that sends and reads nothing keeps that labels tell the journals of their ends.
use Rattle.std.proofs.Common.{◌≡◌, ℕ, List, [], ◌∷◌, ◌++◌, Option, Some, None, Result, Ok, Err, refl, sym, ap, subst, arith}
use Rattle.rina_base.specs.declared.number.Port.{Port}
use Rattle.rina_cube.specs.declared.Want.{Want}
use Rattle.rina_policy.specs.Slots.{Slot}
use Rattle.rina_iface.specs.declared.ask.Ask.{Ask}
use Rattle.rina_iface.specs.declared.ends.End.{End}
use Rattle.rina_iface.specs.declared.error.AllocateError.{AllocateError}
use Rattle.rina_report.specs.declared.note.Note.{Note}
use Rattle.rina_report.specs.declared.answer.Answer.{Answer}
use Rattle.rina_table.specs.declared.sketch.Rounds.{Rounds}
use Rattle.rina_table.specs.declared.sketch.Rounds.TheVariants.{Auto, Manual}
use Rattle.rina_stack.specs.declared.plan.Plan.{Plan}
use Rattle.rina_wire.specs.declared.event.WireError.{WireError}
use Rattle.rina_tower.specs.declared.applications.AppError.{AppError}
use Rattle.rina_tower.specs.declared.tower.Tower.{Tower}
use Rattle.rina_tower.specs.Applications.{AppAllocates, AppClaims}
use Rattle.rina_tower.specs.Events.{Cuts, HoldsBack, Loses, Mends, Repeats}
use Rattle.rina_tower.specs.Rounds.{Anything}
use Rattle.rina_tower.specs.Stands.{IsTower}
use Rattle.rina_notes.specs.declared.label.Label.{Label}
use Rattle.rina_notes.specs.declared.site.Site.{Site}
use Rattle.rina_words.specs.declared.run.Run.{Run}
use Rattle.rina_notes.specs.Sites.{label_in}
use Rattle.rina_words.specs.Step.{AtField, AtPort, AtSite, AtWire, CallsAllocate, CallsCdap, CallsClock, CallsEnrol, CallsFree, CallsIn, CallsIncoming, CallsPublish, CallsRegister, CallsUnregister, CallsWire, LettingOut, RoundsBy, RoundsOnce, Stage, TellsMember, TellsState, TicksOnce, Unlabelled, asked, label_of, link_of}
use Rattle.rina_laws.proofs.LabelCalls.{AllRest, app_frees, app_registers, app_unregisters, publishes}
use Rattle.rina_laws.proofs.LabelClaimed.{fit_taken, named_claimed, ports_taken, tells_claimed}
use Rattle.rina_laws.proofs.LabelClaims.{app_claims, app_claims_none}
use Rattle.rina_laws.proofs.LabelEnrols.{enrol_keeps}
use Rattle.rina_laws.proofs.LabelFlows.{app_allocates, app_ask_refused}
use Rattle.rina_laws.proofs.LabelGiven.{unknown_of}
use Rattle.rina_laws.proofs.LabelKeeps.{Keeps, keeps_looked, keeps_on, keeps_rest}
use Rattle.rina_laws.proofs.LabelMade.{fit_grown, named_grown, tells_grown}
use Rattle.rina_laws.proofs.LabelMoves.{Fits, IsView}
use Rattle.rina_laws.proofs.LabelRanks.{shown}
use Rattle.rina_laws.proofs.LabelSteps.{asks_rest, clocks_rest, ins_rest, outs_rest, round_keeps}
use Rattle.rina_laws.proofs.LabelTells.{IsUnknown}
use Rattle.rina_laws.proofs.LabelTicks.{cut_rests, hold_rests, lose_rests, mend_rests, repeat_rests, tick_rests}

-- what is kept of a run
abbrev pub Holds : {X : Type 0} → (End → List X) → (List ℕ → List X) → Run → Type 0
Holds V told w = Keeps V told w.tower w.labels

pub holds_same : {X : Type 0} (V : End → List X) (told : List ℕ → List X) (w w' : Run) → w' ≡ w → Holds V told w → Holds V told w'
holds_same V told w w' is k = subst (λ (x : Run). Holds V told x) (sym is) k

-- ---- register, unregister, publish, enrol, member, free and state

pub keeps_register : {X : Type 0} (V : End → List X) (told : List ℕ → List X) (app : List ℕ) (w : Run) (found : Result Site ℕ) (says : Option Answer) (w' : Run) → IsView V → IsTower w.tower → AtSite found (CallsRegister app w) w says w' → Holds V told w → Holds V told w'
keeps_register V told app w (Err field) says w' view v c k = holds_same V told w w' c.run k
keeps_register V told app w (Ok site) says w' view v c k = keeps_on V told w.tower w'.tower w.labels w'.labels view (app_registers site.rank site.fac site.node app c.result w.tower w'.tower v c.does) c.labels k

pub keeps_unregister : {X : Type 0} (V : End → List X) (told : List ℕ → List X) (app : List ℕ) (w : Run) (found : Result Site ℕ) (says : Option Answer) (w' : Run) → IsView V → IsTower w.tower → AtSite found (CallsUnregister app w) w says w' → Holds V told w → Holds V told w'
keeps_unregister V told app w (Err field) says w' view v c k = holds_same V told w w' c.run k
keeps_unregister V told app w (Ok site) says w' view v c k = keeps_on V told w.tower w'.tower w.labels w'.labels view (app_unregisters site.rank site.fac site.node app c.result w.tower w'.tower v c.does) c.labels k

keeps_lower : {X : Type 0} (V : End → List X) (told : List ℕ → List X) (w : Run) (site : Site) (lower : Option ℕ) (says : Option Answer) (w' : Run) → IsView V → IsTower w.tower → AtField 3 lower (CallsPublish w site) w says w' → Holds V told w → Holds V told w'
keeps_lower V told w site None says w' view v c k = holds_same V told w w' c.run k
keeps_lower V told w site (Some n) says w' view v c k = keeps_on V told w.tower w'.tower w.labels w'.labels view (publishes site.rank site.fac site.node n c.result w.tower w'.tower v c.does) c.labels k

pub keeps_publish : {X : Type 0} (V : End → List X) (told : List ℕ → List X) (lower : Site → Option ℕ) (w : Run) (found : Result Site ℕ) (says : Option Answer) (w' : Run) → IsView V → IsTower w.tower → AtSite found (λ site. AtField 3 (lower site) (CallsPublish w site) w) w says w' → Holds V told w → Holds V told w'
keeps_publish V told lower w (Err field) says w' view v c k = holds_same V told w w' c.run k
keeps_publish V told lower w (Ok site) says w' view v c k = keeps_lower V told w site (lower site) says w' view v c k

keeps_peer : {X : Type 0} (V : End → List X) (told : List ℕ → List X) (fac_name node_name : List ℕ) (w : Run) (site : Site) (n : ℕ) (peer : Option ℕ) (says : Option Answer) (w' : Run) → IsView V → IsTower w.tower → AtField 4 peer (CallsEnrol fac_name node_name w site n) w says w' → Holds V told w → Holds V told w'
keeps_peer V told fac_name node_name w site n None says w' view v c k = holds_same V told w w' c.run k
keeps_peer V told fac_name node_name w site n (Some m) says w' view v c k = subst (Keeps V told w'.tower) (sym c.labels) (enrol_keeps V told site.rank site.fac site.node n m c.result w.tower w'.tower w.labels view v c.does k)

keeps_under : {X : Type 0} (V : End → List X) (told : List ℕ → List X) (fac_name node_name : List ℕ) (w : Run) (site : Site) (lower peer : Option ℕ) (says : Option Answer) (w' : Run) → IsView V → IsTower w.tower → AtField 3 lower (λ n. AtField 4 peer (CallsEnrol fac_name node_name w site n) w) w says w' → Holds V told w → Holds V told w'
keeps_under V told fac_name node_name w site None peer says w' view v c k = holds_same V told w w' c.run k
keeps_under V told fac_name node_name w site (Some n) peer says w' view v c k = keeps_peer V told fac_name node_name w site n peer says w' view v c k

pub keeps_enrol : {X : Type 0} (V : End → List X) (told : List ℕ → List X) (fac_name node_name : List ℕ) (lower : Site → Option ℕ) (peer : Option ℕ) (w : Run) (found : Result Site ℕ) (says : Option Answer) (w' : Run) → IsView V → IsTower w.tower
    → AtSite found (λ site. AtField 3 (lower site) (λ n. AtField 4 peer (CallsEnrol fac_name node_name w site n) w) w) w says w' → Holds V told w → Holds V told w'
keeps_enrol V told fac_name node_name lower peer w (Err field) says w' view v c k = holds_same V told w w' c.run k
keeps_enrol V told fac_name node_name lower peer w (Ok site) says w' view v c k = keeps_under V told fac_name node_name w site (lower site) peer says w' view v c k

pub keeps_member : {X : Type 0} (V : End → List X) (told : List ℕ → List X) (w : Run) (found : Result Site ℕ) (says : Option Answer) (w' : Run) → AtSite found (TellsMember w) w says w' → Holds V told w → Holds V told w'
keeps_member V told w (Err field) says w' c k = holds_same V told w w' c.run k
keeps_member V told w (Ok site) says w' c k = holds_same V told w w' c.run k

pub keeps_free : {X : Type 0} (V : End → List X) (told : List ℕ → List X) (w : Run) (found : Option (ℕ × Port)) (says : Option Answer) (w' : Run) → IsView V → IsTower w.tower → AtPort found (CallsFree w) w says w' → Holds V told w → Holds V told w'
keeps_free V told w None says w' view v c k = holds_same V told w w' c.run k
keeps_free V told w (Some p) says w' view v c k = keeps_on V told w.tower w'.tower w.labels w'.labels view (app_frees p.0 p.1 c.result w.tower w'.tower v c.does) c.labels k

pub keeps_state : {X : Type 0} (V : End → List X) (told : List ℕ → List X) (plan : Plan) (w : Run) (found : Option (ℕ × Port)) (says : Option Answer) (w' : Run) → AtPort found (TellsState plan w) w says w' → Holds V told w → Holds V told w'
keeps_state V told plan w None says w' c k = holds_same V told w w' c.run k
keeps_state V told plan w (Some p) says w' c k = holds_same V told w w' c.run k

-- ---- alloc

new_fits : (e : End) → e.taken ≡ 0 → Fits e
new_fits e none plain = omega (arith, none)

allocated_by : {X : Type 0} (V : End → List X) (told : List ℕ → List X) (plan : Plan) (label fac node : List ℕ) (rank : ℕ) (w : Run) (ask : Ask) (says : Option Answer) (w' : Run) (r : Result Port (AppError AllocateError)) → (c : CallsAllocate plan label fac node rank w ask says w') → c.result ≡ r
    → IsView V → IsTower w.tower → IsUnknown w.labels label → Holds V told w → Holds V told w'
allocated_by V told plan label fac node rank w ask says w' (Ok port) c is view v unknown k =
    let does : AppAllocates rank ask (Ok port) w.tower w'.tower = subst (λ r. AppAllocates rank ask r w.tower w'.tower) is c.does in
    let f = app_allocates rank ask port w.tower w'.tower v k.ports does in
    let l : Label = label_of label w'.tower rank port in
    let labels : w'.labels ≡ w.labels ++ label_of label w'.tower rank port ∷ [] = rw is at c.labels in
    subst (Keeps V told w'.tower) (sym labels) (record {
      ports = f.ports;
      fits = fit_grown (shown w.tower) (shown w'.tower) rank ask.fac f.asker f.far f.grown (new_fits f.asker f.asker_new.2) (λ e one. new_fits e (f.far_new e one).2) k.fits;
      named = named_grown V told (shown w.tower) (shown w'.tower) ask.fac f.asker f.far w.labels (label_of label w'.tower rank port) f.ports f.grown f.its k.tells k.named unknown;
      tells = tells_grown V told (shown w.tower) (shown w'.tower) ask.fac f.asker f.far w.labels (label_of label w'.tower rank port) f.ports f.grown f.its f.plain (view.fresh f.asker f.asker_new.0 f.asker_new.2) (λ e one. (let new = f.far_new e one in view.fresh e new.0 new.2)) k.tells unknown;
    })
allocated_by V told plan label fac node rank w ask says w' (Err e) c is view v unknown k =
    let does : AppAllocates rank ask (Err e) w.tower w'.tower = subst (λ r. AppAllocates rank ask r w.tower w'.tower) is c.does in
    let labels : w'.labels ≡ w.labels = rw is at c.labels in
    keeps_on V told w.tower w'.tower w.labels w'.labels view (app_ask_refused rank ask e w.tower w'.tower v does) labels k

unlabelled_allocate : {X : Type 0} (V : End → List X) (told : List ℕ → List X) (plan : Plan) (label fac node : List ℕ) (rank : ℕ) (w : Run) (ask : Ask) (used : Option Label) (says : Option Answer) (w' : Run) → IsView V → IsTower w.tower → label_in w.labels label ≡ used
    → Unlabelled used (CallsAllocate plan label fac node rank w ask) w says w' → Holds V told w → Holds V told w'
unlabelled_allocate V told plan label fac node rank w ask (Some l) says w' view v h c k = holds_same V told w w' c.run k
unlabelled_allocate V told plan label fac node rank w ask None says w' view v h c k = allocated_by V told plan label fac node rank w ask says w' c.result c refl view v (unknown_of w.labels label h) k

pub keeps_allocate : {X : Type 0} (V : End → List X) (told : List ℕ → List X) (plan : Plan) (label fac node app to : List ℕ) (want : Want) (w : Run) (found : Result Site ℕ) (says : Option Answer) (w' : Run) → IsView V → IsTower w.tower
    → AtSite found (λ site. Unlabelled (label_in w.labels label) (CallsAllocate plan label fac node site.rank w (asked site app to want)) w) w says w' → Holds V told w → Holds V told w'
keeps_allocate V told plan label fac node app to want w (Err field) says w' view v c k = holds_same V told w w' c.run k
keeps_allocate V told plan label fac node app to want w (Ok site) says w' view v c k = unlabelled_allocate V told plan label fac node site.rank w (asked site app to want) (label_in w.labels label) says w' view v refl c k

-- ---- accept

claimed_by : {X : Type 0} (V : End → List X) (told : List ℕ → List X) (plan : Plan) (label app : List ℕ) (w : Run) (site : Site) (says : Option Answer) (w' : Run) (r : Option Port) → (c : CallsIncoming plan label app w site says w') → c.result ≡ r → IsView V → IsTower w.tower → IsUnknown w.labels label → Holds V told w → Holds V told w'
claimed_by V told plan label app w site says w' (Some port) c is view v unknown k =
    let does : AppClaims site.rank site.fac site.node app (Some port) w.tower w'.tower = subst (λ r. AppClaims site.rank site.fac site.node app r w.tower w'.tower) is c.does in
    let taken = app_claims site.rank site.fac site.node app port w.tower w'.tower does in
    let labels : w'.labels ≡ w.labels ++ label_of label w'.tower site.rank port ∷ [] = rw is at c.labels in
    subst (Keeps V told w'.tower) (sym labels) (record {
      ports = ports_taken (shown w.tower) (shown w'.tower) site.rank site.fac port taken k.ports;
      fits = fit_taken (shown w.tower) (shown w'.tower) site.rank site.fac port taken k.fits;
      named = named_claimed (shown w.tower) (shown w'.tower) site.fac w.labels (label_of label w'.tower site.rank port) k.ports taken k.named unknown;
      tells = tells_claimed V told (shown w.tower) (shown w'.tower) site.fac w.labels (label_of label w'.tower site.rank port) k.ports taken k.named k.tells unknown;
    })
claimed_by V told plan label app w site says w' None c is view v unknown k =
    let does : AppClaims site.rank site.fac site.node app None w.tower w'.tower = subst (λ r. AppClaims site.rank site.fac site.node app r w.tower w'.tower) is c.does in
    let labels : w'.labels ≡ w.labels = rw is at c.labels in
    keeps_on V told w.tower w'.tower w.labels w'.labels view (app_claims_none site.rank site.fac site.node app w.tower w'.tower v does) labels k

unlabelled_accept : {X : Type 0} (V : End → List X) (told : List ℕ → List X) (plan : Plan) (label app : List ℕ) (w : Run) (site : Site) (used : Option Label) (says : Option Answer) (w' : Run) → IsView V → IsTower w.tower → label_in w.labels label ≡ used
    → Unlabelled used (CallsIncoming plan label app w site) w says w' → Holds V told w → Holds V told w'
unlabelled_accept V told plan label app w site (Some l) says w' view v h c k = holds_same V told w w' c.run k
unlabelled_accept V told plan label app w site None says w' view v h c k = claimed_by V told plan label app w site says w' c.result c refl view v (unknown_of w.labels label h) k

pub keeps_accept : {X : Type 0} (V : End → List X) (told : List ℕ → List X) (plan : Plan) (label app : List ℕ) (w : Run) (found : Result Site ℕ) (says : Option Answer) (w' : Run) → IsView V → IsTower w.tower
    → AtSite found (λ site. Unlabelled (label_in w.labels label) (CallsIncoming plan label app w site) w) w says w' → Holds V told w → Holds V told w'
keeps_accept V told plan label app w (Err field) says w' view v c k = holds_same V told w w' c.run k
keeps_accept V told plan label app w (Ok site) says w' view v c k = unlabelled_accept V told plan label app w site (label_in w.labels label) says w' view v refl c k

-- ---- events of wires

keeps_wire : {X : Type 0} (V : End → List X) (told : List ℕ → List X) (Does : ℕ → Result (Unit {0}) WireError → Tower → Tower → Type 0) (w : Run) (found : Option ℕ) (says : Option Answer) (w' : Run) → IsView V → ((n : ℕ) (r : Result (Unit {0}) WireError) → Does n r w.tower w'.tower → AllRest w.tower w'.tower)
    → AtWire found (λ n. CallsWire (Does n) w) w says w' → Holds V told w → Holds V told w'
keeps_wire V told Does w None says w' view safe c k = holds_same V told w w' c.run k
keeps_wire V told Does w (Some n) says w' view safe c k = keeps_on V told w.tower w'.tower w.labels w'.labels view (safe n c.result c.does) c.labels k

pub keeps_lose : {X : Type 0} (V : End → List X) (told : List ℕ → List X) (frame : ℕ) (w : Run) (found : Option ℕ) (says : Option Answer) (w' : Run) → IsView V → AtWire found (λ n. CallsWire (Loses n frame) w) w says w' → Holds V told w → Holds V told w'
keeps_lose V told frame w found says w' view c k = keeps_wire V told (λ n. Loses n frame) w found says w' view (λ n r d. lose_rests n frame r w.tower w'.tower d) c k

pub keeps_repeat : {X : Type 0} (V : End → List X) (told : List ℕ → List X) (frame at : ℕ) (w : Run) (found : Option ℕ) (says : Option Answer) (w' : Run) → IsView V → AtWire found (λ n. CallsWire (Repeats n frame at) w) w says w' → Holds V told w → Holds V told w'
keeps_repeat V told frame at w found says w' view c k = keeps_wire V told (λ n. Repeats n frame at) w found says w' view (λ n r d. repeat_rests n frame at r w.tower w'.tower d) c k

pub keeps_hold : {X : Type 0} (V : End → List X) (told : List ℕ → List X) (frame at : ℕ) (w : Run) (found : Option ℕ) (says : Option Answer) (w' : Run) → IsView V → AtWire found (λ n. CallsWire (HoldsBack n frame at) w) w says w' → Holds V told w → Holds V told w'
keeps_hold V told frame at w found says w' view c k = keeps_wire V told (λ n. HoldsBack n frame at) w found says w' view (λ n r d. hold_rests n frame at r w.tower w'.tower d) c k

pub keeps_cut : {X : Type 0} (V : End → List X) (told : List ℕ → List X) (w : Run) (found : Option ℕ) (says : Option Answer) (w' : Run) → IsView V → AtWire found (λ n. CallsWire (Cuts n) w) w says w' → Holds V told w → Holds V told w'
keeps_cut V told w found says w' view c k = keeps_wire V told Cuts w found says w' view (λ n r d. cut_rests n r w.tower w'.tower d) c k

pub keeps_mend : {X : Type 0} (V : End → List X) (told : List ℕ → List X) (w : Run) (found : Option ℕ) (says : Option Answer) (w' : Run) → IsView V → AtWire found (λ n. CallsWire (Mends n) w) w says w' → Holds V told w → Holds V told w'
keeps_mend V told w found says w' view c k = keeps_wire V told Mends w found says w' view (λ n r d. mend_rests n r w.tower w'.tower d) c k

-- ---- steps and rounds

pub keeps_in : {X : Type 0} (V : End → List X) (told : List ℕ → List X) (plan : Plan) (link : ℕ) (w : Run) (found : Result Site ℕ) (says : Option Answer) (w' : Run) → IsView V → AtSite found (CallsIn plan link w) w says w' → Holds V told w → Holds V told w'
keeps_in V told plan link w (Err field) says w' view c k = holds_same V told w w' c.run k
keeps_in V told plan link w (Ok site) says w' view c k = keeps_on V told w.tower w'.tower w.labels w'.labels view (ins_rest site.rank site.fac site.node (link_of link) c.result w.tower w'.tower c.does) c.labels k

pub keeps_clock : {X : Type 0} (V : End → List X) (told : List ℕ → List X) (plan : Plan) (w : Run) (found : Result Site ℕ) (says : Option Answer) (w' : Run) → IsView V → AtSite found (CallsClock plan w) w says w' → Holds V told w → Holds V told w'
keeps_clock V told plan w (Err field) says w' view c k = holds_same V told w w' c.run k
keeps_clock V told plan w (Ok site) says w' view c k = keeps_on V told w.tower w'.tower w.labels w'.labels view (clocks_rest site.rank site.fac site.node c.result w.tower w'.tower c.does) c.labels k

pub keeps_cdap : {X : Type 0} (V : End → List X) (told : List ℕ → List X) (bytes : List ℕ) (w : Run) (found : Result Site ℕ) (says : Option Answer) (w' : Run) → IsView V → AtSite found (CallsCdap bytes w) w says w' → Holds V told w → Holds V told w'
keeps_cdap V told bytes w (Err field) says w' view c k = holds_same V told w w' c.run k
keeps_cdap V told bytes w (Ok site) says w' view c k = keeps_on V told w.tower w'.tower w.labels w'.labels view (asks_rest site.rank site.fac site.node bytes c.result w.tower w'.tower c.does) c.labels k

pub keeps_out : {X : Type 0} (V : End → List X) (told : List ℕ → List X) (plan : Plan) (link : ℕ) (s : Stage) (found : Result Site ℕ) (says : Option Answer) (s' : Stage) → IsView V → LettingOut plan found link s says s' → Holds V told s.run → Holds V told s'.run
keeps_out V told plan link s (Err field) says s' view c k = holds_same V told s.run s'.run (ap (λ (x : Stage). x.run) c.1) k
keeps_out V told plan link s (Ok site) says s' view c k = keeps_on V told s.run.tower s'.run.tower s.run.labels s'.run.labels view (outs_rest Anything s.shelf s'.shelf site.rank site.fac site.node (link_of link) c.result s.run.tower s'.run.tower c.does) c.labels k

-- the round that follows by itself
pub keeps_rounds : {X : Type 0} (V : End → List X) (told : List ℕ → List X) (rounds : Rounds) (slots : List Slot) (t : Tower) (slots' : List Slot) (t' : Tower) (ls : List Label) → IsView V → RoundsBy rounds slots t slots' t' → Keeps V told t ls → Keeps V told t' ls
keeps_rounds V told Auto slots t slots' t' ls view r k = round_keeps (λ (u : Tower). Keeps V told u ls) slots slots' t t' (λ u u' a x. keeps_rest V told u u' ls view a x) r k
keeps_rounds V told Manual slots t slots' t' ls view r k = subst (λ (u : Tower). Keeps V told u ls) (sym r.1) k

pub keeps_tick : {X : Type 0} (V : End → List X) (told : List ℕ → List X) (plan : Plan) (line : ℕ) (s : Stage) (ns : List Note) (s' : Stage) → IsView V → TicksOnce plan line s ns s' → Holds V told s.run → Holds V told s'.run
keeps_tick V told plan line s ns s' view c k =
    let ticked = keeps_rest V told s.run.tower c.ticked s.run.labels view (tick_rests s.run.tower c.ticked c.ticks) k in
    let round = keeps_rounds V told plan.rounds s.shelf c.ticked s'.shelf s'.run.tower s.run.labels view c.rounds ticked in
    keeps_looked V told s'.run.tower s.run.labels s'.run.labels c.labels round

-- the word for a round
pub keeps_once : {X : Type 0} (V : End → List X) (told : List ℕ → List X) (line : ℕ) (s : Stage) (ns : List Note) (s' : Stage) → IsView V → RoundsOnce line s ns s' → Holds V told s.run → Holds V told s'.run
keeps_once V told line s ns s' view c k =
    let round = round_keeps (λ (u : Tower). Keeps V told u s.run.labels) s.shelf s'.shelf s.run.tower s'.run.tower (λ u u' a x. keeps_rest V told u u' s.run.labels view a x) c.does k in
    subst (Keeps V told s'.run.tower) (sym c.labels) round
