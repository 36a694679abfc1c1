-- Each relation of a tower keeps its DIFs as they were planned.
use Rattle.std.proofs.Common.{◌≡◌, ◌∙◌, ℕ, ◌+◌, Bool, true, false, List, [], ◌∷◌, Option, None, Result, Ok, Err, inl, inr, refl, sym, ap, subst}
use Rattle.rina_base.specs.declared.number.Num.{Num}
use Rattle.rina_base.specs.declared.number.Port.{Port}
use Rattle.rina_law.specs.declared.entry.Entry.{Entry}
use Rattle.rina_iface.specs.declared.ask.Ask.{Ask}
use Rattle.rina_iface.specs.declared.error.AllocateError.{AllocateError}
use Rattle.rina_iface.specs.declared.error.FreeError.{FreeError}
use Rattle.rina_iface.specs.declared.error.RegisterError.{RegisterError}
use Rattle.rina_iface.specs.declared.error.SendError.{SendError}
use Rattle.rina_iface.specs.declared.error.UnregisterError.{UnregisterError}
use Rattle.rina_policy.specs.declared.policy.Head.{Head}
use Rattle.rina_policy.specs.Slots.{Slot}
use Rattle.rina_data.specs.declared.step.ClockStep.{ClockStep}
use Rattle.rina_data.specs.declared.step.InStep.{InStep}
use Rattle.rina_data.specs.declared.step.OutStep.{OutStep}
use Rattle.rina_data.specs.declared.step.StepError.{StepError}
use Rattle.rina_table.specs.declared.sketch.Rounds.{Rounds}
use Rattle.rina_table.specs.declared.sketch.Rounds.TheVariants.{Auto, Manual}
use Rattle.rina_stack.specs.declared.plan.Plan.{Plan}
use Rattle.rina_dif.specs.declared.cdap.CdapCallError.{CdapCallError}
use Rattle.rina_dif.specs.declared.dif.Dif.{Dif}
use Rattle.rina_dif.specs.declared.enrol.EnrolError.{EnrolError}
use Rattle.rina_wire.specs.declared.tick.TickError.{TickError}
use Rattle.rina_wire.specs.Air.{Air}
use Rattle.rina_tower.specs.declared.applications.AppError.{AppError}
use Rattle.rina_tower.specs.declared.applications.AppError.TheVariants.{NoRank, NotYours, Call}
use Rattle.rina_tower.specs.declared.tower.Tower.{Tower, Wires, Rank'}
use Rattle.rina_tower.specs.Applications.{Answers, ClaimsFor}
use Rattle.rina_tower.specs.Cdap.{AsksAtTop, AsksOne}
use Rattle.rina_tower.specs.Calls.{AllocatesAtTop, ClaimsAtTop, FreesAtTop, PassesAtTop, RegistersAtTop, SendsAtTop, UnregistersAtTop}
use Rattle.rina_tower.specs.Enrolling.{EnrolsAtTop}
use Rattle.rina_tower.specs.StepEffect.{StandsAfter}
use Rattle.rina_tower.specs.PlanSettings.{AreOfPlan, IsAsPlanned}
use Rattle.rina_tower.specs.Ranks.{height_of}
use Rattle.rina_tower.specs.Rounds.{AllMove, Anything, IsRound, Move, Moves, InMove, ClockMove, OutMove}
use Rattle.rina_tower.specs.Unchanged.{AreStaying, IsStaying}
use Rattle.rina_tower.specs.Steps.{ClocksAtTop, InStepsAtTop, OutStepsAtTop}
use Rattle.rina_tower.specs.ClockTick.{AreClocked, Ticks}
use Rattle.rina_tower.specs.Levels.{AtRank, AtWires, SameBelow}
use Rattle.rina_tower.proofs.Serving.{same_height}
use Rattle.rina_tower.proofs.Staying.{any_stays, difs_planned, one_stays, same_planned, serves_stays}
use Rattle.rina_words.specs.Step.{Passes, RoundsBy}

-- the ranks are as many, and each DIF is as it was planned where it was so before
abbrev pub Keeps : Plan → Tower → Tower → Type 0
Keeps plan t t' = (height_of t' ≡ height_of t) × (IsAsPlanned plan t → IsAsPlanned plan t')

pub keeps_same : (plan : Plan) (t t' : Tower) → t' ≡ t → Keeps plan t t'
keeps_same plan t t' same = subst (Keeps plan t) (sym same) (refl, λ h. h)

pub keeps_on : (plan : Plan) (t u v : Tower) → Keeps plan t u → Keeps plan u v → Keeps plan t v
keeps_on plan t u v h g = (g.0 ∙ h.0, λ x. g.1 (h.1 x))

-- nothing below the own rank
keeps_below : (plan : Plan) (t t' : Tower) → SameBelow t t' → Keeps plan t t'
keeps_below plan t t' same = (same_height t t' same, same_planned plan t t' same)

-- a rank on a tower
keeps_rank : (plan : Plan) (p p' : _) (difs difs' : List Dif) (below below' : Tower) → AreStaying difs difs' → Keeps plan below below' → Keeps plan (Rank' p difs below) (Rank' p' difs' below')
keeps_rank plan p p' difs difs' below below' stays k = (
  ap (λ (n : ℕ). n + 1) k.0,
  λ h. (subst (λ (n : ℕ). AreOfPlan plan (n + 1) difs') (sym k.0) (difs_planned plan (height_of below + 1) difs difs' stays h.0), k.1 h.1),
)

-- ---- at a rank

pub at_rank : (plan : Plan) (r : ℕ) (does : Tower → Tower → Type 0) (none : Type 0) (t t' : Tower) → ((u u' : Tower) → does u u' → Keeps plan u u') → AtRank r does none t t' → Keeps plan t t'
at_rank plan r does none (Wires a) (Wires a') next d = (refl, λ h. tt)
at_rank plan r does none (Rank' p difs below) (Rank' p' difs' below') next (inl d) = next (Rank' p difs below) (Rank' p' difs' below') d.1
at_rank plan r does none (Rank' p difs below) (Rank' p' difs' below') next (inr d) =
    let k = at_rank plan r does none below below' next d.2 in
    (ap (λ (n : ℕ). n + 1) k.0, λ h. (subst (λ (n : ℕ). AreOfPlan plan (n + 1) difs') (sym k.0) (subst (AreOfPlan plan (height_of below + 1)) (sym d.1) h.0), k.1 h.1))
at_rank plan r does none (Wires a) (Rank' p difs below) next d = absurd d
at_rank plan r does none (Rank' p difs below) (Wires a) next d = absurd d

pub at_wires : (plan : Plan) (does : Air → Air → Type 0) (t t' : Tower) → AtWires does t t' → Keeps plan t t'
at_wires plan does (Wires a) (Wires a') d = (refl, λ h. tt)
at_wires plan does (Rank' p difs below) (Rank' p' difs' below') d =
    let k = at_wires plan does below below' d.1 in
    (ap (λ (n : ℕ). n + 1) k.0, λ h. (subst (λ (n : ℕ). AreOfPlan plan (n + 1) difs') (sym k.0) (subst (AreOfPlan plan (height_of below + 1)) (sym d.0) h.0), k.1 h.1))
at_wires plan does (Wires a) (Rank' p difs below) d = absurd d
at_wires plan does (Rank' p difs below) (Wires a) d = absurd d

-- ---- calls of applications

answers : {T E : Type 0} (plan : Plan) (ipc : Bool) (u u' : Tower) (call : Result T E → Type 0) (r : Result T (AppError E)) → ((x : Result T E) → call x → Keeps plan u u') → Answers ipc call (u' ≡ u) r → Keeps plan u u'
answers plan ipc u u' call (Ok x) next d = next (Ok x) d.1
answers plan ipc u u' call (Err (Call e)) next d = next (Err e) d.1
answers plan ipc u u' call (Err NotYours) next d = keeps_same plan u u' d.1
answers plan ipc u u' call (Err NoRank) next d = absurd d

-- the call of an application at a rank
pub at_app : {T E : Type 0} (plan : Plan) (r : ℕ) (ipc : Tower → Bool) (call : Result T E → Tower → Tower → Type 0) (result : Result T (AppError E)) (t t' : Tower) → ((x : Result T E) (u u' : Tower) → call x u u' → Keeps plan u u') → AtRank r (λ u u'. Answers (ipc u) (λ x. call x u u') (u' ≡ u) result) (result ≡ Err NoRank) t t' → Keeps plan t t'
at_app plan r ipc call result t t' next d = at_rank plan r (λ u u'. Answers (ipc u) (λ x. call x u u') (u' ≡ u) result) (result ≡ Err NoRank) t t' (λ u u' e. answers plan (ipc u) u u' (λ x. call x u u') result (λ x c. next x u u' c) e) d

claims_for : (plan : Plan) (ipc : Bool) (u u' : Tower) (call : Option Port → Type 0) (r : Option Port) → (call r → Keeps plan u u') → ClaimsFor ipc call (u' ≡ u) r → Keeps plan u u'
claims_for plan true u u' call r next d = keeps_same plan u u' d.1
claims_for plan false u u' call r next d = next d

pub at_claim : (plan : Plan) (r : ℕ) (ipc : Bool) (call : Option Port → Tower → Tower → Type 0) (result : Option Port) (t t' : Tower) → ((u u' : Tower) → call result u u' → Keeps plan u u') → AtRank r (λ u u'. ClaimsFor ipc (λ x. call x u u') (u' ≡ u) result) (result ≡ None) t t' → Keeps plan t t'
at_claim plan r ipc call result t t' next d = at_rank plan r (λ u u'. ClaimsFor ipc (λ x. call x u u') (u' ≡ u) result) (result ≡ None) t t' (λ u u' e. claims_for plan ipc u u' (λ x. call x u u') result (λ c. next u u' c) e) d

pub registers : (plan : Plan) (fac node : ℕ) (app : List ℕ) (r : Result (Unit {0}) RegisterError) (t t' : Tower) → RegistersAtTop fac node app r t t' → Keeps plan t t'
registers plan fac node app r (Wires a) (Wires a') d = (refl, λ h. tt)
registers plan fac node app r (Rank' p difs below) (Rank' p' difs' below') d = keeps_below plan (Rank' p difs below) (Rank' p' difs' below') (any_stays _ _ _ difs difs' (λ x x' s. serves_stays _ _ x x' s.serves) d.0, d.1)
registers plan fac node app r (Wires a) (Rank' p difs below) d = absurd d
registers plan fac node app r (Rank' p difs below) (Wires a) d = absurd d

pub unregisters : (plan : Plan) (fac node : ℕ) (app : List ℕ) (r : Result (Unit {0}) UnregisterError) (t t' : Tower) → UnregistersAtTop fac node app r t t' → Keeps plan t t'
unregisters plan fac node app r (Wires a) (Wires a') d = (refl, λ h. tt)
unregisters plan fac node app r (Rank' p difs below) (Rank' p' difs' below') d = keeps_below plan (Rank' p difs below) (Rank' p' difs' below') (any_stays _ _ _ difs difs' (λ x x' s. serves_stays _ _ x x' s.serves) d.0, d.1)
unregisters plan fac node app r (Wires a) (Rank' p difs below) d = absurd d
unregisters plan fac node app r (Rank' p difs below) (Wires a) d = absurd d

pub allocates : (plan : Plan) (ask : Ask) (r : Result Port AllocateError) (t t' : Tower) → AllocatesAtTop ask r t t' → Keeps plan t t'
allocates plan ask r (Wires a) (Wires a') d = (refl, λ h. tt)
allocates plan ask r (Rank' p difs below) (Rank' p' difs' below') d = keeps_below plan (Rank' p difs below) (Rank' p' difs' below') (any_stays _ _ _ difs difs' (λ x x' s. serves_stays _ _ x x' s.serves) d.0, d.1)
allocates plan ask r (Wires a) (Rank' p difs below) d = absurd d
allocates plan ask r (Rank' p difs below) (Wires a) d = absurd d

pub claims : (plan : Plan) (fac node : ℕ) (app : List ℕ) (r : Option Port) (t t' : Tower) → ClaimsAtTop fac node app r t t' → Keeps plan t t'
claims plan fac node app r (Wires a) (Wires a') d = (refl, λ h. tt)
claims plan fac node app r (Rank' p difs below) (Rank' p' difs' below') d = keeps_below plan (Rank' p difs below) (Rank' p' difs' below') (any_stays _ _ _ difs difs' (λ x x' s. serves_stays _ _ x x' s) d.0, d.1)
claims plan fac node app r (Wires a) (Rank' p difs below) d = absurd d
claims plan fac node app r (Rank' p difs below) (Wires a) d = absurd d

pub sends : (plan : Plan) (port : Port) (bytes : List ℕ) (r : Result Num SendError) (t t' : Tower) → SendsAtTop port bytes r t t' → Keeps plan t t'
sends plan port bytes r (Wires a) (Wires a') d = (refl, λ h. tt)
sends plan port bytes r (Rank' p difs below) (Rank' p' difs' below') d = keeps_below plan (Rank' p difs below) (Rank' p' difs' below') (any_stays _ _ _ difs difs' (λ x x' s. serves_stays _ _ x x' s.serves) d.0, d.1)
sends plan port bytes r (Wires a) (Rank' p difs below) d = absurd d
sends plan port bytes r (Rank' p difs below) (Wires a) d = absurd d

pub frees : (plan : Plan) (port : Port) (r : Result (Unit {0}) FreeError) (t t' : Tower) → FreesAtTop port r t t' → Keeps plan t t'
frees plan port r (Wires a) (Wires a') d = (refl, λ h. tt)
frees plan port r (Rank' p difs below) (Rank' p' difs' below') d = keeps_below plan (Rank' p difs below) (Rank' p' difs' below') (any_stays _ _ _ difs difs' (λ x x' s. serves_stays _ _ x x' s.serves) d.0, d.1)
frees plan port r (Wires a) (Rank' p difs below) d = absurd d
frees plan port r (Rank' p difs below) (Wires a) d = absurd d

passes_here : (plan : Plan) (port : Port) (t t' : Tower) → PassesAtTop port t t' → Keeps plan t t'
passes_here plan port (Wires a) (Wires a') d = (refl, λ h. tt)
passes_here plan port (Rank' p difs below) (Rank' p' difs' below') d = keeps_below plan (Rank' p difs below) (Rank' p' difs' below') (one_stays _ _ difs difs' (λ x x' s. serves_stays _ _ x x' s.serves) d.0, d.1)
passes_here plan port (Wires a) (Rank' p difs below) d = absurd d
passes_here plan port (Rank' p difs below) (Wires a) d = absurd d

pub passes : (plan : Plan) (rank : ℕ) (port : Port) (t : Tower) (xs : List Entry) (t' : Tower) → Passes rank port t xs t' → Keeps plan t t'
passes plan rank port t [] t' d = keeps_same plan t t' d
passes plan rank port t (x ∷ xs) t' (mid, waits, one, others) = keeps_on plan t mid t' (at_rank plan rank (PassesAtTop port) ⊥ t mid (passes_here plan port) one) (passes plan rank port mid xs t' others)

-- ---- steps of a DIF

after_stays : (below below' : _) (d d' : Dif) → StandsAfter below below' d d' → IsStaying d d'
after_stays below below' d d' s = record { settings = s.settings; laid = s.laid }

pub ins : (plan : Plan) (dif node link : ℕ) (r : Result InStep StepError) (t t' : Tower) → InStepsAtTop dif node link r t t' → Keeps plan t t'
ins plan dif node link r (Wires a) (Wires a') d = (refl, λ h. tt)
ins plan dif node link r (Rank' p difs below) (Rank' p' difs' below') d = keeps_rank plan p p' difs difs' below below' (any_stays _ _ _ difs difs' (λ x x' s. after_stays _ _ x x' s.after) d.0) (keeps_below plan below below' d.1)
ins plan dif node link r (Wires a) (Rank' p difs below) d = absurd d
ins plan dif node link r (Rank' p difs below) (Wires a) d = absurd d

pub clocks : (plan : Plan) (dif node : ℕ) (r : Result ClockStep StepError) (t t' : Tower) → ClocksAtTop dif node r t t' → Keeps plan t t'
clocks plan dif node r (Wires a) (Wires a') d = (refl, λ h. tt)
clocks plan dif node r (Rank' p difs below) (Rank' p' difs' below') d = keeps_rank plan p p' difs difs' below below' (any_stays _ _ _ difs difs' (λ x x' s. after_stays _ _ x x' s.after) d.0) (keeps_below plan below below' d.1)
clocks plan dif node r (Wires a) (Rank' p difs below) d = absurd d
clocks plan dif node r (Rank' p difs below) (Wires a) d = absurd d

pub outs : (plan : Plan) (may : List ℕ → ℕ → List Head → ℕ → Type 0) (slots slots' : List Slot) (dif node link : ℕ) (r : Result OutStep StepError) (t t' : Tower) → OutStepsAtTop may slots slots' dif node link r t t' → Keeps plan t t'
outs plan may slots slots' dif node link r (Wires a) (Wires a') d = (refl, λ h. tt)
outs plan may slots slots' dif node link r (Rank' p difs below) (Rank' p' difs' below') d = keeps_rank plan p p' difs difs' below below' (any_stays _ _ _ difs difs' (λ x x' s. after_stays _ _ x x' s.after) d.0) (keeps_below plan below below' d.1)
outs plan may slots slots' dif node link r (Wires a) (Rank' p difs below) d = absurd d
outs plan may slots slots' dif node link r (Rank' p difs below) (Wires a) d = absurd d

pub enrols : (plan : Plan) (dif node fac peer : ℕ) (r : Result (Unit {0}) EnrolError) (t t' : Tower) → EnrolsAtTop dif node fac peer r t t' → Keeps plan t t'
enrols plan dif node fac peer r (Wires a) (Wires a') d = (refl, λ h. tt)
enrols plan dif node fac peer r (Rank' p difs below) (Rank' p' difs' below') d = keeps_rank plan p p' difs difs' below below' (any_stays _ _ _ difs difs' (λ x x' s. record { settings = s.settings; laid = s.laid }) d.0) (keeps_below plan below below' d.1)
enrols plan dif node fac peer r (Wires a) (Rank' p difs below) d = absurd d
enrols plan dif node fac peer r (Rank' p difs below) (Wires a) d = absurd d

asks_stays : (node : ℕ) (bytes : List ℕ) (r : Result (List ℕ) CdapCallError) (d d' : Dif) → AsksOne node bytes r d d' → IsStaying d d'
asks_stays node bytes r d d' s = record { settings = ap (λ (x : Dif). x.settings) s.keeps.is; laid = ap (λ (x : Dif). x.laid) s.keeps.is }

pub asks : (plan : Plan) (dif node : ℕ) (bytes : List ℕ) (r : Result (List ℕ) CdapCallError) (t t' : Tower) → AsksAtTop dif node bytes r t t' → Keeps plan t t'
asks plan dif node bytes r (Wires a) (Wires a') d = (refl, λ h. tt)
asks plan dif node bytes r (Rank' p difs below) (Rank' p' difs' below') d = keeps_below plan (Rank' p difs below) (Rank' p' difs' below') (any_stays _ _ _ difs difs' (asks_stays node bytes r) d.0, d.1)
asks plan dif node bytes r (Wires a) (Rank' p difs below) d = absurd d
asks plan dif node bytes r (Rank' p difs below) (Wires a) d = absurd d

-- ---- ticks and rounds

clocked_stays : (now : ℕ) (difs difs' : List Dif) → AreClocked now difs difs' → AreStaying difs difs'
clocked_stays now difs difs' c = record { number = c.number; each = λ n d d' at at'. (record { settings = ap (λ (x : Dif). x.settings) (c.each n d d' at at').rest; laid = ap (λ (x : Dif). x.laid) (c.each n d d' at at').rest }) }

pub tick : (plan : Plan) (r : Result (Unit {0}) TickError) (t t' : Tower) → Ticks r t t' → Keeps plan t t'
tick plan r (Wires a) (Wires a') d = (refl, λ h. tt)
tick plan r (Rank' p difs below) (Rank' p' difs' below') d = keeps_rank plan p p' difs difs' below below' (clocked_stays _ difs difs' d.0) (tick plan r below below' d.1)
tick plan r (Wires a) (Rank' p difs below) d = absurd d
tick plan r (Rank' p difs below) (Wires a) d = absurd d

moves : (plan : Plan) (m : Move) (slots slots' : List Slot) (t t' : Tower) → Moves m slots t slots' t' → Keeps plan t t'
moves plan (InMove p result) slots slots' t t' d = at_rank plan p.rank (InStepsAtTop p.dif p.node p.link result) _ t t' (ins plan p.dif p.node p.link result) d.1
moves plan (ClockMove p result) slots slots' t t' d = at_rank plan p.rank (ClocksAtTop p.dif p.node result) _ t t' (clocks plan p.dif p.node result) d.1
moves plan (OutMove p result) slots slots' t t' d = at_rank plan p.rank (OutStepsAtTop Anything slots slots' p.dif p.node p.link result) _ t t' (outs plan Anything slots slots' p.dif p.node p.link result) d

all_move : (plan : Plan) (ms : List Move) (slots slots' : List Slot) (t t' : Tower) → AllMove ms slots t slots' t' → Keeps plan t t'
all_move plan [] slots slots' t t' d = keeps_same plan t t' d.1
all_move plan (m ∷ ms) slots slots' t t' (mid, between, one, others) = keeps_on plan t between t' (moves plan m slots mid t between one) (all_move plan ms mid slots' between t' others)

pub round : (plan : Plan) (slots slots' : List Slot) (t t' : Tower) → IsRound slots slots' t t' → Keeps plan t t'
round plan slots slots' t t' d =
    let taken = all_move plan d.takes slots slots t d.taken d.do_take in
    let clocked = all_move plan d.dues slots slots d.taken d.clocked d.do_dues in
    keeps_on plan t d.clocked t' (keeps_on plan t d.taken d.clocked taken clocked) (all_move plan d.leaves slots slots' d.clocked t' d.do_leave)

pub rounds_by : (plan : Plan) (rounds : Rounds) (slots slots' : List Slot) (t t' : Tower) → RoundsBy rounds slots t slots' t' → Keeps plan t t'
rounds_by plan Auto slots slots' t t' d = round plan slots slots' t t' d
rounds_by plan Manual slots slots' t t' d = keeps_same plan t t' d.1
