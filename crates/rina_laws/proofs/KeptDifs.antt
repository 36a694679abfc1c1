-- What each call and each step of a DIF keeps, each call at a rank of a tower keeps of all its DIFs.
use Rattle.std.proofs.Common.{◌≡◌, ◌∙◌, ℕ, ◌+◌, ◌≤◌, arith, List, slice_get, Option, Some, Result, Err, OnErr, false, refl, sym, ap, subst, inl, inr}
use Rattle.rina_base.specs.declared.number.Num.{Num}
use Rattle.rina_base.specs.declared.number.Port.{Port}
use Rattle.rina_iface.specs.declared.ask.Ask.{Ask}
use Rattle.rina_iface.specs.declared.error.AllocateError.{AllocateError}
use Rattle.rina_iface.specs.declared.error.FreeError.{FreeError}
use Rattle.rina_iface.specs.declared.error.RegisterError.{RegisterError}
use Rattle.rina_iface.specs.declared.error.RegisterError.TheVariants as register
use Rattle.rina_iface.specs.declared.error.SendError.{SendError}
use Rattle.rina_iface.specs.declared.error.UnregisterError.{UnregisterError}
use Rattle.rina_iface.specs.Claim.{Claims}
use Rattle.rina_iface.specs.Journal.{AreKept}
use Rattle.rina_iface.specs.Seen.{Seen}
use Rattle.rina_iface.proofs.Changed.{set_at}
use Rattle.rina_law.specs.Direction.{Direction}
use Rattle.rina_data.specs.declared.step.ClockStep.{ClockStep}
use Rattle.rina_data.specs.declared.step.InStep.{InStep}
use Rattle.rina_data.specs.declared.step.StepError.{StepError}
use Rattle.rina_data.specs.declared.step.StepError.TheVariants as step
use Rattle.rina_dif.specs.declared.cdap.CdapCallError.{CdapCallError}
use Rattle.rina_dif.specs.declared.dif.Dif.{Dif}
use Rattle.rina_dif.specs.declared.enrol.EnrolError.{EnrolError}
use Rattle.rina_dif.specs.declared.enrol.EnrolError.TheVariants as enrol
use Rattle.rina_dif.specs.Clocking.{ClockSteps}
use Rattle.rina_dif.specs.Enrolling.{EnrolsAs}
use Rattle.rina_dif.specs.Facade.{GoesOn, NotesMemory}
use Rattle.rina_dif.specs.Holding.{Holds, Stands}
use Rattle.rina_dif.specs.Registering.{RegistersManaged}
use Rattle.rina_dif.specs.Taking.{TakesHome}
use Rattle.rina_dif.specs.Whole.{IsDif}
use Rattle.rina_tower.specs.declared.tower.Tower.{Tower, Wires, Rank'}
use Rattle.rina_tower.specs.Calls.{AllocatesAtTop, AllocatesFrom, ClaimsAtTop, FreesAtTop, FreesFrom, PassesAtTop, PassesFrom, RegistersAtTop, RegistersFrom, SendsAtTop, SendsFrom, Serves, UnregistersAtTop, UnregistersFrom}
use Rattle.rina_tower.specs.Cdap.{AsksAtTop, AsksOne}
use Rattle.rina_tower.specs.Levels.{AtDif, AtRank, AtWires, IsAtDif}
use Rattle.rina_tower.specs.Ranks.{height_of, now_of, seen_now}
use Rattle.rina_tower.specs.Stands.{IsTower}
use Rattle.rina_tower.specs.Unchanged.{ChangesClaims}
use Rattle.rina_tower.proofs.Serving.{rank_difs}
use Rattle.rina_wire.specs.Air.{Air}
use Rattle.rina_asked.specs.Calls.{AllocateKeeps, CdapKeeps, ClockKeeps, EnrolKeeps, FreeAsksKeeps, InKeeps, IncomingKeeps, OutKeeps, PassKeeps, SendKeeps, Stays, TimeKeeps, UnregisterKeeps}
use Rattle.rina_laws.specs.Messages.{WhileAlive}

-- a member asks to enrol, an SDU comes on a link, or what is due is done, as the settings stay
abbrev pub EnrolSetKeeps : (Dif → Type 0) → Type 0
EnrolSetKeeps P = (d d' : Dif) (below below' : Seen) (own : Ask → Option AllocateError) (node fac peer : ℕ) (result : Result (Unit {0}) EnrolError) → (d.failed ≡ false → EnrolsAs own d below node fac peer result d' below') → NotesMemory d d' result (Err enrol.Memory) → d'.settings ≡ d.settings → Stays P d d'

abbrev pub InSetKeeps : (Dif → Type 0) → Type 0
InSetKeeps P = (d d' : Dif) (below below' : Seen) (node link : ℕ) (result : Result InStep StepError) → AreKept below → AreKept below' → Stands d below → ((lines : List Direction) → Holds d lines below → TakesHome d lines below node link result d' below') → NotesMemory d d' result (Err step.Memory) → d'.settings ≡ d.settings → Stays P d d'

abbrev pub ClockSetKeeps : (Dif → Type 0) → Type 0
ClockSetKeeps P = (d d' : Dif) (below below' : Seen) (node : ℕ) (result : Result ClockStep StepError) → Stands d below → ((lines : List Direction) → Holds d lines below → ClockSteps d lines below node result d' below') → OnErr result (d'.connections ≡ d.connections) → GoesOn d d' → NotesMemory d d' result (Err step.Memory) → d'.settings ≡ d.settings → Stays P d d'

pub enrol_set : (P : Dif → Type 0) → EnrolKeeps P → EnrolSetKeeps P
enrol_set P keeps d d' below below' own node fac peer result does notes set = keeps d d' below below' own node fac peer result does notes

pub in_set : (P : Dif → Type 0) → InKeeps P → InSetKeeps P
in_set P keeps d d' below below' node link result kept kept' st does notes set = keeps d d' below below' node link result kept kept' st does notes

pub clock_set : (P : Dif → Type 0) → ClockKeeps P → ClockSetKeeps P
clock_set P keeps d d' below below' node result st does ok goes notes set = keeps d d' below below' node result st does ok goes notes

-- each call and each step of a DIF keeps it, but for one that registers a name
pub record IsKept (P : Dif → Type 0) : Type 0 where
  pub allocated : AllocateKeeps P
  pub claimed : IncomingKeeps P
  pub sent : SendKeeps P
  pub passed : PassKeeps P
  pub freed : FreeAsksKeeps P
  pub unregistered : UnregisterKeeps P
  pub answered : CdapKeeps P
  pub enrolled : EnrolSetKeeps P
  pub taken : InSetKeeps P
  pub left : OutKeeps P
  pub clocked : ClockSetKeeps P
  pub timed : TimeKeeps P

-- one that registers this name at this node no earlier than at a tick, and answers so, keeps it
abbrev pub Registering : (Dif → Type 0) → (tick node : ℕ) → List ℕ → Result (Unit {0}) RegisterError → Type 0
Registering P tick node app result = (d d' : Dif) → IsDif d → tick ≤ d.clock → RegistersManaged result d node app d'.managements → d' ≡ record d { names = d'.names; managements = d'.managements; failed = d'.failed } → NotesMemory d d' result (Err register.Memory) → Stays P d d'

-- each DIF of a rank has what is said of its place, while no allocation failed in it
abbrev pub Each : (ℕ → Dif → Type 0) → List Dif → Type 0
Each P difs = (n : ℕ) (d : Dif) → slice_get difs n ≡ Some d → WhileAlive (P n) d

-- and each DIF of a tower what is said of its rank and its place
abbrev pub EachHas : (ℕ → ℕ → Dif → Type 0) → Tower → Type 0
EachHas P (Wires a) = Unit {0}
EachHas P (Rank' p difs below) = Each (P (height_of below + 1)) difs × EachHas P below

-- a tower has as many ranks as before, and where each of its DIFs had it, each has it
pub record Keeps (P : ℕ → ℕ → Dif → Type 0) (t t' : Tower) : Type 0 where
  pub high : height_of t' ≡ height_of t
  pub keeps : EachHas P t → EachHas P t'

pub keeps_is : (P : ℕ → ℕ → Dif → Type 0) (t t' : Tower) → t' ≡ t → Keeps P t t'
keeps_is P t t' is = record { high = ap height_of is; keeps = λ e. subst (EachHas P) (sym is) e }

pub keeps_on : (P : ℕ → ℕ → Dif → Type 0) (t u v : Tower) → Keeps P t u → Keeps P u v → Keeps P t v
keeps_on P t u v f g = record { high = g.high ∙ f.high; keeps = λ e. g.keeps (f.keeps e) }

-- wires have no DIF
pub no_difs : (P : ℕ → ℕ → Dif → Type 0) (a a' : Air) → Keeps P (Wires a) (Wires a')
no_difs P a a' = record { high = refl; keeps = λ e. tt }

-- a rank, and what is below it
pub both : (P : ℕ → ℕ → Dif → Type 0) (p p' : _) (difs difs' : List Dif) (below below' : Tower) → (Each (P (height_of below + 1)) difs → Each (P (height_of below + 1)) difs') → Keeps P below below' → Keeps P (Rank' p difs below) (Rank' p' difs' below')
both P p p' difs difs' below below' rank rest = record {
  high = ap (λ (h : ℕ). h + 1) rest.high;
  keeps = λ e. (subst (λ (h : ℕ). Each (P (h + 1)) difs') (sym rest.high) (rank e.0), rest.keeps e.1);
}

-- ---- the DIFs of a rank

pub each_one : (P : ℕ → Dif → Type 0) (does : Dif → Dif → Type 0) (n : ℕ) (difs difs' : List Dif) → ((d d' : Dif) → slice_get difs n ≡ Some d → does d d' → Stays (P n) d d') → IsAtDif does n difs difs' → Each P difs → Each P difs'
each_one P does n difs difs' keeps h e m x at = elim (set_at difs n m h.dif h.dif' x h.is_dif (subst (λ (ds : List Dif). slice_get ds m ≡ Some x) h.new_is at)) [
  | inl s ↦ subst (λ (k : ℕ). WhileAlive (P k) x) (sym s.0) (subst (WhileAlive (P n)) (sym s.1) (keeps h.dif h.dif' h.is_dif h.done (e n h.dif h.is_dif)))
  | inr o ↦ e m x o.1
]

pub each_any : (P : ℕ → Dif → Type 0) (does : Dif → Dif → Type 0) (n : ℕ) (none : Type 0) (difs difs' : List Dif) → ((d d' : Dif) → slice_get difs n ≡ Some d → does d d' → Stays (P n) d d') → AtDif n does none difs difs' → Each P difs → Each P difs'
each_any P does n none difs difs' keeps a e = elim a [
  | inl h ↦ each_one P does n difs difs' keeps h e
  | inr h ↦ subst (Each P) (sym h.2) e
]

-- on a rank below that stays as it was
here : (P : ℕ → ℕ → Dif → Type 0) (p p' : _) (difs difs' : List Dif) (below below' : Tower) → (Each (P (height_of below + 1)) difs → Each (P (height_of below + 1)) difs') → below' ≡ below → Keeps P (Rank' p difs below) (Rank' p' difs' below')
here P p p' difs difs' below below' rank same = both P p p' difs difs' below below' rank (keeps_is P below below' same)

-- ---- at a rank

pub at_rank : (P : ℕ → ℕ → Dif → Type 0) (r : ℕ) (does : Tower → Tower → Type 0) (none : Type 0) (t t' : Tower) → IsTower t → ((u u' : Tower) → height_of u ≡ r → now_of u ≡ now_of t → IsTower u → does u u' → Keeps P u u') → AtRank r does none t t' → Keeps P t t'
at_rank P r does none (Wires a) (Wires a') v next d = no_difs P a a'
at_rank P r does none (Rank' p difs below) (Rank' p' difs' below') v next (inl d) = next (Rank' p difs below) (Rank' p' difs' below') (sym d.0) refl v d.1
at_rank P r does none (Rank' p difs below) (Rank' p' difs' below') v next (inr d) = both P p p' difs difs' below below' (λ e. subst (Each (P (height_of below + 1))) (sym d.1) e) (at_rank P r does none below below' v.1 next d.2)
at_rank P r does none (Wires a) (Rank' p difs below) v next d = absurd d
at_rank P r does none (Rank' p difs below) (Wires a) v next d = absurd d

-- what happens to a wire changes no DIF
pub at_wires : (P : ℕ → ℕ → Dif → Type 0) (does : Air → Air → Type 0) (t t' : Tower) → AtWires does t t' → Keeps P t t'
at_wires P does (Wires a) (Wires a') d = no_difs P a a'
at_wires P does (Rank' p difs below) (Rank' p' difs' below') d = both P p p' difs difs' below below' (λ e. subst (Each (P (height_of below + 1))) (sym d.0) e) (at_wires P does below below' d.1)
at_wires P does (Wires a) (Rank' p difs below) d = absurd d
at_wires P does (Rank' p difs below) (Wires a) d = absurd d

-- ---- the calls

module _ (P : ℕ → ℕ → Dif → Type 0) (k : (r n : ℕ) → IsKept (P r n)) where
  pub registers : (tick fac node : ℕ) (app : List ℕ) (x : Result (Unit {0}) RegisterError) (u u' : Tower) → IsTower u → tick ≤ now_of u → Registering (P (height_of u) fac) tick node app x → RegistersAtTop fac node app x u u' → Keeps P u u'
  registers tick fac node app x (Wires a) (Wires a') v le reg d = no_difs P a a'
  registers tick fac node app x (Rank' p difs below) (Rank' p' difs' below') v le reg d =
      here P p p' difs difs' below below' (each_any (P (height_of below + 1)) (RegistersFrom fac node app x) fac _ difs difs' (λ y y' at s. reg y y' (rank_difs difs below v.0 fac y at) (in_time y at) s.managed s.serves.rest s.notes) d.0) d.1
    where
      in_time : (y : Dif) → slice_get difs fac ≡ Some y → tick ≤ y.clock
      in_time y at = (let stood = v.0.standing.stand fac y at in let clock = stood.1.standing.clock in let same = seen_now below in omega (arith, le, clock, same))
  registers tick fac node app x (Wires a) (Rank' p difs below) v le reg d = absurd d
  registers tick fac node app x (Rank' p difs below) (Wires a) v le reg d = absurd d

  pub unregisters : (fac node : ℕ) (app : List ℕ) (x : Result (Unit {0}) UnregisterError) (u u' : Tower) → UnregistersAtTop fac node app x u u' → Keeps P u u'
  unregisters fac node app x (Wires a) (Wires a') d = no_difs P a a'
  unregisters fac node app x (Rank' p difs below) (Rank' p' difs' below') d = here P p p' difs difs' below below' (each_any (P (height_of below + 1)) (UnregistersFrom fac node app x) fac _ difs difs' (λ y y' at s. (k (height_of below + 1) fac).unregistered y y' node app x s.managed s.serves.rest s.notes) d.0) d.1
  unregisters fac node app x (Wires a) (Rank' p difs below) d = absurd d
  unregisters fac node app x (Rank' p difs below) (Wires a) d = absurd d

  pub allocates : (ask : Ask) (x : Result Port AllocateError) (u u' : Tower) → IsTower u → AllocatesAtTop ask x u u' → Keeps P u u'
  allocates ask x (Wires a) (Wires a') v d = no_difs P a a'
  allocates ask x (Rank' p difs below) (Rank' p' difs' below') v d = here P p p' difs difs' below below' (each_any (P (height_of below + 1)) (AllocatesFrom ask x) ask.fac _ difs difs' (λ y y' at s. (k (height_of below + 1) ask.fac).allocated y y' ask x (rank_difs difs below v.0 ask.fac y at) s.does s.requests s.serves.goes_on s.serves.rest s.notes) d.0) d.1
  allocates ask x (Wires a) (Rank' p difs below) v d = absurd d
  allocates ask x (Rank' p difs below) (Wires a) v d = absurd d

  pub claims : (fac node : ℕ) (app : List ℕ) (x : Option Port) (u u' : Tower) → ClaimsAtTop fac node app x u u' → Keeps P u u'
  claims fac node app x (Wires a) (Wires a') d = no_difs P a a'
  claims fac node app x (Rank' p difs below) (Rank' p' difs' below') d = here P p p' difs difs' below below' (each_any (P (height_of below + 1)) (Serves (λ s s'. Claims s fac node app x s') ChangesClaims fac) fac _ difs difs' (λ y y' at s. (k (height_of below + 1) fac).claimed y y' s.rest) d.0) d.1
  claims fac node app x (Wires a) (Rank' p difs below) d = absurd d
  claims fac node app x (Rank' p difs below) (Wires a) d = absurd d

  pub sends : (port : Port) (bytes : List ℕ) (x : Result Num SendError) (u u' : Tower) → IsTower u → SendsAtTop port bytes x u u' → Keeps P u u'
  sends port bytes x (Wires a) (Wires a') v d = no_difs P a a'
  sends port bytes x (Rank' p difs below) (Rank' p' difs' below') v d = here P p p' difs difs' below below' (each_any (P (height_of below + 1)) (SendsFrom port bytes x) port.fac _ difs difs' (λ y y' at s. (k (height_of below + 1) port.fac).sent y y' port bytes x (rank_difs difs below v.0 port.fac y at) s.does s.serves.goes_on s.serves.rest s.notes) d.0) d.1
  sends port bytes x (Wires a) (Rank' p difs below) v d = absurd d
  sends port bytes x (Rank' p difs below) (Wires a) v d = absurd d

  pub passes : (port : Port) (u u' : Tower) → IsTower u → PassesAtTop port u u' → Keeps P u u'
  passes port (Wires a) (Wires a') v d = no_difs P a a'
  passes port (Rank' p difs below) (Rank' p' difs' below') v d = here P p p' difs difs' below below' (each_one (P (height_of below + 1)) (PassesFrom port) port.fac difs difs' (λ y y' at s. (k (height_of below + 1) port.fac).passed y y' port (rank_difs difs below v.0 port.fac y at) s.does s.serves.goes_on s.serves.rest) d.0) d.1
  passes port (Wires a) (Rank' p difs below) v d = absurd d
  passes port (Rank' p difs below) (Wires a) v d = absurd d

  pub frees : (port : Port) (x : Result (Unit {0}) FreeError) (u u' : Tower) → IsTower u → FreesAtTop port x u u' → Keeps P u u'
  frees port x (Wires a) (Wires a') v d = no_difs P a a'
  frees port x (Rank' p difs below) (Rank' p' difs' below') v d = here P p p' difs difs' below below' (each_any (P (height_of below + 1)) (FreesFrom port x) port.fac _ difs difs' (λ y y' at s. (k (height_of below + 1) port.fac).freed y y' port x (rank_difs difs below v.0 port.fac y at) s.does s.managed s.serves.goes_on s.serves.rest s.asks s.notes) d.0) d.1
  frees port x (Wires a) (Rank' p difs below) v d = absurd d
  frees port x (Rank' p difs below) (Wires a) v d = absurd d

  pub asks : (dif node : ℕ) (bytes : List ℕ) (x : Result (List ℕ) CdapCallError) (u u' : Tower) → AsksAtTop dif node bytes x u u' → Keeps P u u'
  asks dif node bytes x (Wires a) (Wires a') d = no_difs P a a'
  asks dif node bytes x (Rank' p difs below) (Rank' p' difs' below') d = here P p p' difs difs' below below' (each_any (P (height_of below + 1)) (AsksOne node bytes x) dif _ difs difs' (λ y y' at s. (k (height_of below + 1) dif).answered y y' s.keeps) d.0) d.1
  asks dif node bytes x (Wires a) (Rank' p difs below) d = absurd d
  asks dif node bytes x (Rank' p difs below) (Wires a) d = absurd d
