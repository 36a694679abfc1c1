-- What each call and each step of a DIF keeps, each step at a rank of a tower keeps of all its DIFs, and of those of the ranks below.
use Rattle.std.proofs.Common.{◌≡◌, ℕ, ◌+◌, zero, suc, true, false, List, [], ◌∷◌, Option, Some, None, Result, Ok, Err, refl, ap, sym, subst, arith, inl, inr, ◌⊎◌}
use Rattle.std.proofs.lemmas.Option.{slice_get_within}
use Rattle.rina_base.specs.declared.cause.Cause.{Cause}
use Rattle.rina_base.specs.declared.cause.Cause.TheVariants.{LinkDown}
use Rattle.rina_base.specs.declared.number.Num.{Num}
use Rattle.rina_base.specs.declared.number.Port.{Port}
use Rattle.rina_iface.specs.declared.error.FreeError.{FreeError}
use Rattle.rina_iface.specs.declared.error.FreeError.TheVariants as freeing
use Rattle.rina_iface.specs.declared.error.SendError.{SendError}
use Rattle.rina_iface.specs.Free.{FreesAsSeen}
use Rattle.rina_iface.specs.Pass.{PassesAsSeen}
use Rattle.rina_iface.specs.Send.{SendsAsSeen}
use Rattle.rina_policy.specs.Slots.{Slot}
use Rattle.rina_data.specs.declared.step.ClockStep.{ClockStep}
use Rattle.rina_data.specs.declared.step.ClockStep.TheVariants as clocks
use Rattle.rina_data.specs.declared.step.InStep.{InStep}
use Rattle.rina_data.specs.declared.step.InStep.TheVariants as ins
use Rattle.rina_data.specs.declared.step.OutStep.{OutStep}
use Rattle.rina_data.specs.declared.step.OutStep.TheVariants as outs
use Rattle.rina_data.specs.declared.step.StepError.{StepError}
use Rattle.rina_data.specs.declared.step.StepError.TheVariants.{CountSpent, Memory, NoIpc, NoLink}
use Rattle.rina_data.specs.Lower.{IsRefused, PassesBelow, SendsBelow, WritesOffBelow}
use Rattle.rina_data.proofs.Finding.{there}
use Rattle.rina_dif.specs.declared.dif.Dif.{Dif}
use Rattle.rina_dif.specs.declared.enrol.EnrolError.{EnrolError}
use Rattle.rina_dif.specs.Lower.{ClaimsInTurn, ClocksBelow, FindsNone, FreesAs, FreesNone, HasAsked}
use Rattle.rina_wire.specs.declared.tick.TickError.{TickError}
use Rattle.rina_tower.specs.declared.tower.Tower.{Tower, Wires, Rank'}
use Rattle.rina_tower.specs.Calls.{ClaimsAtTop, FreesWhole, PassesAtTop, SendsWhole}
use Rattle.rina_tower.specs.ClockTick.{AreClocked, Ticks}
use Rattle.rina_tower.specs.Enrolling.{EnrolsAtTop, EnrolsOne}
use Rattle.rina_tower.specs.MemoryFailure.{has_failed}
use Rattle.rina_tower.specs.Ranks.{height_of, now_of, seen_of}
use Rattle.rina_tower.specs.Refusals.{frees_both, refuses_allocate, refuses_send}
use Rattle.rina_tower.specs.Rounds.{AllMove, Anything, ClockMove, InMove, IsRound, Move, Moves, OutMove}
use Rattle.rina_tower.specs.Stands.{IsTower, kept_of}
use Rattle.rina_tower.specs.Steps.{ClocksAtTop, ClocksOne, InStepsAtTop, OutStepsAtTop, SendsOne, TakesOne, claimant}
use Rattle.rina_asked.proofs.Keeps.{alive}
use Rattle.rina_laws.proofs.Enrolled.{AsksOnce, enrol_asks}
use Rattle.rina_laws.proofs.KeptDifs.{Each, IsKept, Keeps, allocates, at_rank, both, claims, each_any, frees, keeps_is, keeps_on, no_difs, passes, sends}
use Rattle.rina_laws.proofs.WrittenCalls as written
use Rattle.rina_laws.proofs.WrittenGrows.{Never}
use Rattle.rina_laws.proofs.WrittenSteps as stepped

module _ (P : ℕ → ℕ → Dif → Type 0) (k : (r n : ℕ) → IsKept (P r n)) where
  -- ---- what a step does at the rank below

  taken_below : (x : Result InStep StepError) (b b' : Tower) → IsTower b → PassesBelow (b' ≡ b) (PassesAsSeen seen_of (λ t port t'. PassesAtTop port t t') b b') x → Keeps P b b'
  taken_below (Ok ins.Idle) b b' v d = keeps_is P b b' d
  taken_below (Ok (ins.Took key end)) b b' v d = passes P k d.0 b b' v d.1.2
  taken_below (Err Memory) b b' v (inl d) = keeps_is P b b' d
  taken_below (Err Memory) b b' v (inr d) = passes P k d.0 b b' v d.1.2
  taken_below (Err NoIpc) b b' v d = keeps_is P b b' d
  taken_below (Err NoLink) b b' v d = keeps_is P b b' d
  taken_below (Err (CountSpent need left)) b b' v d = keeps_is P b b' d

  sent_below : (port : Port) (bytes : List ℕ) (r : Result Num SendError) (b b' : Tower) → IsTower b → SendsAsSeen seen_of refuses_send SendsWhole b b' port bytes r → Keeps P b b'
  sent_below port bytes r b b' v d = elim (has_failed b) as (λ z. has_failed b ≡ z → Keeps P b b') [
    | true ↦ λ is. keeps_is P b b' (d.1.1 is).1
    | false ↦ λ is. sends P k port bytes r b b' v (d.1.0 is)
  ] refl

  written_below : (cause : Cause) (b b' : Tower) → IsTower b → WritesOffBelow (b' ≡ b) (IsRefused (SendsAsSeen seen_of refuses_send SendsWhole b b')) cause → Keeps P b b'
  written_below (LinkDown port) b b' v d = sent_below port d.0 (Err d.1) b b' v d.2
  written_below cause b b' v d = keeps_is P b b' d

  left_below : (x : Result OutStep StepError) (b b' : Tower) → IsTower b → SendsBelow (b' ≡ b) (SendsAsSeen seen_of refuses_send SendsWhole b b') x → Keeps P b b'
  left_below (Ok outs.Idle) b b' v d = keeps_is P b b' d
  left_below (Ok (outs.Sent key)) b b' v d = sent_below d.0 d.1 (Ok d.2) b b' v d.3
  left_below (Ok (outs.Off key cause)) b b' v d = written_below cause b b' v d
  left_below (Ok (outs.Held why)) b b' v d = sent_below d.0 d.1 (Err why) b b' v d.2
  left_below (Err Memory) b b' v (inl d) = keeps_is P b b' d
  left_below (Err Memory) b b' v (inr d) = sent_below d.0 d.1.0 (Err d.1.1) b b' v d.1.2
  left_below (Err NoIpc) b b' v d = keeps_is P b b' d
  left_below (Err NoLink) b b' v d = keeps_is P b b' d
  left_below (Err (CountSpent need left)) b b' v d = keeps_is P b b' d

  -- ---- claims and frees of a clock step

  -- the tower stands, and each DIF has what it had
  pub record Sure (t t' : Tower) : Type 0 where
    pub valid : IsTower t'
    pub keeps : Keeps P t t'

  pub sure_is : (t t' : Tower) → IsTower t → t' ≡ t → Sure t t'
  sure_is t t' v is = record { valid = subst IsTower (sym is) v; keeps = keeps_is P t t' is }

  pub sure_on : (t u v : Tower) → Sure t u → Sure u v → Sure t v
  sure_on t u v f g = record { valid = g.valid; keeps = keeps_on P t u v f.keeps g.keeps }

  claims_sure : (fac node : ℕ) (app : List ℕ) (x : Option Port) (t t' : Tower) → IsTower t → ClaimsAtTop fac node app x t t' → Sure t t'
  claims_sure fac node app x t t' v d = record { valid = (written.claims Never fac node app x t t' v d).valid; keeps = claims P k fac node app x t t' d }

  finds_none : (node : ℕ) (app : List ℕ) (n : ℕ) (t t' : Tower) → IsTower t → FindsNone (λ u fac answer u'. ClaimsAtTop fac node app answer u u') n t t' → Sure t t'
  finds_none node app zero t t' v d = sure_is t t' v d
  finds_none node app (suc n) t t' v (mid, before, last) = (let f = finds_none node app n t mid v before in sure_on t mid t' f (claims_sure n node app None mid t' f.valid last))

  in_turn : (node : ℕ) (app : List ℕ) (x : Option Port) (t t' : Tower) → IsTower t → ClaimsInTurn (λ u fac answer u'. ClaimsAtTop fac node app answer u u') t x t' → Sure t t'
  in_turn node app (Some port) t t' v (fac, mid, before, last) = (let f = finds_none node app fac t mid v before in sure_on t mid t' f (claims_sure fac node app (Some port) mid t' f.valid last))
  in_turn node app None t t' v (n, before) = finds_none node app n t t' v before

  freed_there : (port : Port) (r : Result (Unit {0}) FreeError) (b b' : Tower) → IsTower b → FreesAsSeen seen_of frees_both FreesWhole b b' port r → Keeps P b b'
  freed_there port r b b' v d = elim (has_failed b) as (λ z. has_failed b ≡ z → Keeps P b b') [
    | true ↦ λ is. keeps_is P b b' (d.1.1 is).1
    | false ↦ λ is. frees P k port r b b' v (d.1.0 is)
  ] refl

  freed_as : (done : ClockStep) (b b' : Tower) → IsTower b → FreesAs (b' ≡ b) (FreesAsSeen seen_of frees_both FreesWhole b b') done → Keeps P b b'
  freed_as (clocks.GaveUp num) b b' v (inl d) = keeps_is P b b' d.1
  freed_as (clocks.GaveUp num) b b' v (inr d) = freed_there d.1 (Ok tt) b b' v d.2
  freed_as clocks.Idle b b' v d = keeps_is P b b' d
  freed_as (clocks.Gone cep) b b' v d = keeps_is P b b' d
  freed_as (clocks.Ack cep) b b' v d = keeps_is P b b' d
  freed_as (clocks.Again num) b b' v d = keeps_is P b b' d
  freed_as (clocks.LinkLost link) b b' v d = keeps_is P b b' d
  freed_as (clocks.LinkNew link) b b' v d = keeps_is P b b' d
  freed_as (clocks.Timeout port) b b' v d = keeps_is P b b' d
  freed_as (clocks.Message link) b b' v d = keeps_is P b b' d

  freed_none : (b b' : Tower) → IsTower b → FreesNone (b' ≡ b) (FreesAsSeen seen_of frees_both FreesWhole b b') → Keeps P b b'
  freed_none b b' v (inl d) = keeps_is P b b' d
  freed_none b b' v (inr d) = freed_there d.0 (Err freeing.Memory) b b' v d.1

  module _ (node : ℕ) (app : List ℕ) (b b' : Tower) (v : IsTower b) where
    asked_then : (mid : Tower) → HasAsked (λ u fac answer u'. ClaimsAtTop fac node app answer u u') b mid → (IsTower mid → Keeps P mid b') → Keeps P b b'
    asked_then mid asked next = (let f = in_turn node app asked.0 b mid v asked.1 in keeps_on P b mid b' f.keeps (next f.valid))

    clocked_below : (x : Result ClockStep StepError) → ClocksBelow (λ u fac answer u'. ClaimsAtTop fac node app answer u u') (FreesAsSeen seen_of frees_both FreesWhole) b x b' → Keeps P b b'
    clocked_below (Ok (clocks.LinkLost link)) d = keeps_is P b b' d
    clocked_below (Ok (clocks.LinkNew link)) d = (in_turn node app (Some d.0) b b' v d.1).keeps
    clocked_below (Ok clocks.Idle) d = asked_then d.mid d.asked (λ w. freed_as clocks.Idle d.mid b' w d.does)
    clocked_below (Ok (clocks.Gone cep)) d = asked_then d.mid d.asked (λ w. freed_as (clocks.Gone cep) d.mid b' w d.does)
    clocked_below (Ok (clocks.GaveUp num)) d = asked_then d.mid d.asked (λ w. freed_as (clocks.GaveUp num) d.mid b' w d.does)
    clocked_below (Ok (clocks.Ack cep)) d = asked_then d.mid d.asked (λ w. freed_as (clocks.Ack cep) d.mid b' w d.does)
    clocked_below (Ok (clocks.Again num)) d = asked_then d.mid d.asked (λ w. freed_as (clocks.Again num) d.mid b' w d.does)
    clocked_below (Ok (clocks.Timeout port)) d = asked_then d.mid d.asked (λ w. freed_as (clocks.Timeout port) d.mid b' w d.does)
    clocked_below (Ok (clocks.Message link)) d = asked_then d.mid d.asked (λ w. freed_as (clocks.Message link) d.mid b' w d.does)
    clocked_below (Err Memory) d = asked_then d.mid d.asked (λ w. freed_none d.mid b' w d.does)
    clocked_below (Err NoIpc) d = keeps_is P b b' d
    clocked_below (Err NoLink) d = keeps_is P b b' d
    clocked_below (Err (CountSpent need left)) d = keeps_is P b b' d

  -- ---- steps of a DIF

  pub takes : (dif node link : ℕ) (x : Result InStep StepError) (u u' : Tower) → IsTower u → InStepsAtTop dif node link x u u' → Keeps P u u'
  takes dif node link x (Wires a) (Wires a') v d = no_difs P a a'
  takes dif node link x (Rank' p difs below) (Rank' p' difs' below') v d =
      let Does : Dif → Dif → Type 0 = TakesOne (seen_of below) node link x (seen_of below') in
      let after = (stepped.takes dif node link x (Rank' p difs below) (Rank' p' difs' below') v d).valid in
      both P p p' difs difs' below below' (each_any (P (height_of below + 1)) Does dif _ difs difs' (λ y y' at s. (k (height_of below + 1) dif).taken y y' (seen_of below) (seen_of below') node link x (kept_of below v.1) (kept_of below' after.1) (v.0.standing.stand dif y at) s.does s.notes (ap (λ (z : Dif). z.settings) s.rest)) d.0) (taken_below x below below' v.1 d.2)
  takes dif node link x (Wires a) (Rank' p difs below) v d = absurd d
  takes dif node link x (Rank' p difs below) (Wires a) v d = absurd d

  pub lets_out : (slots slots' : List Slot) (dif node link : ℕ) (x : Result OutStep StepError) (u u' : Tower) → IsTower u → OutStepsAtTop Anything slots slots' dif node link x u u' → Keeps P u u'
  lets_out slots slots' dif node link x (Wires a) (Wires a') v d = no_difs P a a'
  lets_out slots slots' dif node link x (Rank' p difs below) (Rank' p' difs' below') v d =
      let Does : Dif → Dif → Type 0 = SendsOne (refuses_send below) Anything slots slots' (seen_of below) node link x (seen_of below') in
      both P p p' difs difs' below below' (each_any (P (height_of below + 1)) Does dif _ difs difs' (λ y y' at s. (k (height_of below + 1) dif).left y y' s.rest (λ still. (alive y y' x (Err Memory) s.notes still).0)) d.0) (left_below x below below' v.1 d.2)
  lets_out slots slots' dif node link x (Wires a) (Rank' p difs below) v d = absurd d
  lets_out slots slots' dif node link x (Rank' p difs below) (Wires a) v d = absurd d

  pub does_due : (dif node : ℕ) (x : Result ClockStep StepError) (u u' : Tower) → IsTower u → ClocksAtTop dif node x u u' → Keeps P u u'
  does_due dif node x (Wires a) (Wires a') v d = no_difs P a a'
  does_due dif node x (Rank' p difs below) (Rank' p' difs' below') v d =
      let Does : Dif → Dif → Type 0 = ClocksOne (seen_of below) node x (seen_of below') in
      both P p p' difs difs' below below' (each_any (P (height_of below + 1)) Does dif _ difs difs' (λ y y' at s. (k (height_of below + 1) dif).clocked y y' (seen_of below) (seen_of below') node x (v.0.standing.stand dif y at) s.does s.stays s.after.goes_on s.notes (ap (λ (z : Dif). z.settings) s.rest)) d.0) (clocked_below node (claimant difs dif node) below below' v.1 x d.2)
  does_due dif node x (Wires a) (Rank' p difs below) v d = absurd d
  does_due dif node x (Rank' p difs below) (Wires a) v d = absurd d

  asked_below : (difs : List Dif) (n node fac peer : ℕ) (b b' : Tower) → IsTower b → (b' ≡ b) ⊎ AsksOnce difs n node fac peer b b' → Keeps P b b'
  asked_below difs n node fac peer b b' v (inl same) = keeps_is P b b' same
  asked_below difs n node fac peer b b' v (inr a) = allocates P k a.ask a.answer b b' v a.does

  pub enrols : (dif node fac peer : ℕ) (x : Result (Unit {0}) EnrolError) (u u' : Tower) → IsTower u → EnrolsAtTop dif node fac peer x u u' → Keeps P u u'
  enrols dif node fac peer x (Wires a) (Wires a') v d = no_difs P a a'
  enrols dif node fac peer x (Rank' p difs below) (Rank' p' difs' below') v d =
      let Does : Dif → Dif → Type 0 = EnrolsOne (refuses_allocate below) (seen_of below) node fac peer x (seen_of below') in
      both P p p' difs difs' below below' (each_any (P (height_of below + 1)) Does dif _ difs difs' (λ y y' at s. (k (height_of below + 1) dif).enrolled y y' (seen_of below) (seen_of below') (refuses_allocate below) node fac peer x s.does s.notes s.settings) d.0) (asked_below difs dif node fac peer below below' v.1 (enrol_asks dif node fac peer x p p' difs difs' below below' d))
  enrols dif node fac peer x (Wires a) (Rank' p difs below) v d = absurd d
  enrols dif node fac peer x (Rank' p difs below) (Wires a) v d = absurd d

  -- ---- ticks

  clocked_each : (r now : ℕ) (difs difs' : List Dif) → AreClocked now difs difs' → Each (P r) difs → Each (P r) difs'
  clocked_each r now difs difs' c e n d' at =
      let within = slice_get_within difs' n d' at in
      let number = c.number in
      let d = there difs n (omega (arith, within, number)) in
      (k r n).timed d.0 d' now (c.each n d.0 d' d.1 at).rest (e n d.0 d.1)

  pub ticks : (r : Result (Unit {0}) TickError) (t t' : Tower) → Ticks r t t' → Keeps P t t'
  ticks r (Wires a) (Wires a') d = no_difs P a a'
  ticks r (Rank' p difs below) (Rank' p' difs' below') d = both P p p' difs difs' below below' (clocked_each (height_of below + 1) (now_of below') difs difs' d.0) (ticks r below below' d.1)
  ticks r (Wires a) (Rank' p difs below) d = absurd d
  ticks r (Rank' p difs below) (Wires a) d = absurd d

  -- ---- rounds

  moves : (m : Move) (slots slots' : List Slot) (t t' : Tower) → IsTower t → Moves m slots t slots' t' → Keeps P t t'
  moves (InMove p x) slots slots' t t' v d = at_rank P p.rank (InStepsAtTop p.dif p.node p.link x) _ t t' v (λ u u' high now. takes p.dif p.node p.link x u u') d.1
  moves (ClockMove p x) slots slots' t t' v d = at_rank P p.rank (ClocksAtTop p.dif p.node x) _ t t' v (λ u u' high now. does_due p.dif p.node x u u') d.1
  moves (OutMove p x) slots slots' t t' v d = at_rank P p.rank (OutStepsAtTop Anything slots slots' p.dif p.node p.link x) _ t t' v (λ u u' high now. lets_out slots slots' p.dif p.node p.link x u u') d

  all_move : (ms : List Move) (slots slots' : List Slot) (t t' : Tower) → IsTower t → AllMove ms slots t slots' t' → Sure t t'
  all_move [] slots slots' t t' v d = sure_is t t' v d.1
  all_move (m ∷ ms) slots slots' t t' v (mid, between, one, others) =
      let first : Sure t between = record { valid = (stepped.moves m slots mid t between v one).valid; keeps = moves m slots mid t between v one } in
      sure_on t between t' first (all_move ms mid slots' between t' first.valid others)

  pub round : (slots slots' : List Slot) (t t' : Tower) → IsTower t → IsRound slots slots' t t' → Sure t t'
  round slots slots' t t' v d =
      let taken = all_move d.takes slots slots t d.taken v d.do_take in
      let clocked = all_move d.dues slots slots d.taken d.clocked taken.valid d.do_dues in
      let left = all_move d.leaves slots slots' d.clocked t' clocked.valid d.do_leave in
      sure_on t d.taken t' taken (sure_on d.taken d.clocked t' clocked left)
