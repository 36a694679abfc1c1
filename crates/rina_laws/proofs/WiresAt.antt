-- What each call keeps of wires, each step and round of a tower over them keeps.
use Rattle.std.proofs.Common.{◌≡◌, ℕ, Bool, true, false, List, [], ◌∷◌, Option, Some, None, IsSome, option_and_then, Result, Ok, Err, inl, inr, refl, sym, ◌∙◌, ap, subst}
use Rattle.rina_base.specs.declared.cause.Cause.{Cause}
use Rattle.rina_base.specs.declared.cause.Cause.TheVariants.{LinkDown}
use Rattle.rina_base.specs.declared.number.Num.{Num}
use Rattle.rina_base.specs.declared.number.Port.{Port}
use Rattle.rina_data.specs.declared.step.ClockStep.{ClockStep}
use Rattle.rina_data.specs.declared.step.ClockStep.TheVariants as clocks
use Rattle.rina_data.specs.declared.step.InStep.{InStep}
use Rattle.rina_data.specs.declared.step.InStep.TheVariants as ins
use Rattle.rina_data.specs.declared.step.OutStep.{OutStep}
use Rattle.rina_data.specs.declared.step.OutStep.TheVariants as outs
use Rattle.rina_data.specs.declared.step.StepError.{StepError}
use Rattle.rina_data.specs.declared.step.StepError.TheVariants.{CountSpent, Memory, NoIpc, NoLink}
use Rattle.rina_data.specs.Lower.{IsRefused, PassesBelow, SendsBelow, WritesOffBelow}
use Rattle.rina_law.specs.declared.entry.Entry.{Entry}
use Rattle.rina_iface.specs.declared.error.FreeError.{FreeError}
use Rattle.rina_iface.specs.declared.error.FreeError.TheVariants as freeing
use Rattle.rina_iface.specs.declared.error.SendError.{SendError}
use Rattle.rina_iface.specs.Free.{FreesAsSeen}
use Rattle.rina_iface.specs.Pass.{PassesAsSeen}
use Rattle.rina_iface.specs.Seen.{unpassed}
use Rattle.rina_iface.specs.Send.{SendsAsSeen}
use Rattle.rina_policy.specs.declared.policy.Head.{Head}
use Rattle.rina_policy.specs.Slots.{Slot}
use Rattle.rina_table.specs.declared.sketch.Rounds.{Rounds}
use Rattle.rina_table.specs.declared.sketch.Rounds.TheVariants.{Auto, Manual}
use Rattle.rina_tower.specs.declared.applications.AppError.{AppError}
use Rattle.rina_tower.specs.declared.applications.AppError.TheVariants.{NoRank, NotYours, Call}
use Rattle.rina_tower.specs.declared.tower.Tower.{Tower, Wires, Rank'}
use Rattle.rina_tower.specs.Applications.{Answers, AppPasses, ClaimsFor, is_ipc_at}
use Rattle.rina_dif.specs.Lower.{ClocksBelow, FreesAs, FreesNone, HasClaimed, ThenDoes}
use Rattle.rina_tower.specs.Calls.{ClaimsAtTop, FreesWhole, PassesAtTop, SendsWhole}
use Rattle.rina_tower.specs.Ranks.{height_of, rank_of, seen_of}
use Rattle.rina_tower.specs.Refusals.{frees_both, refuses_send}
use Rattle.rina_tower.specs.Rounds.{AllMove, Anything, IsRound, Move, Moves, InMove, ClockMove, OutMove}
use Rattle.rina_tower.specs.Stands.{IsTower}
use Rattle.rina_tower.specs.Steps.{ClocksAt, ClocksAtTop, InStepsAtTop, OutStepsAtTop, claimant}
use Rattle.rina_tower.specs.ClockTick.{Ticks}
use Rattle.rina_tower.specs.Levels.{AtRank, AtWires}
use Rattle.rina_wire.specs.Air.{Air, seen_of as seen_of_wires}
use Rattle.rina_wire.specs.Allocate.{AllocatesOn}
use Rattle.rina_wire.specs.Claim.{ClaimsOn}
use Rattle.rina_wire.specs.Cut.{MendsOn}
use Rattle.rina_wire.specs.Free.{FreesOn}
use Rattle.rina_wire.specs.Send.{SendsOn, passed}
use Rattle.rina_wire.specs.Tick.{TicksOn}
use Rattle.rina_wire.specs.Unregister.{UnregistersOn}
use Rattle.rina_wire.specs.declared.event.WireError.{WireError}
use Rattle.rina_iface.specs.declared.ask.Ask.{Ask}
use Rattle.rina_iface.specs.declared.error.AllocateError.{AllocateError}
use Rattle.rina_iface.specs.declared.error.UnregisterError.{UnregisterError}
use Rattle.rina_words.specs.Step.{Passes, RoundsBy, for_app, waiting}
use Rattle.rina_laws.specs.Frames.{AreAsked, wires_of}
use Rattle.rina_laws.specs.SomeStep.{SomeAfter, SomeMove, SomeOfRound}
use Rattle.rina_laws.proofs.LabelRanks.{own_rank, rank_below}
use Rattle.rina_laws.proofs.WiresAsked.{asked_in_turn, asked_keep}

-- the calls on wires that keep this of them: all but `register`, the events that touch a frame, and the end of a flow
pub record Keeps (P : Air → Type 0) : Type 0 where
  pub unregisters : (a : Air) (wire node : ℕ) (app : List ℕ) (r : Result (Unit {0}) UnregisterError) (a' : Air) → P a → UnregistersOn a wire node app r a' → P a'
  pub allocates : (a : Air) (ask : Ask) (r : Result Port AllocateError) (a' : Air) → P a → AllocatesOn a ask r a' → P a'
  pub claims : (a : Air) (wire node : ℕ) (app : List ℕ) (r : Option Port) (a' : Air) → P a → ClaimsOn a wire node app r a' → P a'
  pub sends : (a : Air) (port : Port) (bytes : List ℕ) (r : Result Num SendError) (a' : Air) → P a → SendsOn a port bytes r a' → P a'
  pub passes : (a : Air) (port : Port) → IsSome (unpassed (seen_of_wires a) port) → P a → P (passed a port)
  pub ticks : (a a' : Air) → P a → TicksOn a (Ok tt) a' → P a'
  pub mends : (a : Air) (wire : ℕ) (r : Result (Unit {0}) WireError) (a' : Air) → P a → MendsOn a wire r a' → P a'

-- this holds of the wires of the tower
abbrev pub Holds : (Air → Type 0) → Tower → Type 0
Holds P t = P (wires_of t)

-- this stands at rank r of a tower, over the same wires, and is a tower where that is one
pub record IsPart (t : Tower) (r : ℕ) (u : Tower) : Type 0 where
  pub wires : wires_of u ≡ wires_of t
  pub is_rank : rank_of t r ≡ Some u
  pub height : r ≡ height_of u
  pub stands : IsTower t → IsTower u

-- ---- at a rank

own_part : (t : Tower) (r : ℕ) → r ≡ height_of t → IsPart t r t
own_part t r is = record { wires = refl; is_rank = ap (rank_of t) is ∙ own_rank t; height = is; stands = λ v. v }

-- what is done at a rank is done there, or nothing is
pub at_rank : (P : Air → Type 0) (r : ℕ) (does : Tower → Tower → Type 0) (none : Type 0) (t t' : Tower) → Holds P t → AtRank r does none t t' → ((u u' : Tower) → IsPart t r u → Holds P u → does u u' → Holds P u') → Holds P t'
at_rank P r does none (Wires a) (Wires a') h (inl d) next = next (Wires a) (Wires a') (own_part (Wires a) r d.0) h d.1
at_rank P r does none (Wires a) (Wires a') h (inr d) next = subst P (sym d.2) h
at_rank P r does none (Rank' p difs below) (Rank' p' difs' below') h (inl d) next = next (Rank' p difs below) (Rank' p' difs' below') (own_part (Rank' p difs below) r d.0) h d.1
at_rank P r does none (Rank' p difs below) (Rank' p' difs' below') h (inr d) next =
    at_rank P r does none below below' h d.2 (λ u u' part. next u u' (record { wires = part.wires; is_rank = rank_below p difs below r d.0 ∙ part.is_rank; height = part.height; stands = λ v. part.stands v.1 }))
at_rank P r does none (Wires a) (Rank' p difs below) h d next = absurd d
at_rank P r does none (Rank' p difs below) (Wires a) h d next = absurd d

-- what is done at the wires
pub at_wires : (P : Air → Type 0) (does : Air → Air → Type 0) (t t' : Tower) → Holds P t → AtWires does t t' → ((a' : Air) → Holds P t → does (wires_of t) a' → P a') → Holds P t'
at_wires P does (Wires a) (Wires a') h d next = next a' h d
at_wires P does (Rank' p difs below) (Rank' p' difs' below') h d next = at_wires P does below below' h d.1 next
at_wires P does (Wires a) (Rank' p difs below) h d next = absurd d
at_wires P does (Rank' p difs below) (Wires a) h d next = absurd d

-- the call of an application is that of its rank, or nothing is done for an IPC process
answers : {T E : Type 0} (P : Air → Type 0) (ipc : Bool) (u u' : Tower) (call : Result T E → Type 0) (r : Result T (AppError E)) → Holds P u → Answers ipc call (u' ≡ u) r → ((x : Result T E) → call x → Holds P u') → Holds P u'
answers P ipc u u' call (Ok x) h d next = next (Ok x) d.1
answers P ipc u u' call (Err (Call e)) h d next = next (Err e) d.1
answers P ipc u u' call (Err NotYours) h d next = subst (Holds P) (sym d.1) h
answers P ipc u u' call (Err NoRank) h d next = absurd d

pub at_app : {T E : Type 0} (P : Air → Type 0) (r : ℕ) (ipc : Tower → Bool) (call : Result T E → Tower → Tower → Type 0) (result : Result T (AppError E)) (t t' : Tower) → Holds P t → AtRank r (λ u u'. Answers (ipc u) (λ x. call x u u') (u' ≡ u) result) (result ≡ Err NoRank) t t' → ((u u' : Tower) → IsPart t r u → (x : Result T E) → Holds P u → call x u u' → Holds P u') → Holds P t'
at_app P r ipc call result t t' h d next = at_rank P r (λ u u'. Answers (ipc u) (λ x. call x u u') (u' ≡ u) result) (result ≡ Err NoRank) t t' h d (λ u u' part c e. answers P (ipc u) u u' (λ x. call x u u') result c e (λ x done. next u u' part x c done))

claims_for : (P : Air → Type 0) (ipc : Bool) (u u' : Tower) (call : Option Port → Type 0) (r : Option Port) → Holds P u → ClaimsFor ipc call (u' ≡ u) r → (call r → Holds P u') → Holds P u'
claims_for P true u u' call r h d next = subst (Holds P) (sym d.1) h
claims_for P false u u' call r h d next = next d

pub at_claim : (P : Air → Type 0) (r : ℕ) (ipc : Bool) (call : Option Port → Tower → Tower → Type 0) (result : Option Port) (t t' : Tower) → Holds P t → AtRank r (λ u u'. ClaimsFor ipc (λ x. call x u u') (u' ≡ u) result) (result ≡ None) t t' → ((u u' : Tower) → Holds P u → call result u u' → Holds P u') → Holds P t'
at_claim P r ipc call result t t' h d next = at_rank P r (λ u u'. ClaimsFor ipc (λ x. call x u u') (u' ≡ u) result) (result ≡ None) t t' h d (λ u u' part c e. claims_for P ipc u u' (λ x. call x u u') result c e (λ done. next u u' c done))

-- ---- reading

app_waits : (ipc : Bool) (oldest : Option Entry) (x : Entry) → for_app ipc oldest ≡ Some x → oldest ≡ Some x
app_waits true oldest x h = cc
app_waits false oldest x h = h

waits_there : (t u : Tower) (rank : ℕ) (port : Port) (x : Entry) → rank_of t rank ≡ Some u → waiting t rank port ≡ Some x → unpassed (seen_of u) port ≡ Some x
waits_there t u rank port x is h =
    let here : for_app (is_ipc_at (seen_of u) port) (unpassed (seen_of u) port) ≡ Some x = sym (ap (option_and_then (λ (v : Tower). for_app (is_ipc_at (seen_of v) port) (unpassed (seen_of v) port))) is) ∙ h in
    app_waits (is_ipc_at (seen_of u) port) (unpassed (seen_of u) port) x here

pass_here : (P : Air → Type 0) (kept : Keeps P) (port : Port) (x : Entry) (u u' : Tower) → unpassed (seen_of u) port ≡ Some x → Holds P u → PassesAtTop port u u' → Holds P u'
pass_here P kept port x (Wires a) (Wires a') waits h d = subst P (sym d) (kept.passes a port (rw waits refl) h)
pass_here P kept port x (Rank' p difs below) (Rank' p' difs' below') waits h d = subst (Holds P) (sym d.1) h
pass_here P kept port x (Wires a) (Rank' p difs below) waits h d = absurd d
pass_here P kept port x (Rank' p difs below) (Wires a) waits h d = absurd d

pass : (P : Air → Type 0) (kept : Keeps P) (rank : ℕ) (port : Port) (t t' : Tower) (x : Entry) → Holds P t → waiting t rank port ≡ Some x → AppPasses rank port t t' → Holds P t'
pass P kept rank port t t' x h waits d = at_rank P rank (PassesAtTop port) ⊥ t t' h d (λ u u' part c e. pass_here P kept port x u u' (waits_there t u rank port x part.is_rank waits) c e)

pub passes : (P : Air → Type 0) (kept : Keeps P) (rank : ℕ) (port : Port) (t : Tower) (xs : List Entry) (t' : Tower) → Holds P t → Passes rank port t xs t' → Holds P t'
passes P kept rank port t [] t' h d = subst (Holds P) (sym d) h
passes P kept rank port t (x ∷ xs) t' h (mid, waits, one, others) = passes P kept rank port mid xs t' (pass P kept rank port t mid x h waits one) others

-- ---- steps of a DIF, by what they do below

passed_wires : (P : Air → Type 0) (kept : Keeps P) (x : Result InStep StepError) (a a' : Air) → P a → PassesBelow (Wires a' ≡ Wires a) (PassesAsSeen seen_of (λ t port t'. PassesAtTop port t t') (Wires a) (Wires a')) x → P a'
passed_wires P kept (Ok ins.Idle) a a' h d = subst (Holds P) (sym d) h
passed_wires P kept (Ok (ins.Took key end)) a a' h d = subst P (sym d.1.2) (kept.passes a d.0 d.1.0 h)
passed_wires P kept (Err Memory) a a' h (inl d) = subst (Holds P) (sym d) h
passed_wires P kept (Err Memory) a a' h (inr d) = subst P (sym d.1.2) (kept.passes a d.0 d.1.0 h)
passed_wires P kept (Err NoIpc) a a' h d = subst (Holds P) (sym d) h
passed_wires P kept (Err NoLink) a a' h d = subst (Holds P) (sym d) h
passed_wires P kept (Err (CountSpent need left)) a a' h d = subst (Holds P) (sym d) h

pub ins_here : (P : Air → Type 0) (kept : Keeps P) (dif node link : ℕ) (x : Result InStep StepError) (u u' : Tower) → Holds P u → InStepsAtTop dif node link x u u' → Holds P u'
ins_here P kept dif node link x (Wires a) (Wires a') h d = subst P (sym d.1) h
ins_here P kept dif node link x (Rank' p difs (Wires a)) (Rank' p' difs' (Wires a')) h d = passed_wires P kept x a a' h d.2
ins_here P kept dif node link x (Rank' p difs (Rank' q lower under)) (Rank' p' difs' (Rank' q' lower' under')) h d = subst (Holds P) (sym d.1.1) h
ins_here P kept dif node link x (Rank' p difs (Wires a)) (Rank' p' difs' (Rank' q' lower' under')) h d = absurd d.1
ins_here P kept dif node link x (Rank' p difs (Rank' q lower under)) (Rank' p' difs' (Wires a')) h d = absurd d.1
ins_here P kept dif node link x (Wires a) (Rank' p difs below) h d = absurd d
ins_here P kept dif node link x (Rank' p difs below) (Wires a) h d = absurd d

-- a port of the wires is freed
freed_wires : (P : Air → Type 0) (a a' : Air) (port : Port) (r : Result (Unit {0}) FreeError) → P a → FreesAsSeen seen_of frees_both FreesWhole (Wires a) (Wires a') port r → (FreesOn a port r a' → P a') → P a'
freed_wires P a a' port r h d next = elim a.failed as (λ b. a.failed ≡ b → P a') [
  | true ↦ λ is. subst (Holds P) (sym (d.1.1 is).1) h
  | false ↦ λ is. next (d.1.0 is)
] refl

-- what a step by the clock does to the wires below. They may be asked for a flow that came in, which keeps this of them. Behind that a port is freed where the
-- step tells that a management connection gave a number up; without memory that may fail; else nothing is done
pub record KeepsFree (P : Air → Type 0) (x : Result ClockStep StepError) (a a' : Air) : Type 0 where
  pub told : (asked : Air) (num : Num) (port : Port) → AreAsked a asked → P asked → x ≡ Ok (clocks.GaveUp num) → num.cep ≡ 0 → FreesOn asked port (Ok tt) a' → P a'
  pub failed : (asked : Air) (port : Port) → P asked → FreesOn asked port (Err freeing.Memory) a' → P a'

module _ (P : Air → Type 0) (kept : Keeps P) (node : ℕ) (app : List ℕ) (a a' : Air) (h : P a) where
  -- what is done behind the questions
  behind : (Does : Tower → Type 0) → ThenDoes (λ t fac answer t'. ClaimsAtTop fac node app answer t t') (Wires a) (Wires a') Does → ((asked : Air) → AreAsked a asked → P asked → Does (Wires asked) → P a') → P a'
  behind Does d next =
      let k = asked_in_turn node app d.asked.0 a d.mid d.asked.1 in
      next k.asked k.asks (asked_keep P kept.claims a k.asked k.asks h) (subst Does k.is d.does)

  same_behind : ThenDoes (λ t fac answer t'. ClaimsAtTop fac node app answer t t') (Wires a) (Wires a') (λ mid. Wires a' ≡ mid) → P a'
  same_behind d = behind (λ mid. Wires a' ≡ mid) d (λ asked asks held same. subst (Holds P) (sym same) held)

  claimed_new : HasClaimed (λ t fac answer t'. ClaimsAtTop fac node app answer t t') (Wires a) (Wires a') → P a'
  claimed_new d =
      let k = asked_in_turn node app (Some d.0) a (Wires a') d.1 in
      subst (Holds P) (sym k.is) (asked_keep P kept.claims a k.asked k.asks h)

  gave_up : (num : Num) (asked : Air) → AreAsked a asked → P asked → FreesAs (Wires a' ≡ Wires asked) (FreesAsSeen seen_of frees_both FreesWhole (Wires asked) (Wires a')) (clocks.GaveUp num) → KeepsFree P (Ok (clocks.GaveUp num)) a a' → P a'
  gave_up num asked asks held (inl d) next = subst (Holds P) (sym d.1) held
  gave_up num asked asks held (inr d) next = freed_wires P asked a' d.1 (Ok tt) held d.2 (next.told asked num d.1 asks held refl d.0)

  no_memory : (asked : Air) → P asked → FreesNone (Wires a' ≡ Wires asked) (FreesAsSeen seen_of frees_both FreesWhole (Wires asked) (Wires a')) → KeepsFree P (Err Memory) a a' → P a'
  no_memory asked held (inl d) next = subst (Holds P) (sym d) held
  no_memory asked held (inr d) next = freed_wires P asked a' d.0 (Err freeing.Memory) held d.1 (next.failed asked d.0 held)

  clocked_wires : (x : Result ClockStep StepError) → ClocksBelow (λ t fac answer t'. ClaimsAtTop fac node app answer t t') (FreesAsSeen seen_of frees_both FreesWhole) (Wires a) x (Wires a') → KeepsFree P x a a' → P a'
  clocked_wires (Ok (clocks.GaveUp num)) d next = behind (λ mid. FreesAs (Wires a' ≡ mid) (FreesAsSeen seen_of frees_both FreesWhole mid (Wires a')) (clocks.GaveUp num)) d (λ asked asks held done. gave_up num asked asks held done next)
  clocked_wires (Ok clocks.Idle) d next = same_behind d
  clocked_wires (Ok (clocks.Gone cep)) d next = same_behind d
  clocked_wires (Ok (clocks.Ack cep)) d next = same_behind d
  clocked_wires (Ok (clocks.Again num)) d next = same_behind d
  clocked_wires (Ok (clocks.LinkLost link)) d next = subst (Holds P) (sym d) h
  clocked_wires (Ok (clocks.LinkNew link)) d next = claimed_new d
  clocked_wires (Ok (clocks.Timeout port)) d next = same_behind d
  clocked_wires (Ok (clocks.Message link)) d next = same_behind d
  clocked_wires (Err Memory) d next = behind (λ mid. FreesNone (Wires a' ≡ mid) (FreesAsSeen seen_of frees_both FreesWhole mid (Wires a'))) d (λ asked asks held done. no_memory asked held done next)
  clocked_wires (Err NoIpc) d next = subst (Holds P) (sym d) h
  clocked_wires (Err NoLink) d next = subst (Holds P) (sym d) h
  clocked_wires (Err (CountSpent need left)) d next = subst (Holds P) (sym d) h

-- at a rank right above the wires, which is rank 1; at another one nothing is done to the wires
clocks_here : (P : Air → Type 0) (kept : Keeps P) (dif node : ℕ) (x : Result ClockStep StepError) (u u' : Tower) → Holds P u → ClocksAtTop dif node x u u' → (height_of u ≡ 1 → KeepsFree P x (wires_of u) (wires_of u')) → Holds P u'
clocks_here P kept dif node x (Wires a) (Wires a') h d next = subst P (sym d.1) h
clocks_here P kept dif node x (Rank' p difs (Wires a)) (Rank' p' difs' (Wires a')) h d next = clocked_wires P kept node (claimant difs dif node) a a' h x d.2 (next refl)
clocks_here P kept dif node x (Rank' p difs (Rank' q lower under)) (Rank' p' difs' (Rank' q' lower' under')) h d next = subst (Holds P) (sym d.1.1) h
clocks_here P kept dif node x (Rank' p difs (Wires a)) (Rank' p' difs' (Rank' q' lower' under')) h d next = absurd d.1
clocks_here P kept dif node x (Rank' p difs (Rank' q lower under)) (Rank' p' difs' (Wires a')) h d next = absurd d.1
clocks_here P kept dif node x (Wires a) (Rank' p difs below) h d next = absurd d
clocks_here P kept dif node x (Rank' p difs below) (Wires a) h d next = absurd d

-- what a step by the clock at some rank keeps of the wires, where freeing a port there keeps it
pub clocks_at : (P : Air → Type 0) (kept : Keeps P) (r dif node : ℕ) (x : Result ClockStep StepError) (t t' : Tower) → Holds P t → ClocksAt r dif node x t t' → (r ≡ 1 → KeepsFree P x (wires_of t) (wires_of t')) → Holds P t'
clocks_at P kept r dif node x (Wires a) (Wires a') h (inl d) next = subst P (sym d.1.1) h
clocks_at P kept r dif node x (Wires a) (Wires a') h (inr d) next = subst P (sym d.2) h
clocks_at P kept r dif node x (Rank' p difs below) (Rank' p' difs' below') h (inl d) next = clocks_here P kept dif node x (Rank' p difs below) (Rank' p' difs' below') h d.1 (λ tall. next (d.0 ∙ tall))
clocks_at P kept r dif node x (Rank' p difs below) (Rank' p' difs' below') h (inr d) next = clocks_at P kept r dif node x below below' h d.2 next
clocks_at P kept r dif node x (Wires a) (Rank' p difs below) h d next = absurd d
clocks_at P kept r dif node x (Rank' p difs below) (Wires a) h d next = absurd d

-- what such a step keeps, but for steps of which this holds
abbrev pub KeepsClocks : (Air → Type 0) → (Tower → Tower → Type 0) → Type 0
KeepsClocks P Is = (r dif node : ℕ) (x : Result ClockStep StepError) (t t' : Tower) → (Is t t' → ⊥) → Holds P t → ClocksAt r dif node x t t' → Holds P t'

sent_wires : (P : Air → Type 0) (kept : Keeps P) (a a' : Air) (port : Port) (bytes : List ℕ) (r : Result Num SendError) → P a → SendsAsSeen seen_of refuses_send SendsWhole (Wires a) (Wires a') port bytes r → P a'
sent_wires P kept a a' port bytes r h d = elim a.failed as (λ b. a.failed ≡ b → P a') [
  | true ↦ λ is. subst (Holds P) (sym (d.1.1 is).1) h
  | false ↦ λ is. kept.sends a port bytes r a' h (d.1.0 is)
] refl

written_off : (P : Air → Type 0) (kept : Keeps P) (a a' : Air) (cause : Cause) → P a → WritesOffBelow (Wires a' ≡ Wires a) (IsRefused (SendsAsSeen seen_of refuses_send SendsWhole (Wires a) (Wires a'))) cause → P a'
written_off P kept a a' (LinkDown port) h d = sent_wires P kept a a' port d.0 (Err d.1) h d.2
written_off P kept a a' cause h d = subst (Holds P) (sym d) h

let_wires : (P : Air → Type 0) (kept : Keeps P) (x : Result OutStep StepError) (a a' : Air) → P a → SendsBelow (Wires a' ≡ Wires a) (SendsAsSeen seen_of refuses_send SendsWhole (Wires a) (Wires a')) x → P a'
let_wires P kept (Ok outs.Idle) a a' h d = subst (Holds P) (sym d) h
let_wires P kept (Ok (outs.Sent key)) a a' h d = sent_wires P kept a a' d.0 d.1 (Ok d.2) h d.3
let_wires P kept (Ok (outs.Off key cause)) a a' h d = written_off P kept a a' cause h d
let_wires P kept (Ok (outs.Held why)) a a' h d = sent_wires P kept a a' d.0 d.1 (Err why) h d.2
let_wires P kept (Err Memory) a a' h (inl d) = subst (Holds P) (sym d) h
let_wires P kept (Err Memory) a a' h (inr d) = sent_wires P kept a a' d.0 d.1.0 (Err d.1.1) h d.1.2
let_wires P kept (Err NoIpc) a a' h d = subst (Holds P) (sym d) h
let_wires P kept (Err NoLink) a a' h d = subst (Holds P) (sym d) h
let_wires P kept (Err (CountSpent need left)) a a' h d = subst (Holds P) (sym d) h

pub outs_here : (P : Air → Type 0) (kept : Keeps P) (may : List ℕ → ℕ → List Head → ℕ → Type 0) (slots slots' : List Slot) (dif node link : ℕ) (x : Result OutStep StepError) (u u' : Tower) → Holds P u → OutStepsAtTop may slots slots' dif node link x u u' → Holds P u'
outs_here P kept may slots slots' dif node link x (Wires a) (Wires a') h d = subst P (sym d.2) h
outs_here P kept may slots slots' dif node link x (Rank' p difs (Wires a)) (Rank' p' difs' (Wires a')) h d = let_wires P kept x a a' h d.2
outs_here P kept may slots slots' dif node link x (Rank' p difs (Rank' q lower under)) (Rank' p' difs' (Rank' q' lower' under')) h d = subst (Holds P) (sym d.1.1) h
outs_here P kept may slots slots' dif node link x (Rank' p difs (Wires a)) (Rank' p' difs' (Rank' q' lower' under')) h d = absurd d.1
outs_here P kept may slots slots' dif node link x (Rank' p difs (Rank' q lower under)) (Rank' p' difs' (Wires a')) h d = absurd d.1
outs_here P kept may slots slots' dif node link x (Wires a) (Rank' p difs below) h d = absurd d
outs_here P kept may slots slots' dif node link x (Rank' p difs below) (Wires a) h d = absurd d

-- ---- ticks and rounds

pub tick : (P : Air → Type 0) (kept : Keeps P) (t t' : Tower) → Holds P t → Ticks (Ok tt) t t' → Holds P t'
tick P kept (Wires a) (Wires a') h d = kept.ticks a a' h d
tick P kept (Rank' p difs below) (Rank' p' difs' below') h d = tick P kept below below' h d.1
tick P kept (Wires a) (Rank' p difs below) h d = absurd d
tick P kept (Rank' p difs below) (Wires a) h d = absurd d

-- of the steps of a run, none is one of which this holds
module _ (P : Air → Type 0) (kept : Keeps P) (Is : Tower → Tower → Type 0) (clock : KeepsClocks P Is) where
  moves : (m : Move) (slots slots' : List Slot) (t t' : Tower) → Moves m slots t slots' t' → (Is t t' → ⊥) → Holds P t → Holds P t'
  moves (InMove p result) slots slots' t t' d unspoilt h = at_rank P p.rank (InStepsAtTop p.dif p.node p.link result) _ t t' h d.1 (λ u u' part c g. ins_here P kept p.dif p.node p.link result u u' c g)
  moves (ClockMove p result) slots slots' t t' d unspoilt h = clock p.rank p.dif p.node result t t' unspoilt h d.1
  moves (OutMove p result) slots slots' t t' d unspoilt h = at_rank P p.rank (OutStepsAtTop Anything slots slots' p.dif p.node p.link result) _ t t' h d (λ u u' part c g. outs_here P kept Anything slots slots' p.dif p.node p.link result u u' c g)

  all_move : (ms : List Move) (slots slots' : List Slot) (t t' : Tower) (d : AllMove ms slots t slots' t') → (SomeMove Is ms slots t slots' t' d → ⊥) → Holds P t → Holds P t'
  all_move [] slots slots' t t' d unspoilt h = subst (Holds P) (sym d.1) h
  all_move (m ∷ ms) slots slots' t t' (mid, between, one, others) unspoilt h = all_move ms mid slots' between t' others (λ x. unspoilt (inr x)) (moves m slots mid t between one (λ x. unspoilt (inl x)) h)

  pub round : (slots slots' : List Slot) (t t' : Tower) (d : IsRound slots slots' t t') → (SomeOfRound Is slots slots' t t' d → ⊥) → Holds P t → Holds P t'
  round slots slots' t t' d unspoilt h =
      let taken = all_move d.takes slots slots t d.taken d.do_take (λ x. unspoilt (inl x)) h in
      let clocked = all_move d.dues slots slots d.taken d.clocked d.do_dues (λ x. unspoilt (inr (inl x))) taken in
      all_move d.leaves slots slots' d.clocked t' d.do_leave (λ x. unspoilt (inr (inr x))) clocked

  pub rounds_by : (rounds : Rounds) (slots slots' : List Slot) (t t' : Tower) (d : RoundsBy rounds slots t slots' t') → (SomeAfter Is rounds slots t slots' t' d → ⊥) → Holds P t → Holds P t'
  rounds_by Auto slots slots' t t' d unspoilt h = round slots slots' t t' d unspoilt h
  rounds_by Manual slots slots' t t' d unspoilt h = subst (Holds P) (sym d.1) h
