-- A round of a tower that rests does nothing.
use Rattle.std.proofs.Common.{◌≡◌, ◌∙◌, ℕ, ◌+◌, ◌<◌, true, false, List, [], ◌∷◌, slice_get, Option, Some, None, Result, Ok, Err, refl, subst, sym, arith, inl, inr}
use Rattle.std.proofs.lemmas.Bool.{cases_eq}
use Rattle.rina_base.specs.declared.number.Num.{Num}
use Rattle.rina_base.specs.declared.number.Port.{Port}
use Rattle.rina_iface.specs.declared.error.FreeError.{FreeError}
use Rattle.rina_iface.specs.declared.error.SendError.{SendError}
use Rattle.rina_iface.specs.Claim.{AreClaimed}
use Rattle.rina_iface.specs.Seen.{Seen}
use Rattle.rina_iface.specs.Free.{FreesAsSeen}
use Rattle.rina_iface.specs.Send.{SendsAsSeen}
use Rattle.rina_iface.proofs.Changed.{slice_set-same}
use Rattle.rina_policy.specs.Slots.{Slot}
use Rattle.rina_data.specs.declared.step.ClockStep.{ClockStep}
use Rattle.rina_data.specs.declared.step.ClockStep.TheVariants as clocks
use Rattle.rina_data.specs.declared.step.InStep.{InStep}
use Rattle.rina_data.specs.declared.step.InStep.TheVariants as ins
use Rattle.rina_data.specs.declared.step.OutStep.{OutStep}
use Rattle.rina_data.specs.declared.step.OutStep.TheVariants as outs
use Rattle.rina_data.specs.declared.step.StepError.{StepError}
use Rattle.rina_data.specs.declared.step.StepError.TheVariants.{Memory, NoIpc, NoLink}
use Rattle.rina_data.specs.Configs.{config_of}
use Rattle.rina_data.specs.Lower.{PassesBelow, SendsBelow}
use Rattle.rina_data.specs.Outgoing.{IsHeld}
use Rattle.rina_dif.specs.declared.dif.Dif.{Dif}
use Rattle.rina_dif.specs.Claiming.{NoneComesAt}
use Rattle.rina_dif.specs.Elsewhere.{ChangesOnly, home_of}
use Rattle.rina_dif.specs.Facade.{NotesMemory}
use Rattle.rina_dif.specs.Holding.{Stands}
use Rattle.rina_dif.specs.Lower.{ClocksBelow}
use Rattle.rina_dif.specs.Resting.{RestsUntil as DifRests}
use Rattle.rina_dif.specs.Shown.{seen_of as seen_of_dif}
use Rattle.rina_dif.proofs.AskedInTurn.{all_claimed}
use Rattle.rina_dif.proofs.Beside.{no_step}
use Rattle.rina_dif.proofs.Elsewhere.{flows_none, none_process}
use Rattle.rina_dif.proofs.Waiting.{none_begin}
use Rattle.rina_dif.proofs.Rested.{DoesNone, SendsNone, TakesNone, clock_rests, in_rests, none_fails, out_rests}
use Rattle.rina_tower.specs.declared.places.LinkPlace.{LinkPlace}
use Rattle.rina_tower.specs.declared.places.MemberPlace.{MemberPlace}
use Rattle.rina_tower.specs.declared.tower.Tower.{Tower, Rank', Wires}
use Rattle.rina_tower.specs.Calls.{ClaimsAtTop, FreesWhole, SendsWhole}
use Rattle.rina_tower.specs.Levels.{AtDif, same_refl}
use Rattle.rina_tower.specs.Ranks.{height_of, now_of, seen_now, seen_of}
use Rattle.rina_tower.specs.Refusals.{frees_both, refuses_send}
use Rattle.rina_tower.specs.Resting.{AreResting, RestsUntil}
use Rattle.rina_tower.specs.Rounds.{AllClockSteps, AllInSteps, AllMove, AllOutSteps, Anything, ClockMove, InMove, InTurn, IsRound, IsUntil, Move, Moves, OutMove, has_left, has_taken, leaves_no_more, links_downward, links_upward, members_upward, none_due, takes_no_more, was_due}
use Rattle.rina_tower.specs.Stands.{IsTower}
use Rattle.rina_tower.specs.StepEffect.{StandsAfter}
use Rattle.rina_tower.specs.Steps.{ClocksAt, ClocksOne, InSteps, OutSteps, SendsOne, TakesOne, claimant}
use Rattle.rina_tower.proofs.Failed.{on_err}

-- One DIF

stands_on : (d : Dif) (below : Seen) → Stands d below → StandsAfter below below d d
stands_on d below st = (let none = no_step d below st in record {
  stands = st;
  uses = record { mid = below; claims = inl refl; uses = inl refl };
  goes_on = none.goes_on;
  silent = none.silent;
  waiting = none_begin (seen_of_dif d) (seen_of_dif d) refl;
  others = none.others;
  settings = refl;
  laid = refl;
})

leaves_all : (Ends : ℕ → Type 0) (o : Option ℕ) (d : Dif) → ChangesOnly Ends o d d
leaves_all Ends o d = (flows_none Ends d.flows d.flows refl, none_process o d.processes d.processes refl)

-- no far end waits for its member
none_comes : (d : Dif) (below : Seen) (node : ℕ) → AreClaimed below → NoneComesAt d below node
none_comes d below node none i member may n lt = all_claimed below node member.name none n

-- a step that did nothing notes no missing memory, where none was missing before
notes_none : {T : Type 0} (DidNone : T → Type 0) (missing answer : T) → (DidNone missing → ⊥) → DidNone answer → (d : Dif) → d.failed ≡ false → NotesMemory d d answer missing
notes_none DidNone missing answer never none d alive = record {
  failed = λ failed. absurd (let clash : true ≡ false = sym failed ∙ alive in cc);
  fails = (λ failed. absurd (let clash : true ≡ false = sym failed ∙ alive in cc), λ is. absurd (never (subst DidNone is none)));
}

module _ (until : ℕ) (d : Dif) (below : Seen) (st : Stands d below) (before : d.clock < until) (rest : DifRests until d below) (claimed : AreClaimed below) (node link : ℕ) where
  takes_one : (a : Result InStep StepError) × TakesNone a × TakesOne below node link a below d d
  takes_one = (let a = in_rests until d below node link rest in (a.0, a.1, record { does = a.2; after = stands_on d below st; rest = refl; notes = notes_none TakesNone (Err Memory) a.0 (λ none. none) a.1 d rest.alive; leaves = leaves_all _ _ d }))

  clocks_one : (a : Result ClockStep StepError) × DoesNone a × ClocksOne below node a below d d
  clocks_one = (let a = clock_rests until d below node before rest (none_comes d below node claimed) in (a.0, a.1, record { does = a.2; fails = λ lines h. none_fails d lines below; stays = on_err a.0 (d.connections ≡ d.connections) refl; after = stands_on d below st; rest = refl; notes = notes_none DoesNone (Err Memory) a.0 (λ none. none) a.1 d rest.alive; leaves = leaves_all _ _ d }))

  sends_one : (refuses : Port → ℕ → Option SendError) → (a : Result OutStep StepError) × SendsNone a × ((slots : List Slot) → SendsOne refuses Anything slots slots below node link a below d d)
  sends_one refuses =
      let a = out_rests refuses (Anything d.settings.policy) (IsHeld refuses (config_of d.settings) d.clock below link) until d below node link rest in
      (a.0, a.1, λ slots. record { does = a.2; after = stands_on d below st; rest = refl; leaves = none_process (home_of d node) d.processes d.processes refl; shelf = λ alive. a.3 slots; notes = notes_none SendsNone (Err Memory) a.0 (λ none. none) a.1 d rest.alive })

-- The DIFs of a rank

in_same : (same : Type 0) (does : Port → Type 0) (a : Result InStep StepError) → TakesNone a → same → PassesBelow same does a
in_same same does (Ok ins.Idle) none s = s
in_same same does (Err NoLink) none s = s
in_same same does (Err NoIpc) none s = s
in_same same does a none s = absurd none

out_same : (same : Type 0) (does : Port → List ℕ → Result Num SendError → Type 0) (a : Result OutStep StepError) → SendsNone a → same → SendsBelow same does a
out_same same does (Ok outs.Idle) none s = s
out_same same does (Err NoLink) none s = s
out_same same does (Err NoIpc) none s = s
out_same same does a none s = absurd none

at_dif : (does : Dif → Dif → Type 0) (n : ℕ) (none : Type 0) (difs : List Dif) (d : Dif) → slice_get difs n ≡ Some d → does d d → AtDif n does none difs difs
at_dif does n none difs d is done = inl (record { dif = d; dif' = d; is_dif = is; done = done; new_is = sym (slice_set-same difs n d is) })

no_dif : (does : Dif → Dif → Type 0) (n : ℕ) (none : Type 0) (difs : List Dif) → slice_get difs n ≡ None → none → AtDif n does none difs difs
no_dif does n none difs is done = inr (is, done, refl)

module _ (until : ℕ) (p : _) (difs : List Dif) (below : Tower) (v : IsTower (Rank' p difs below)) (before : now_of below < until) (rest : AreResting until difs (seen_of below)) (claimed : AreClaimed (seen_of below)) (dif node link : ℕ) where
  its_clock : (d : Dif) → slice_get difs dif ≡ Some d → d.clock < until
  its_clock d is =
      let clock = (v.0.standing.stand dif d is).1.standing.clock in
      let now = seen_now below in
      omega (arith, clock, now, before)

  in_difs : (o : Option Dif) → slice_get difs dif ≡ o → (a : Result InStep StepError) × TakesNone a × AtDif dif (TakesOne (seen_of below) node link a (seen_of below)) ((a ≡ Err NoIpc) × (below ≡ below)) difs difs
  in_difs (Some d) is = (let a = takes_one until d (seen_of below) (v.0.standing.stand dif d is) (its_clock d is) (rest dif d is) claimed node link in (a.0, a.1, at_dif _ dif _ difs d is a.2))
  in_difs None is = (Err NoIpc, tt, no_dif _ dif _ difs is (refl, refl))

  clock_difs : (o : Option Dif) → slice_get difs dif ≡ o → (a : Result ClockStep StepError) × DoesNone a × AtDif dif (ClocksOne (seen_of below) node a (seen_of below)) ((a ≡ Err NoIpc) × (below ≡ below)) difs difs
  clock_difs (Some d) is = (let a = clocks_one until d (seen_of below) (v.0.standing.stand dif d is) (its_clock d is) (rest dif d is) claimed node link in (a.0, a.1, at_dif _ dif _ difs d is a.2))
  clock_difs None is = (Err NoIpc, tt, no_dif _ dif _ difs is (refl, refl))

  out_difs : (o : Option Dif) → slice_get difs dif ≡ o → (a : Result OutStep StepError) × SendsNone a × ((slots : List Slot) → AtDif dif (SendsOne (refuses_send below) Anything slots slots (seen_of below) node link a (seen_of below)) ((a ≡ Err NoIpc) × (slots ≡ slots) × (below ≡ below)) difs difs)
  out_difs (Some d) is = (let a = sends_one until d (seen_of below) (v.0.standing.stand dif d is) (its_clock d is) (rest dif d is) claimed node link (refuses_send below) in (a.0, a.1, λ slots. at_dif _ dif _ difs d is (a.2 slots)))
  out_difs None is = (Err NoIpc, tt, λ slots. no_dif _ dif _ difs is (refl, refl, refl))

-- Any rank

in_tower : (until : ℕ) (t : Tower) → IsTower t → now_of t < until → RestsUntil until t → (r dif node link : ℕ) → (a : Result InStep StepError) × TakesNone a × InSteps r dif node link a t t
in_tower until (Wires a) v before rest r dif node link = elim (cases_eq r 0) [ inl e ↦ (Err NoIpc, tt, inl (e, (refl, refl))) | inr ne ↦ (Err NoIpc, tt, inr (ne, refl, refl)) ]
in_tower until (Rank' p difs below) v before rest r dif node link = elim (cases_eq r (height_of below + 1)) [
  | inl e ↦ (let a = in_difs until p difs below v before rest.0 rest.1 dif node link (slice_get difs dif) refl in (a.0, a.1, inl (e, (a.2, same_refl below, in_same _ _ a.0 a.1 refl))))
  | inr ne ↦ (let a = in_tower until below v.1 before rest.2 r dif node link in (a.0, a.1, inr (ne, refl, a.2)))
]

-- where nothing was done, nothing was done below either
clocks_none : (claims : Tower → ℕ → Option Port → Tower → Type 0) (frees : Tower → Tower → Port → Result (Unit {0}) FreeError → Type 0) (t : Tower) (a : Result ClockStep StepError) → DoesNone a → ClocksBelow claims frees t a t
clocks_none claims frees t (Ok clocks.Idle) none = record { mid = t; asked = (None, (0, refl)); does = refl }
clocks_none claims frees t (Err NoIpc) none = refl
clocks_none claims frees t a none = absurd none

clock_tower : (until : ℕ) (t : Tower) → IsTower t → now_of t < until → RestsUntil until t → (r dif node : ℕ) → (a : Result ClockStep StepError) × DoesNone a × ClocksAt r dif node a t t
clock_tower until (Wires a) v before rest r dif node = elim (cases_eq r 0) [ inl e ↦ (Err NoIpc, tt, inl (e, (refl, refl))) | inr ne ↦ (Err NoIpc, tt, inr (ne, refl, refl)) ]
clock_tower until (Rank' p difs below) v before rest r dif node = elim (cases_eq r (height_of below + 1)) [
  | inl e ↦ (let a = clock_difs until p difs below v before rest.0 rest.1 dif node 0 (slice_get difs dif) refl in (a.0, a.1, inl (e, (a.2, same_refl below, clocks_none (λ t fac answer t'. ClaimsAtTop fac node (claimant difs dif node) answer t t') (FreesAsSeen seen_of frees_both FreesWhole) below a.0 a.1))))
  | inr ne ↦ (let a = clock_tower until below v.1 before rest.2 r dif node in (a.0, a.1, inr (ne, refl, a.2)))
]

out_tower : (until : ℕ) (t : Tower) → IsTower t → now_of t < until → RestsUntil until t → (r dif node link : ℕ) → (a : Result OutStep StepError) × SendsNone a × ((slots : List Slot) → OutSteps Anything slots slots r dif node link a t t)
out_tower until (Wires a) v before rest r dif node link = elim (cases_eq r 0) [ inl e ↦ (Err NoIpc, tt, λ slots. inl (e, (refl, refl, refl))) | inr ne ↦ (Err NoIpc, tt, λ slots. inr (ne, (refl, refl), refl)) ]
out_tower until (Rank' p difs below) v before rest r dif node link = elim (cases_eq r (height_of below + 1)) [
  | inl e ↦ (let a = out_difs until p difs below v before rest.0 rest.1 dif node link (slice_get difs dif) refl in (a.0, a.1, λ slots. inl (e, (a.2 slots, same_refl below, out_same (below ≡ below) (SendsAsSeen seen_of refuses_send SendsWhole below below) a.0 a.1 refl))))
  | inr ne ↦ (let a = out_tower until below v.1 before rest.2 r dif node link in (a.0, a.1, λ slots. inr (ne, refl, a.2 slots)))
]

-- Turns

once : {A : Type 0} (goes_on ends : A → _) (a : A) → ends a ≡ true → IsUntil goes_on ends (a ∷ [])
once goes_on ends a end = record { before = []; last = a; on = λ k x is. cc; end = end; all = refl }

takes_no : (a : Result InStep StepError) → TakesNone a → takes_no_more a ≡ true
takes_no (Ok ins.Idle) none = refl
takes_no (Err NoLink) none = refl
takes_no (Err NoIpc) none = refl
takes_no a none = absurd none

does_no : (a : Result ClockStep StepError) → DoesNone a → none_due a ≡ true
does_no (Ok clocks.Idle) none = refl
does_no (Err NoIpc) none = refl
does_no a none = absurd none

sends_no : (a : Result OutStep StepError) → SendsNone a → leaves_no_more a ≡ true
sends_no (Ok outs.Idle) none = refl
sends_no (Err NoLink) none = refl
sends_no (Err NoIpc) none = refl
sends_no a none = absurd none

-- one move at each place, which does nothing
module _ {P : Type 0} (At : P → List Move → Type 0) (t : Tower) (one : (p : P) → (m : Move) × At p (m ∷ []) × ((slots : List Slot) → Moves m slots t slots t)) where
  each_turn : (ps : List P) → (ms : List Move) × InTurn At ps ms × ((slots : List Slot) → AllMove ms slots t slots t)
  each_turn [] = ([], refl, λ slots. (refl, refl))
  each_turn (p ∷ ps) =
      let m = one p in
      let others = each_turn ps in
      (m.0 ∷ others.0, (m.0 ∷ [], others.0, m.1, others.1, refl), λ slots. (slots, t, m.2 slots, others.2 slots))

-- The round

pub round_rests : (until : ℕ) (t : Tower) → IsTower t → now_of t < until → RestsUntil until t → (slots : List Slot) → IsRound slots slots t t
round_rests until t v before rest slots =
    let x = each_turn AllInSteps t (λ (p : LinkPlace). let a = in_tower until t v before rest p.rank p.dif p.node p.link in (InMove p a.0, (a.0 ∷ [], once has_taken takes_no_more a.0 (takes_no a.0 a.1), refl), λ s. (refl, a.2))) (links_upward t) in
    let y = each_turn AllClockSteps t (λ (p : MemberPlace). let a = clock_tower until t v before rest p.rank p.dif p.node in (ClockMove p a.0, (a.0 ∷ [], once was_due none_due a.0 (does_no a.0 a.1), refl), λ s. (refl, a.2))) (members_upward t) in
    let z = each_turn AllOutSteps t (λ (p : LinkPlace). let a = out_tower until t v before rest p.rank p.dif p.node p.link in (OutMove p a.0, (a.0 ∷ [], once has_left leaves_no_more a.0 (sends_no a.0 a.1), refl), a.2)) (links_downward t) in
    record {
      taken = t;
      takes = x.0;
      takes_are = x.1;
      do_take = x.2 slots;
      clocked = t;
      dues = y.0;
      dues_are = y.1;
      do_dues = y.2 slots;
      leaves = z.0;
      leaves_are = z.1;
      do_leave = z.2 slots;
    }
