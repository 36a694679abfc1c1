-- The steps of DIFs, and ticks, leave a tower that stands; whatever a step writes off, the condition of its cause held before.
use Rattle.std.proofs.Common.{◌≡◌, ℕ, ◌+◌, true, false, List, Result, Ok, Err, refl, ap, arith, inl, inr}
use Rattle.std.proofs.lemmas.Option.{slice_get_within}
use Rattle.rina_account.specs.declared.ledger.Off.{Off}
use Rattle.rina_base.specs.declared.cause.Cause.{Cause}
use Rattle.rina_base.specs.declared.cause.Cause.TheVariants.{LinkDown}
use Rattle.rina_base.specs.declared.number.Num.{Num}
use Rattle.rina_base.specs.declared.number.Port.{Port}
use Rattle.rina_iface.specs.declared.error.SendError.{SendError}
use Rattle.rina_iface.specs.Pass.{PassesAsSeen}
use Rattle.rina_iface.specs.Send.{SendsAsSeen}
use Rattle.rina_law.specs.Direction.{Direction}
use Rattle.rina_policy.specs.declared.policy.Head.{Head}
use Rattle.rina_policy.specs.Slots.{Slot}
use Rattle.rina_data.specs.declared.step.ClockStep.{ClockStep}
use Rattle.rina_data.specs.declared.step.InStep.{InStep}
use Rattle.rina_data.specs.declared.step.InStep.TheVariants as ins
use Rattle.rina_data.specs.declared.step.OutStep.{OutStep}
use Rattle.rina_data.specs.declared.step.OutStep.TheVariants as outs
use Rattle.rina_data.specs.declared.step.StepError.{StepError}
use Rattle.rina_data.specs.declared.step.StepError.TheVariants.{CountSpent, Memory, NoIpc, NoLink}
use Rattle.rina_data.specs.Lower.{IsRefused, PassesBelow, SendsBelow, WritesOffBelow}
use Rattle.rina_data.proofs.Finding.{there}
use Rattle.rina_dif_law.specs.WriteOffs.{IsOverNow, MayWriteOff, NoPort, RefusesOver}
use Rattle.rina_dif.specs.declared.dif.Dif.{Dif}
use Rattle.rina_dif.specs.Holding.{Holds}
use Rattle.rina_dif.specs.Shown.{seen_of as seen_of_dif}
use Rattle.rina_dif.specs.WriteOffs.{MayByClock, MayByIn}
use Rattle.rina_dif.proofs.Warrants.{clocks_write, ins_at_write, outs_at_write}
use Rattle.rina_wire.specs.declared.tick.TickError.{TickError}
use Rattle.rina_wire.specs.Air.{Air}
use Rattle.rina_wire.proofs.SoundTick.{sound_ticks}
use Rattle.rina_tower.specs.declared.tower.Tower.{Tower, Wires, Rank'}
use Rattle.rina_tower.specs.Bystanders.{Anyone, IsIpc, Leaves}
use Rattle.rina_tower.specs.Calls.{PassesAtTop, SendsWhole}
use Rattle.rina_tower.specs.ClockTick.{AreClocked, Ticks}
use Rattle.rina_tower.specs.Levels.{AtDif, SameBelow}
use Rattle.rina_tower.specs.MemoryFailure.{has_failed}
use Rattle.rina_tower.specs.Ranks.{height_of, now_of, seen_of}
use Rattle.rina_tower.specs.Refusals.{refuses_send}
use Rattle.rina_tower.specs.Rounds.{Anything, ClockMove, InMove, Move, Moves, OutMove}
use Rattle.rina_tower.specs.Stands.{IsTower}
use Rattle.rina_tower.specs.StepEffect.{StandsAfter}
use Rattle.rina_tower.specs.Steps.{ClocksAtTop, ClocksOne, InStepsAtTop, OutStepsAtTop, SendsOne, TakesOne, claimant}
use Rattle.rina_tower.proofs.Alone.{fewer_now}
use Rattle.rina_tower.proofs.Serving.{rank_stepped, same_height, stepped_alone}
use Rattle.rina_tower.proofs.Stepped.{is_stepped}
use Rattle.rina_tower.proofs.Timing.{rank_ticked, ticked_alone}
use Rattle.rina_tower.proofs.Wiring.{ticks_alone}
use Rattle.rina_laws.specs.Written.{MayWrite, TakesNoMore}
use Rattle.rina_laws.proofs.WrittenCalls.{Stood, may_write, passes_stood, sends_stood, stood_same}
use Rattle.rina_laws.proofs.WrittenClaims.{clocked_below}
use Rattle.rina_laws.proofs.WrittenGoes.{Goes, at_rank, goes_same}
use Rattle.rina_laws.proofs.WrittenGrows.{Grows, MayBeWritten, RankGrows, any_grows, same_grows, writes_grow}

-- ---- what a step does below

taken_below : (W : MayBeWritten) (x : Result InStep StepError) (b b' : Tower) → IsTower b → PassesBelow (b' ≡ b) (PassesAsSeen seen_of (λ t port t'. PassesAtTop port t t') b b') x → Stood W b b'
taken_below W (Ok ins.Idle) b b' v d = stood_same W b b' v d
taken_below W (Ok (ins.Took key end)) b b' v d = passes_stood W d.0 b b' v d.1.0 d.1.2
taken_below W (Err Memory) b b' v (inl d) = stood_same W b b' v d
taken_below W (Err Memory) b b' v (inr d) = passes_stood W d.0 b b' v d.1.0 d.1.2
taken_below W (Err NoIpc) b b' v d = stood_same W b b' v d
taken_below W (Err NoLink) b b' v d = stood_same W b b' v d
taken_below W (Err (CountSpent need left)) b b' v d = stood_same W b b' v d

sent_below : (W : MayBeWritten) (port : Port) (bytes : List ℕ) (r : Result Num SendError) (b b' : Tower) → IsTower b → SendsAsSeen seen_of refuses_send SendsWhole b b' port bytes r → Stood W b b'
sent_below W port bytes r b b' v d = elim (has_failed b) as (λ z. has_failed b ≡ z → Stood W b b') [
  | true ↦ λ is. stood_same W b b' v (d.1.1 is).1
  | false ↦ λ is. sends_stood W port bytes r b b' v (d.1.0 is)
] refl

written_below : (W : MayBeWritten) (cause : Cause) (b b' : Tower) → IsTower b → WritesOffBelow (b' ≡ b) (IsRefused (SendsAsSeen seen_of refuses_send SendsWhole b b')) cause → Stood W b b'
written_below W (LinkDown port) b b' v d = sent_below W port d.0 (Err d.1) b b' v d.2
written_below W cause b b' v d = stood_same W b b' v d

left_below : (W : MayBeWritten) (x : Result OutStep StepError) (b b' : Tower) → IsTower b → SendsBelow (b' ≡ b) (SendsAsSeen seen_of refuses_send SendsWhole b b') x → Stood W b b'
left_below W (Ok outs.Idle) b b' v d = stood_same W b b' v d
left_below W (Ok (outs.Sent key)) b b' v d = sent_below W d.0 d.1 (Ok d.2) b b' v d.3
left_below W (Ok (outs.Off key cause)) b b' v d = written_below W cause b b' v d
left_below W (Ok (outs.Held why)) b b' v d = sent_below W d.0 d.1 (Err why) b b' v d.2
left_below W (Err Memory) b b' v (inl d) = stood_same W b b' v d
left_below W (Err Memory) b b' v (inr d) = sent_below W d.0 d.1.0 (Err d.1.1) b b' v d.1.2
left_below W (Err NoIpc) b b' v d = stood_same W b b' v d
left_below W (Err NoLink) b b' v d = stood_same W b b' v d
left_below W (Err (CountSpent need left)) b b' v d = stood_same W b b' v d

-- ---- a step of a DIF at the top rank

stepped : (W : MayBeWritten) (n : ℕ) (does : Dif → Dif → Type 0) (none : Type 0) (p p' : _) (difs difs' : List Dif) (below below' : Tower) → IsTower (Rank' p difs below) → ((d d' : Dif) → does d d' → StandsAfter (seen_of below) (seen_of below') d d') → (none → below' ≡ below)
    → RankGrows W difs below difs' → AtDif n does none difs difs' → SameBelow below below' → Stood W below below' → Goes W (Rank' p difs below) (Rank' p' difs' below')
stepped W n does none p p' difs difs' below below' v after idle grows a same s =
    let k = is_stepped n does none difs difs' (seen_of below) (seen_of below') after (λ x. ap seen_of (idle x)) v.0.standing a in
    record {
      valid = (rank_stepped difs' below below' v.0.low s.valid same k.stand, s.valid);
      height = ap (λ (m : ℕ). m + 1) (same_height below below' same);
      alone = fewer_now Anyone IsIpc (seen_of (Rank' p difs below)) (seen_of (Rank' p' difs' below')) (λ name mine. tt) (stepped_alone Anyone difs difs' below below' k.clock k.quiet);
      grows = (grows, s.grows);
    }

over_now : (below : Tower) (port : Port) → IsOverNow (seen_of below) port → TakesNoMore below port
over_now below port h = inr h

refuses_now : (below : Tower) (port : Port) → RefusesOver (refuses_send below) (seen_of below) port → TakesNoMore below port
refuses_now below port h = inl h

no_port : (below : Tower) (port : Port) → NoPort port → TakesNoMore below port
no_port below port none = absurd none

may_by_in : (d : Dif) (lines : List Direction) (below : Tower) (node i : ℕ) (off : Off) → Holds d lines (seen_of below) → MayByIn d lines (seen_of below) node i off → MayWrite d below i off
may_by_in d lines below node i off holds (inl m) = may_write d lines below NoPort i off holds (no_port below) m
may_by_in d lines below node i off holds (inr m) = record { lines = lines; holds = holds; may = inr (inr (inr (inr (node, m)))) }

pub takes : (dif node link : ℕ) (x : Result InStep StepError) (u u' : Tower) → IsTower u → InStepsAtTop dif node link x u u' → Goes MayWrite u u'
takes dif node link x (Wires a) (Wires a') v d = goes_same MayWrite (Wires a) (Wires a') v (ap (λ (z : Air). Wires z) d.1)
takes dif node link x (Rank' p difs below) (Rank' p' difs' below') v d =
    let seen = seen_of below in
    let Does : Dif → Dif → Type 0 = TakesOne seen node link x (seen_of below') in
    let grows = any_grows MayWrite Does dif _ difs difs' below (λ y y' at s.
    let st = v.0.standing.stand dif y at in
    writes_grow MayWrite (MayByIn y st.0 seen node) below y y' (λ i off m. may_by_in y st.0 below node i off st.1 m) (ins_at_write y st.0 seen node link x y' (seen_of below') st.1 (s.does st.0 st.1))) d.0 in
    stepped MayWrite dif Does ((x ≡ Err NoIpc) × (below' ≡ below)) p p' difs difs' below below' v (λ y y' s. s.after) (λ no. no.1) grows d.0 d.1 (taken_below MayWrite x below below' v.1 d.2)
takes dif node link x (Wires a) (Rank' p difs below) v d = absurd d
takes dif node link x (Rank' p difs below) (Wires a) v d = absurd d

pub lets_out : (may : List ℕ → ℕ → List Head → ℕ → Type 0) (slots slots' : List Slot) (dif node link : ℕ) (x : Result OutStep StepError) (u u' : Tower) → IsTower u → OutStepsAtTop may slots slots' dif node link x u u' → Goes MayWrite u u'
lets_out may slots slots' dif node link x (Wires a) (Wires a') v d = goes_same MayWrite (Wires a) (Wires a') v (ap (λ (z : Air). Wires z) d.2)
lets_out may slots slots' dif node link x (Rank' p difs below) (Rank' p' difs' below') v d =
    let seen = seen_of below in
    let Does : Dif → Dif → Type 0 = SendsOne (refuses_send below) may slots slots' seen node link x (seen_of below') in
    let Down : Port → Type 0 = RefusesOver (refuses_send below) seen in
    let grows = any_grows MayWrite Does dif _ difs difs' below (λ y y' at s.
    let st = v.0.standing.stand dif y at in
    writes_grow MayWrite (MayWriteOff (seen_of_dif y) st.0 seen Down) below y y' (λ i off m. may_write y st.0 below Down i off st.1 (refuses_now below) m) (outs_at_write (refuses_send below) y st.0 seen node link x y' (seen_of below') st.1 s.does)) d.0 in
    stepped MayWrite dif Does ((x ≡ Err NoIpc) × (slots' ≡ slots) × (below' ≡ below)) p p' difs difs' below below' v (λ y y' s. s.after) (λ no. no.2) grows d.0 d.1 (left_below MayWrite x below below' v.1 d.2)
lets_out may slots slots' dif node link x (Wires a) (Rank' p difs below) v d = absurd d
lets_out may slots slots' dif node link x (Rank' p difs below) (Wires a) v d = absurd d

may_by_clock : (d : Dif) (lines : List Direction) (below : Tower) (node i : ℕ) (off : Off) → Holds d lines (seen_of below) → MayByClock d lines (seen_of below) node i off → MayWrite d below i off
may_by_clock d lines below node i off holds (inl m) = may_write d lines below (IsOverNow (seen_of below)) i off holds (over_now below) m
may_by_clock d lines below node i off holds (inr (inl m)) = record { lines = lines; holds = holds; may = inr (inl m) }
may_by_clock d lines below node i off holds (inr (inr (inl m))) = record { lines = lines; holds = holds; may = inr (inr (inl (node, m))) }
may_by_clock d lines below node i off holds (inr (inr (inr m))) = record { lines = lines; holds = holds; may = inr (inr (inr (inl m))) }

pub does_due : (dif node : ℕ) (x : Result ClockStep StepError) (u u' : Tower) → IsTower u → ClocksAtTop dif node x u u' → Goes MayWrite u u'
does_due dif node x (Wires a) (Wires a') v d = goes_same MayWrite (Wires a) (Wires a') v (ap (λ (z : Air). Wires z) d.1)
does_due dif node x (Rank' p difs below) (Rank' p' difs' below') v d =
    let seen = seen_of below in
    let Does : Dif → Dif → Type 0 = ClocksOne seen node x (seen_of below') in
    let grows = any_grows MayWrite Does dif _ difs difs' below (λ y y' at s.
    let st = v.0.standing.stand dif y at in
    writes_grow MayWrite (MayByClock y st.0 seen node) below y y' (λ i off m. may_by_clock y st.0 below node i off st.1 m) (clocks_write y st.0 seen node x y' (seen_of below') st.1 (s.does st.0 st.1))) d.0 in
    stepped MayWrite dif Does ((x ≡ Err NoIpc) × (below' ≡ below)) p p' difs difs' below below' v (λ y y' s. s.after) (λ no. no.1) grows d.0 d.1 (clocked_below node (claimant difs dif node) below below' v.1 x d.2)
does_due dif node x (Wires a) (Rank' p difs below) v d = absurd d
does_due dif node x (Rank' p difs below) (Wires a) v d = absurd d

-- ---- a step of a round

pub moves : (m : Move) (slots slots' : List Slot) (t t' : Tower) → IsTower t → Moves m slots t slots' t' → Goes MayWrite t t'
moves (InMove p result) slots slots' t t' v d = at_rank MayWrite p.rank (InStepsAtTop p.dif p.node p.link result) _ t t' v (λ u u' is w c. takes p.dif p.node p.link result u u' w c) d.1
moves (ClockMove p result) slots slots' t t' v d = at_rank MayWrite p.rank (ClocksAtTop p.dif p.node result) _ t t' v (λ u u' is w c. does_due p.dif p.node result u u' w c) d.1
moves (OutMove p result) slots slots' t t' v d = at_rank MayWrite p.rank (OutStepsAtTop Anything slots slots' p.dif p.node p.link result) _ t t' v (λ u u' is w c. lets_out Anything slots slots' p.dif p.node p.link result u u' w c) d

-- ---- ticks

-- the tower stands after it, and no ledger grew but by what may be written
pub record Ticked (W : MayBeWritten) (t t' : Tower) : Type 0 where
  pub valid : IsTower t'
  pub height : height_of t' ≡ height_of t
  pub leaves : Leaves Anyone (seen_of t) (seen_of t')
  pub grows : Grows W t t'

clocked_grows : (W : MayBeWritten) (now : ℕ) (difs difs' : List Dif) (below : Tower) → AreClocked now difs difs' → RankGrows W difs below difs'
clocked_grows W now difs difs' below c n d' at =
    let within = slice_get_within difs' n d' at in
    let number = c.number in
    let d = there difs n (omega (arith, within, number)) in
    (d.0, d.1, same_grows W below d.0 d' (ap (λ (z : Dif). z.processes) (c.each n d.0 d' d.1 at).rest))

pub ticks : (W : MayBeWritten) (r : Result (Unit {0}) TickError) (t t' : Tower) → IsTower t → Ticks r t t' → Ticked W t t'
ticks W r (Wires a) (Wires a') v d = record { valid = sound_ticks a r a' v d; height = refl; leaves = ticks_alone a r a' d; grows = tt }
ticks W r (Rank' p difs below) (Rank' p' difs' below') v d =
    let k = ticks W r below below' v.1 d.1 in
    record {
      valid = (rank_ticked difs difs' below below' v.0 v.1 k.valid k.height k.leaves d.0, k.valid);
      height = ap (λ (m : ℕ). m + 1) k.height;
      leaves = ticked_alone difs difs' below below' k.leaves d.0;
      grows = (clocked_grows W (now_of below') difs difs' below d.0, k.grows);
    }
ticks W r (Wires a) (Rank' p difs below) v d = absurd d
ticks W r (Rank' p difs below) (Wires a) v d = absurd d
