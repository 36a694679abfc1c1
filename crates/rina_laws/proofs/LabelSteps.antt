-- What the steps of DIFs, and rounds of them, do to the ends of all ranks: those of applications rest.
use Rattle.std.proofs.Common.{◌≡◌, ◌∙◌, ℕ, ◌+◌, List, [], ◌∷◌, length, map, remove, slice_get, Some, option_map, Result, Ok, refl, sym, ap, subst, inl, inr}
use Rattle.std.proofs.lemmas.Bool.{cases_lt}
use Rattle.std.proofs.lemmas.List.{map-set}
use Rattle.std.proofs.lemmas.Option.{same_Some, slice_get-map}
use Rattle.rina_base.specs.declared.number.Port.{Port}
use Rattle.rina_policy.specs.declared.policy.Head.{Head}
use Rattle.rina_policy.specs.Slots.{Slot}
use Rattle.rina_data.specs.declared.step.ClockStep.{ClockStep}
use Rattle.rina_data.specs.declared.step.InStep.{InStep}
use Rattle.rina_data.specs.declared.step.OutStep.{OutStep}
use Rattle.rina_data.specs.declared.step.StepError.{StepError}
use Rattle.rina_data.proofs.Finding.{there}
use Rattle.rina_dif_law.specs.Upward.{IsSilent}
use Rattle.rina_dif.specs.declared.cdap.CdapCallError.{CdapCallError}
use Rattle.rina_dif.specs.declared.dif.Dif.{Dif}
use Rattle.rina_dif.specs.Shown.{seen_of as seen_of_dif}
use Rattle.rina_dif.proofs.Waiting.{no_fewer}
use Rattle.rina_iface.specs.declared.ends.End.{End}
use Rattle.rina_iface.specs.Journal.{At, HasPorts}
use Rattle.rina_iface.specs.Seen.{Fac, Seen, with_end}
use Rattle.rina_tower.specs.declared.tower.Tower.{Tower, Rank', Wires}
use Rattle.rina_tower.specs.Cdap.{AsksAt, AsksAtTop}
use Rattle.rina_tower.specs.StepEffect.{StandsAfter}
use Rattle.rina_tower.specs.Ranks.{fac_of_dif, height_of, rank_of, seen_of}
use Rattle.rina_tower.specs.Rounds.{AllMove, Anything, IsRound, Move, Moves, InMove, ClockMove, OutMove}
use Rattle.rina_tower.specs.Steps.{ClocksAt, ClocksAtTop, InSteps, InStepsAtTop, OutSteps, OutStepsAtTop}
use Rattle.rina_tower.specs.LowerUse.{MayClaim, MayUse, UsesOne}
use Rattle.rina_tower.specs.Levels.{AtDif, AtRank}
use Rattle.rina_tower.proofs.Asked.{asked_facs}
use Rattle.rina_laws.proofs.LabelCalls.{AllRest, frees, rest_idle}
use Rattle.rina_laws.proofs.LabelRanks.{DoesAll, IsAlone, alone_refl, at_rank, at_rank_more, at_top, facs_of, is_alone, level}
use Rattle.rina_laws.proofs.LabelRests.{AreOf, Rest, RestFac, Rests, ends_same, ends_set, rest_on, rest_same, rest_set, rests_still, wait_less, wait_more, wait_same}

-- ---- one DIF

later_rests : (d d' : Dif) → IsSilent (seen_of_dif d) (seen_of_dif d') → (i : ℕ) (e e' : End) → At (seen_of_dif d).ends i e → At (seen_of_dif d').ends i e' → Rests e e'
later_rests d d' s i e e' x y =
    let l = s.later.ends i e x in
    let one : l.0 ≡ e' = same_Some l.0 e' (sym l.1 ∙ y) in
    let same = s.same i e e' x y in
    let port : e'.port ≡ e.port = ap (λ (z : End). z.port) (sym one) ∙ l.2.port in
    let app : e'.app ≡ e.app = ap (λ (z : End). z.app) (sym one) ∙ l.2.app in
    rests_still e e' port app same.0 same.1 l.2.got.more (ap (λ (z : End). z.got) (sym one) ∙ l.2.got.is)

-- each port is that of its DIF, as the port of the asker of a new far end is
own_ports : (d d' : Dif) → IsSilent (seen_of_dif d) (seen_of_dif d') → HasPorts (seen_of_dif d').config.fac (fac_of_dif d') → (n : ℕ) → AreOf n (fac_of_dif d).ends → AreOf n (fac_of_dif d').ends
own_ports d d' s ports n own i e y = elim (cases_lt i (length (fac_of_dif d).ends)) [
  | inl low ↦ (let a = there (fac_of_dif d).ends i low in of_old i a.0 a.1 e y)
  | inr past ↦
      let f = (s.fresh i e y past).answers in
      let a = s.later.ends f.place f.asker f.stands in
      ports.own i e y ∙ sym (ports.own f.place a.0 a.1) ∙ of_old f.place f.asker f.stands a.0 a.1
]
  where
    of_old : (k : ℕ) (a : End) → At (fac_of_dif d).ends k a → (b : End) → At (fac_of_dif d').ends k b → b.port.fac ≡ n
    of_old k a x b z = ap (λ (q : Port). q.fac) (later_rests d d' s k a b x z).port ∙ own k a x

dif_rests : (below below' : Seen) (d d' : Dif) → StandsAfter below below' d d' → RestFac (fac_of_dif d) (fac_of_dif d')
dif_rests below below' d d' k =
    let s = k.silent in
    let w = k.waiting in
    let es : List End = (fac_of_dif d).ends in
    let es' : List End = (fac_of_dif d').ends in
    record {
      ends = record {
        longer = no_fewer (seen_of_dif d).clock (seen_of_dif d').clock es es' s.later.ends;
        each = later_rests d d' s;
        fresh = λ i e y past. (let f = s.fresh i e y past in inr (f.sent, f.taken));
        own = own_ports d d' s k.stands.1.standing.ports;
        apart = λ apart. k.stands.1.standing.ports.apart;
      };
      waiting = wait_more (fac_of_dif d) (fac_of_dif d') w.more w.waiting w.are_new w.once;
    }

one_rests : (s s' : Seen) → UsesOne s s' → Rest s.facs s'.facs
one_rests s s' (inl is) = rest_same s.facs s'.facs (ap (λ (x : Seen). x.facs) is)
one_rests s s' (inr (inr u)) = frees u.both s u.port (Ok tt) s' u.freed
one_rests s s' (inr (inl u)) =
    let rests : Rests u.end u.end' = record { port = u.its_port; app = u.its_app; rests = inl u.ipc } in
    subst (Rest s.facs) (sym (ap (λ (x : Seen). x.facs) u.new_is)) (rest_set s.facs u.port.fac u.facility (with_end u.facility u.place u.end') u.stands.facility (record { ends = ends_set u.facility.ends u.place u.end u.end' u.stands.is rests; waiting = wait_same u.facility (with_end u.facility u.place u.end') refl }))

-- a far end that is claimed waits no more
claim_rests : (s s' : Seen) → MayClaim s s' → Rest s.facs s'.facs
claim_rests s s' (inl is) = rest_same s.facs s'.facs (ap (λ (x : Seen). x.facs) is)
claim_rests s s' (inr c) =
    let k = c.claimed in
    let f : Fac = record k.facility { waiting = remove k.facility.waiting k.at } in
    subst (Rest s.facs) (sym (ap (λ (x : Seen). x.facs) k.new_is)) (rest_set s.facs c.fac k.facility f k.stands (record { ends = ends_same k.facility.ends k.facility.ends refl; waiting = wait_less k.facility f k.at refl }))

uses_rest : (s s' : Seen) → MayUse s s' → Rest s.facs s'.facs
uses_rest s s' u = rest_on s.facs u.mid.facs s'.facs (claim_rests s u.mid u.claims) (one_rests u.mid s' u.uses)

-- ---- at the own rank, over the rank below

step_rests : (p p' : _) (n : ℕ) (does : Dif → Dif → Type 0) (none : Type 0) (difs difs' : List Dif) (below below' : Tower) → ((d d' : Dif) → does d d' → StandsAfter (seen_of below) (seen_of below') d d') → (none → below' ≡ below)
    → AtDif n does none difs difs' → IsAlone below below' → DoesAll (λ r. Rest) (Rank' p difs below) (Rank' p' difs' below')
step_rests p p' n does none difs difs' below below' after idle a same = elim a [
  | inl h ↦
      let k = after h.dif h.dif' h.done in
      let here : slice_get (map fac_of_dif difs) n ≡ Some (fac_of_dif h.dif) = slice_get-map fac_of_dif difs n ∙ ap (option_map fac_of_dif) h.is_dif in
      let own = rest_set (map fac_of_dif difs) n (fac_of_dif h.dif) (fac_of_dif h.dif') here (dif_rests (seen_of below) (seen_of below') h.dif h.dif' k) in
      all (subst (Rest (map fac_of_dif difs)) (sym (ap (map fac_of_dif) h.new_is ∙ map-set fac_of_dif difs n h.dif')) own) (uses_rest (seen_of below) (seen_of below') k.uses)
  | inr h ↦ all (rest_same (map fac_of_dif difs) (map fac_of_dif difs') (ap (map fac_of_dif) h.2)) (rest_same (facs_of below) (facs_of below') (ap facs_of (idle h.1)))
]
  where
    all : Rest (map fac_of_dif difs) (map fac_of_dif difs') → Rest (facs_of below) (facs_of below') → DoesAll (λ r. Rest) (Rank' p difs below) (Rank' p' difs' below')
    all own used =
        let low = at_top (λ r. Rest) below below' same used (rest_idle (height_of below)) in
        record {
          level = ap (λ h. h + 1) (level below below' same);
          all = at_rank_more (λ r. Rest) p p' difs difs' below below' (level below below' same) own (λ r ne. low.rank r);
        }

same_rests : (u u' : Tower) → u' ≡ u → DoesAll (λ r. Rest) u u'
same_rests u u' is = subst (DoesAll (λ r. Rest) u) (sym is) (record { level = refl; all = at_top (λ r. Rest) u u (alone_refl u) (rest_same (facs_of u) (facs_of u) refl) (rest_idle (height_of u)) })

in_rests : (n node link : ℕ) (x : Result InStep StepError) (u u' : Tower) → InStepsAtTop n node link x u u' → DoesAll (λ r. Rest) u u'
in_rests n node link x (Wires a) (Wires a') w = same_rests (Wires a) (Wires a') (ap Wires w.1)
in_rests n node link x (Rank' p difs below) (Rank' p' difs' below') w = step_rests p p' n _ _ difs difs' below below' (λ d d' k. k.after) (λ h. h.1) w.0 (is_alone below below' w.1)
in_rests n node link x (Wires a) (Rank' p difs below) w = absurd w
in_rests n node link x (Rank' p difs below) (Wires a) w = absurd w

out_rests : (may : List ℕ → ℕ → List Head → ℕ → Type 0) (slots slots' : List Slot) (n node link : ℕ) (x : Result OutStep StepError) (u u' : Tower) → OutStepsAtTop may slots slots' n node link x u u' → DoesAll (λ r. Rest) u u'
out_rests may slots slots' n node link x (Wires a) (Wires a') w = same_rests (Wires a) (Wires a') (ap Wires w.2)
out_rests may slots slots' n node link x (Rank' p difs below) (Rank' p' difs' below') w = step_rests p p' n _ _ difs difs' below below' (λ d d' k. k.after) (λ h. h.2) w.0 (is_alone below below' w.1)
out_rests may slots slots' n node link x (Wires a) (Rank' p difs below) w = absurd w
out_rests may slots slots' n node link x (Rank' p difs below) (Wires a) w = absurd w

clock_rests : (n node : ℕ) (x : Result ClockStep StepError) (u u' : Tower) → ClocksAtTop n node x u u' → DoesAll (λ r. Rest) u u'
clock_rests n node x (Wires a) (Wires a') w = same_rests (Wires a) (Wires a') (ap Wires w.1)
clock_rests n node x (Rank' p difs below) (Rank' p' difs' below') w = step_rests p p' n _ _ difs difs' below below' (λ d d' k. k.after) (λ h. h.1) w.0 (is_alone below below' w.1)
clock_rests n node x (Wires a) (Rank' p difs below) w = absurd w
clock_rests n node x (Rank' p difs below) (Wires a) w = absurd w

ask_rests : (n node : ℕ) (bytes : List ℕ) (x : Result (List ℕ) CdapCallError) (u u' : Tower) → AsksAtTop n node bytes x u u' → DoesAll (λ r. Rest) u u'
ask_rests n node bytes x (Wires a) (Wires a') w = same_rests (Wires a) (Wires a') (ap Wires w.1)
ask_rests n node bytes x (Rank' p difs below) (Rank' p' difs' below') w =
    let same : IsAlone below below' = subst (IsAlone below) (sym w.1) (alone_refl below) in
    let own = rest_same (map fac_of_dif difs) (map fac_of_dif difs') (asked_facs n node bytes x _ difs difs' w.0) in
    let low = at_top (λ r. Rest) below below' same (rest_same (facs_of below) (facs_of below') (ap facs_of w.1)) (rest_idle (height_of below)) in
    record {
      level = ap (λ h. h + 1) (level below below' same);
      all = at_rank_more (λ r. Rest) p p' difs difs' below below' (level below below' same) own (λ r ne. low.rank r);
    }
ask_rests n node bytes x (Wires a) (Rank' p difs below) w = absurd w
ask_rests n node bytes x (Rank' p difs below) (Wires a) w = absurd w

-- ---- at a rank

steps_rest : (r : ℕ) (does : Tower → Tower → Type 0) (none : Type 0) (t t' : Tower) → ((u u' : Tower) → does u u' → DoesAll (λ k. Rest) u u') → AtRank r does none t t' → AllRest t t'
steps_rest r does none t t' own d = let all = at_rank (λ k. Rest) r does none t t' (rank_of t r) refl (λ u u' is high w. own u u' w) (rest_idle r) d in all.all

pub ins_rest : (r n node link : ℕ) (x : Result InStep StepError) (t t' : Tower) → InSteps r n node link x t t' → AllRest t t'
ins_rest r n node link x t t' d = steps_rest r _ _ t t' (in_rests n node link x) d

pub outs_rest : (may : List ℕ → ℕ → List Head → ℕ → Type 0) (slots slots' : List Slot) (r n node link : ℕ) (x : Result OutStep StepError) (t t' : Tower) → OutSteps may slots slots' r n node link x t t' → AllRest t t'
outs_rest may slots slots' r n node link x t t' d = steps_rest r _ _ t t' (out_rests may slots slots' n node link x) d

pub clocks_rest : (r n node : ℕ) (x : Result ClockStep StepError) (t t' : Tower) → ClocksAt r n node x t t' → AllRest t t'
clocks_rest r n node x t t' d = steps_rest r _ _ t t' (clock_rests n node x) d

pub asks_rest : (r n node : ℕ) (bytes : List ℕ) (x : Result (List ℕ) CdapCallError) (t t' : Tower) → AsksAt r n node bytes x t t' → AllRest t t'
asks_rest r n node bytes x t t' d = steps_rest r _ _ t t' (ask_rests n node bytes x) d

-- ---- rounds

move_rests : (m : Move) (slots : List Slot) (t : Tower) (slots' : List Slot) (t' : Tower) → Moves m slots t slots' t' → AllRest t t'
move_rests (InMove p x) slots t slots' t' d = ins_rest p.rank p.dif p.node p.link x t t' d.1
move_rests (ClockMove p x) slots t slots' t' d = clocks_rest p.rank p.dif p.node x t t' d.1
move_rests (OutMove p x) slots t slots' t' d = outs_rest Anything slots slots' p.rank p.dif p.node p.link x t t' d

-- what stays where the ends of applications rest stays over many steps
moves_keep : (K : Tower → Type 0) (ms : List Move) (slots : List Slot) (t : Tower) (slots' : List Slot) (t' : Tower) → ((u u' : Tower) → AllRest u u' → K u → K u') → AllMove ms slots t slots' t' → K t → K t'
moves_keep K [] slots t slots' t' on d k = subst K (sym d.1) k
moves_keep K (m ∷ ms) slots t slots' t' on (mid, between, one, more) k = moves_keep K ms mid between slots' t' on more (on t between (move_rests m slots t mid between one) k)

pub round_keeps : (K : Tower → Type 0) (slots slots' : List Slot) (t t' : Tower) → ((u u' : Tower) → AllRest u u' → K u → K u') → IsRound slots slots' t t' → K t → K t'
round_keeps K slots slots' t t' on r k =
    let taken = moves_keep K r.takes slots t slots r.taken on r.do_take k in
    let clocked = moves_keep K r.dues slots r.taken slots r.clocked on r.do_dues taken in
    moves_keep K r.leaves slots r.clocked slots' t' on r.do_leave clocked
