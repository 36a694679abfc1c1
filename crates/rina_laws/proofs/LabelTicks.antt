-- What ticks and the events of wires do to the ends of all ranks: they rest.
use Rattle.std.proofs.Common.{◌≡◌, ◌∙◌, ℕ, ◌+◌, List, [], ◌∷◌, fold, get_or, map, slice_get, Option, Some, None, option_map, Result, Ok, Err, refl, sym, ap, subst, arith, inl, inr}
use Rattle.std.proofs.lemmas.Option.{same_Some, slice_get-get_or, slice_get-map, slice_get_within}
use Rattle.rina_dif_law.proofs.Own.{map_at}
use Rattle.rina_dif.specs.declared.dif.Dif.{Dif}
use Rattle.rina_iface.specs.declared.ends.End.{End}
use Rattle.rina_iface.specs.Ends.{with_got}
use Rattle.rina_iface.specs.Seen.{Fac, Seen}
use Rattle.rina_wire.specs.declared.event.WireError.{WireError}
use Rattle.rina_wire.specs.declared.flight.Flight.{Flight}
use Rattle.rina_wire.specs.Air.{Air, Line, fac_of, on_wire, seen_of as seen_of_wires, wire_at}
use Rattle.rina_wire.specs.Cut.{CutsOn, cut_line}
use Rattle.rina_wire.specs.Tick.{arrival, line_ticked, looked_at, ticked}
use Rattle.rina_wire.proofs.Arrivals.{looks}
use Rattle.rina_wire.proofs.Seen.{fac_at, seen_on_wire}
use Rattle.rina_wire.proofs.SoundCut.{OnlyStates, cut_states, mends_unseen}
use Rattle.rina_wire.proofs.SoundDisturb.{holds_unseen, loses_unseen, repeats_unseen}
use Rattle.rina_tower.specs.declared.tower.Tower.{Tower, Rank', Wires}
use Rattle.rina_tower.specs.Events.{Cuts, HoldsBack, Loses, Mends, Repeats}
use Rattle.rina_tower.specs.Ranks.{fac_of_dif, now_of}
use Rattle.rina_tower.specs.ClockTick.{AreClocked, Ticks}
use Rattle.rina_tower.specs.Levels.{AtWires}
use Rattle.rina_laws.proofs.LabelCalls.{AllRest, rest_idle, restated}
use Rattle.rina_laws.proofs.LabelRanks.{DoesAll, at_air, at_rank_more, at_wires, facs_of}
use Rattle.rina_laws.proofs.LabelRests.{Rest, RestEnds, RestFac, Rests, ends_each, ends_on, ends_same, ends_set, fac_same, rest_same, rest_set, rests_still, wait_same}

-- ---- arrivals on a wire

got_rests : (e : End) (x : _) → Rests e (with_got e x)
got_rests e x = rests_still e (with_got e x) refl refl refl refl (x ∷ []) refl

looked_rest : (now : ℕ) (es : List End) (f : Flight) → RestEnds es (looked_at now es f)
looked_rest now es f = elim (looks now es f) [
  | inl same ↦ ends_same es (looked_at now es f) same
  | inr a ↦ subst (RestEnds es) (sym a.is) (ends_set es f.to a.end (with_got a.end (arrival now f)) a.stands (got_rests a.end (arrival now f)))
]

fold_rests : (now : ℕ) (es : List End) (fs : List Flight) → RestEnds es (fold (looked_at now) es fs)
fold_rests now es [] = ends_same es es refl
fold_rests now es (f ∷ fs) = ends_on es (looked_at now es f) (fold (looked_at now) (looked_at now es f) fs) (looked_rest now es f) (fold_rests now (looked_at now es f) fs)

line_rests : (now : ℕ) (l : Line) → RestFac (fac_of l) (fac_of (line_ticked now l))
line_rests now l = record { ends = fold_rests now l.ends l.flights; waiting = wait_same (fac_of l) (fac_of (line_ticked now l)) refl }

-- what is made of each, seen from before and after
mapped_rest : {X : Type 0} (h h' : X → Fac) (xs : List X) → ((x : X) → RestFac (h x) (h' x)) → Rest (map h xs) (map h' xs)
mapped_rest h h' xs rests = record {
  on = λ n f at. (let m = map_at h xs n f at in (h' m.0, slice_get-map h' xs n ∙ ap (option_map h') m.1, subst (λ (g : Fac). RestFac g (h' m.0)) (sym m.2) (rests m.0)));
  from = λ n f at. (let m = map_at h' xs n f at in (h m.0, slice_get-map h xs n ∙ ap (option_map h) m.1, subst (RestFac (h m.0)) (sym m.2) (rests m.0)));
}

map_twice : (now : ℕ) (ls : List Line) → map fac_of (map (line_ticked now) ls) ≡ map (λ (l : Line). fac_of (line_ticked now l)) ls
map_twice now [] = refl
map_twice now (l ∷ ls) = ap (λ (fs : List Fac). fac_of (line_ticked now l) ∷ fs) (map_twice now ls)

wires_rest : (a : Air) → Rest (map fac_of a.wires) (map fac_of (ticked a).wires)
wires_rest a = subst (Rest (map fac_of a.wires)) (sym (map_twice (a.now + 1) a.wires)) (mapped_rest fac_of (λ (l : Line). fac_of (line_ticked (a.now + 1) l)) a.wires (line_rests (a.now + 1)))

-- ---- a tick of a tower

clocked_rests : (now : ℕ) (difs difs' : List Dif) → AreClocked now difs difs' → Rest (map fac_of_dif difs) (map fac_of_dif difs')
clocked_rests now difs difs' c = record {
  on = λ n f at.
      let m = map_at fac_of_dif difs n f at in
      let size = c.number in
      let there : slice_get difs' n ≡ Some (get_or difs' n m.0) = slice_get-get_or difs' n m.0 (omega (arith, size, slice_get_within difs n m.0 m.1)) in
      (fac_of_dif (get_or difs' n m.0), slice_get-map fac_of_dif difs' n ∙ ap (option_map fac_of_dif) there, subst (λ (g : Fac). RestFac g (fac_of_dif (get_or difs' n m.0))) (sym m.2) (same_dif n m.0 (get_or difs' n m.0) m.1 there));
  from = λ n f at.
      let m = map_at fac_of_dif difs' n f at in
      let size = c.number in
      let there : slice_get difs n ≡ Some (get_or difs n m.0) = slice_get-get_or difs n m.0 (omega (arith, size, slice_get_within difs' n m.0 m.1)) in
      (fac_of_dif (get_or difs n m.0), slice_get-map fac_of_dif difs n ∙ ap (option_map fac_of_dif) there, subst (RestFac (fac_of_dif (get_or difs n m.0))) (sym m.2) (same_dif n (get_or difs n m.0) m.0 there m.1));
}
  where
    same_dif : (n : ℕ) (d d' : Dif) → slice_get difs n ≡ Some d → slice_get difs' n ≡ Some d' → RestFac (fac_of_dif d) (fac_of_dif d')
    same_dif n d d' x y =
        let rest = (c.each n d d' x y).rest in
        fac_same (fac_of_dif d) (fac_of_dif d') (ap (λ (x : Dif). x.flows.journal.ends) rest) (ap (λ (x : Dif). x.waiting.items) rest)

tick_does : (t t' : Tower) → Ticks (Ok tt) t t' → DoesAll (λ r. Rest) t t'
tick_does (Wires a) (Wires a') g = record { level = refl; all = at_wires (λ r. Rest) a a' (subst (λ (x : Air). Rest (facs_of (Wires a)) (facs_of (Wires x))) (sym g.air) (wires_rest a)) }
tick_does (Rank' p difs below) (Rank' p' difs' below') g =
    let deep = tick_does below below' g.1 in
    record { level = ap (λ n. n + 1) deep.level; all = at_rank_more (λ r. Rest) p p' difs difs' below below' deep.level (clocked_rests (now_of below') difs difs' g.0) (λ k ne. deep.all.rank k) }
tick_does (Wires a) (Rank' p difs below) g = absurd g
tick_does (Rank' p difs below) (Wires a) g = absurd g

pub tick_rests : (t t' : Tower) → Ticks (Ok tt) t t' → AllRest t t'
tick_rests t t' g = (let d = tick_does t t' g in d.all)

-- ---- events of wires

event_rests : (does : Air → Air → Type 0) (t t' : Tower) → ((a a' : Air) → does a a' → Rest (facs_of (Wires a)) (facs_of (Wires a'))) → AtWires does t t' → AllRest t t'
event_rests does t t' own w = (let d = at_air (λ r. Rest) does t t' own (rest_idle 0) w in d.all)

unseen : (a a' : Air) → seen_of_wires a' ≡ seen_of_wires a → Rest (facs_of (Wires a)) (facs_of (Wires a'))
unseen a a' is = rest_same (facs_of (Wires a)) (facs_of (Wires a')) (ap (λ (s : Seen). s.facs) is)

pub lose_rests : (wire k : ℕ) (r : Result (Unit {0}) WireError) (t t' : Tower) → Loses wire k r t t' → AllRest t t'
lose_rests wire k r t t' w = event_rests _ t t' (λ a a' d. unseen a a' (loses_unseen a wire k r a' d)) w

pub repeat_rests : (wire k at : ℕ) (r : Result (Unit {0}) WireError) (t t' : Tower) → Repeats wire k at r t t' → AllRest t t'
repeat_rests wire k at r t t' w = event_rests _ t t' (λ a a' d. unseen a a' (repeats_unseen a wire k at r a' d)) w

pub hold_rests : (wire k at : ℕ) (r : Result (Unit {0}) WireError) (t t' : Tower) → HoldsBack wire k at r t t' → AllRest t t'
hold_rests wire k at r t t' w = event_rests _ t t' (λ a a' d. unseen a a' (holds_unseen a wire k at r a' d)) w

pub mend_rests : (wire : ℕ) (r : Result (Unit {0}) WireError) (t t' : Tower) → Mends wire r t t' → AllRest t t'
mend_rests wire r t t' w = event_rests _ t t' (λ a a' d. unseen a a' (mends_unseen a wire r a' d)) w

states_rest : (l l' : Line) → OnlyStates l l' → RestFac (fac_of l) (fac_of l')
states_rest l l' o = record {
  ends = ends_each l.ends l'.ends o.size (λ i e e' x y.
      let w = o.was i e' y in
      let one : w.0 ≡ e = same_Some w.0 e (sym w.1 ∙ x) in
      subst (λ (z : End). Rests z e') one (subst (Rests w.0) (sym w.2) (restated w.0 e'.state)));
  waiting = wait_same (fac_of l) (fac_of l') o.waiting;
}

cut_wire : (a : Air) (wire : ℕ) (o : Option Line) → wire_at a wire ≡ o → Rest (facs_of (Wires a)) (facs_of (Wires (on_wire a wire (cut_line a.now))))
cut_wire a wire None h = rw h (rest_same (facs_of (Wires a)) (facs_of (Wires a)) refl)
cut_wire a wire (Some l) h =
    let is = ap (λ (s : Seen). s.facs) (seen_on_wire a wire (cut_line a.now) l h) in
    subst (Rest (facs_of (Wires a))) (sym is) (rest_set (facs_of (Wires a)) wire (fac_of l) (fac_of (cut_line a.now l)) (fac_at a wire ∙ ap (option_map fac_of) h) (states_rest l (cut_line a.now l) (cut_states a.now l)))

cuts_rest : (a : Air) (wire : ℕ) (r : Result (Unit {0}) WireError) (a' : Air) → CutsOn a wire r a' → Rest (facs_of (Wires a)) (facs_of (Wires a'))
cuts_rest a wire (Ok done) a' g = subst (λ (x : Air). Rest (facs_of (Wires a)) (facs_of (Wires x))) (sym g.air) (cut_wire a wire (wire_at a wire) refl)
cuts_rest a wire (Err e) a' g = rest_same (facs_of (Wires a)) (facs_of (Wires a')) (ap (λ (x : Air). facs_of (Wires x)) g.air)

pub cut_rests : (wire : ℕ) (r : Result (Unit {0}) WireError) (t t' : Tower) → Cuts wire r t t' → AllRest t t'
cut_rests wire r t t' w = event_rests _ t t' (λ a a' d. cuts_rest a wire r a' d) w
