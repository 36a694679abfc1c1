-- What time and the events of a wire leave alone.
use Rattle.std.proofs.Common.{◌≡◌, ◌∙◌, ℕ, ◌+◌, zero, suc, Bool, true, false, List, [], ◌∷◌, fold, length, map, take, slice_get, slice_set, Option, Some, None, option_map, Result, Ok, Err, refl, sym, ap, subst, inl, inr, arith}
use Rattle.std.proofs.Common.{length-set}
use Rattle.std.proofs.lemmas.Option.{same_Some, slice_get_within}
use Rattle.rina_law.specs.declared.entry.Entry.{Entry}
use Rattle.rina_iface.specs.declared.ends.End.{End}
use Rattle.rina_iface.specs.Ends.{with_got}
use Rattle.rina_iface.specs.Journal.{At}
use Rattle.rina_iface.specs.Later.{IsLater}
use Rattle.rina_iface.specs.Seen.{Fac, with_fac}
use Rattle.rina_data.proofs.Finding.{there}
use Rattle.rina_wire.specs.declared.event.WireError.{WireError}
use Rattle.rina_wire.specs.declared.flight.Flight.{Flight}
use Rattle.rina_wire.specs.declared.tick.TickError.{TickError}
use Rattle.rina_wire.specs.declared.tick.TickError.TheVariants.{Memory, ClockSpent}
use Rattle.rina_wire.specs.Air.{Air, Line, fac_of, on_wire, seen_of, wire_at}
use Rattle.rina_wire.specs.Cut.{CutsOn, cut_line}
use Rattle.rina_wire.specs.Tick.{AllPart, IsPart, TicksOn, TornBy, arrival, line_ticked, looked_at}
use Rattle.rina_wire.proofs.Arrivals.{looks}
use Rattle.rina_wire.proofs.Kept.{is_mapped}
use Rattle.rina_wire.proofs.LaterTick.{ticks_later}
use Rattle.rina_wire.proofs.Seen.{fac_at, seen_on_wire}
use Rattle.rina_wire.proofs.SoundCut.{OnlyStates, cut_states, cuts_later}
use Rattle.rina_wire.proofs.Ticks.{whole}
use Rattle.rina_tower.specs.Bystanders.{Anyone, Leaves, LeavesEnds, LeavesNow}
use Rattle.rina_tower.proofs.Alone.{end_alone, fac_alone, others_new, same_alone}

-- Journals of which nothing was sent or passed

-- as many ends, each with what it sent and passed
record AreQuiet (es es' : List End) : Type 0 where
  size : length es' ≡ length es
  same : (i : ℕ) (e e' : End) → At es i e → At es' i e' → (e'.sent ≡ e.sent) × (e'.taken ≡ e.taken)

quiet_alone : (es es' : List End) → AreQuiet es es' → LeavesEnds Anyone es es'
quiet_alone es es' q = others_new Anyone es es' (λ i e e' x y mine. q.same i e e' x y) (λ i e' y past. absurd (let within = slice_get_within es' i e' y in let size = q.size in omega (arith, within, past, size)))

quiet_same : (es : List End) → AreQuiet es es
quiet_same es = record { size = refl; same = λ i e e' x y. (let is : e' ≡ e = same_Some e' e (sym y ∙ x) in (ap (λ (z : End). z.sent) is, ap (λ (z : End). z.taken) is)) }

quiet_on : (es fs gs : List End) → AreQuiet es fs → AreQuiet fs gs → AreQuiet es gs
quiet_on es fs gs p q = record {
  size = q.size ∙ p.size;
  same = λ i e e' x y.
      let within = slice_get_within es i e x in
      let size = p.size in
      let m = there fs i (omega (arith, within, size)) in
      let a = p.same i e m.0 x m.1 in
      let c = q.same i m.0 e' m.1 y in
      (c.0 ∙ a.0, c.1 ∙ a.1);
}

quiet_got : (es : List End) (at : ℕ) (e : End) (x : Entry) → At es at e → AreQuiet es (slice_set es at (with_got e x))
quiet_got es at e x is = record {
  size = length-set es at (with_got e x);
  same = λ i a a' p q. (end_alone Anyone es at e (with_got e x) is (λ mine. (refl, refl))).stays i a a' p q tt;
}

quiet_looked : (now : ℕ) (es : List End) (f : Flight) → AreQuiet es (looked_at now es f)
quiet_looked now es f = elim (looks now es f) [
  | inl same ↦ subst (AreQuiet es) (sym same) (quiet_same es)
  | inr a ↦ subst (AreQuiet es) (sym a.is) (quiet_got es f.to a.end (arrival now f) a.stands)
]

quiet_fold : (now : ℕ) (es : List End) (fs : List Flight) → AreQuiet es (fold (looked_at now) es fs)
quiet_fold now es [] = quiet_same es
quiet_fold now es (f ∷ fs) = quiet_on es (looked_at now es f) (fold (looked_at now) (looked_at now es f) fs) (quiet_looked now es f) (quiet_fold now (looked_at now es f) fs)

-- A tick

part_alone : (now : ℕ) (l l' : Line) → IsPart now l l' → LeavesEnds Anyone l.ends l'.ends
part_alone now l l' p = subst (λ (x : Line). LeavesEnds Anyone l.ends x.ends) (sym p.is) (quiet_alone l.ends _ (quiet_fold now l.ends (take p.count l.flights)))

parts_at : (now : ℕ) (ls ls' : List Line) (n : ℕ) (l l' : Line) → AllPart now ls ls' → slice_get ls n ≡ Some l → slice_get ls' n ≡ Some l' → IsPart now l l'
parts_at now [] ls' n l l' p h g = cc
parts_at now (k ∷ ls) [] n l l' p h g = absurd p
parts_at now (k ∷ ls) (k' ∷ ls') zero l l' p h g = subst (λ (x : Line). IsPart now x l') (same_Some k l h) (subst (λ (x : Line). IsPart now k x) (same_Some k' l' g) p.0)
parts_at now (k ∷ ls) (k' ∷ ls') (suc n) l l' p h g = parts_at now ls ls' n l l' p.1 h g

all_parts : (now : ℕ) (ls : List Line) → AllPart now ls (map (line_ticked now) ls)
all_parts now [] = tt
all_parts now (l ∷ ls) = (whole now l, all_parts now ls)

parts_alone : (now : ℕ) (a a' : Air) (n : ℕ) (f f' : Fac) → AllPart now a.wires a'.wires → slice_get (seen_of a).facs n ≡ Some f → slice_get (seen_of a').facs n ≡ Some f' → LeavesEnds Anyone f.ends f'.ends
parts_alone now a a' n f f' p x y =
    let w = is_mapped fac_of (wire_at a n) f (sym (fac_at a n) ∙ x) in
    let v = is_mapped fac_of (wire_at a' n) f' (sym (fac_at a' n) ∙ y) in
    subst (λ (g : Fac). LeavesEnds Anyone g.ends f'.ends) w.2 (subst (λ (g : Fac). LeavesEnds Anyone (fac_of w.0).ends g.ends) v.2 (part_alone now w.0 v.0 (parts_at now a.wires a'.wires n w.0 v.0 p w.1 v.1)))

torn_alone : (a a' : Air) (failed : Bool) → TornBy failed a a' → TicksOn a (Err Memory) a' → Leaves Anyone (seen_of a) (seen_of a')
torn_alone a a' true t h = (same_alone Anyone (seen_of a) (seen_of a') (ap seen_of t)).leaves
torn_alone a a' false t h = record { later = ticks_later a (Err Memory) a' h; ends = λ n f f' x y. parts_alone (a.now + 1) a a' n f f' t.wires x y }

-- a tick sends and passes nothing
pub ticks_alone : (a : Air) (r : Result (Unit {0}) TickError) (a' : Air) → TicksOn a r a' → Leaves Anyone (seen_of a) (seen_of a')
ticks_alone a (Ok done) a' g = record {
  later = ticks_later a (Ok done) a' g;
  ends = λ n f f' x y. parts_alone (a.now + 1) a a' n f f' (subst (λ (z : Air). AllPart (a.now + 1) a.wires z.wires) (sym g.air) (all_parts (a.now + 1) a.wires)) x y;
}
ticks_alone a (Err Memory) a' g = torn_alone a a' a.failed g g
ticks_alone a (Err ClockSpent) a' g = (same_alone Anyone (seen_of a) (seen_of a') (ap seen_of g.air)).leaves

-- A cut

states_alone : (l l' : Line) → OnlyStates l l' → LeavesEnds Anyone l.ends l'.ends
states_alone l l' o = quiet_alone l.ends l'.ends (record {
  size = o.size;
  same = λ i e e' x y.
      let w = o.was i e' y in
      let is : w.0 ≡ e = same_Some w.0 e (sym w.1 ∙ x) in
      (ap (λ (z : End). z.sent) w.2 ∙ ap (λ (z : End). z.sent) is, ap (λ (z : End). z.taken) w.2 ∙ ap (λ (z : End). z.taken) is);
})

cut_alone : (a : Air) (wire : ℕ) (a' : Air) (o : Option Line) → wire_at a wire ≡ o → a' ≡ on_wire a wire (cut_line a.now) → IsLater (seen_of a) (seen_of a') → LeavesNow Anyone (seen_of a) (seen_of a')
cut_alone a wire a' None h is later = same_alone Anyone (seen_of a) (seen_of a') (ap seen_of is ∙ rw h refl)
cut_alone a wire a' (Some l) h is later =
    let new : seen_of a' ≡ with_fac (seen_of a) wire (fac_of (cut_line a.now l)) = ap seen_of is ∙ seen_on_wire a wire (cut_line a.now) l h in
    let there = fac_alone Anyone (seen_of a) wire (fac_of l) (fac_of (cut_line a.now l)) (fac_at a wire ∙ ap (option_map fac_of) h) (subst (IsLater (seen_of a)) new later) (states_alone l (cut_line a.now l) (cut_states a.now l)) in
    subst (LeavesNow Anyone (seen_of a)) (sym new) there

-- and a cut sends and passes nothing
pub cuts_alone : (a : Air) (wire : ℕ) (r : Result (Unit {0}) WireError) (a' : Air) → CutsOn a wire r a' → LeavesNow Anyone (seen_of a) (seen_of a')
cuts_alone a wire (Ok done) a' g = cut_alone a wire a' (wire_at a wire) refl g.air (cuts_later a wire (Ok done) a' g)
cuts_alone a wire (Err e) a' g = same_alone Anyone (seen_of a) (seen_of a') (ap seen_of g.air)
