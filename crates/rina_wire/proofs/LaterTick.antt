-- After a tick journals are later.
use Rattle.std.proofs.Common.{◌≡◌, ℕ, ◌+◌, ◌≤◌, Bool, true, false, List, [], ◌∷◌, fold, length, map, take, slice_get, Some, option_map, Result, Ok, Err, refl, sym, ◌∙◌, ap, subst, inl, inr, arith}
use Rattle.std.proofs.lemmas.List.{length-map}
use Rattle.std.proofs.lemmas.Option.{same_Some}
use Rattle.rina_law.specs.declared.entry.Entry.{Entry}
use Rattle.rina_iface.specs.declared.ends.End.{End}
use Rattle.rina_iface.specs.declared.state.PortState.{PortState}
use Rattle.rina_iface.specs.declared.state.PortState.TheVariants.{Allocated}
use Rattle.rina_iface.specs.Ends.{with_got}
use Rattle.rina_iface.specs.Later.{AreLater, IsLater, IsLaterEnd, IsLaterFac, WasAllocated}
use Rattle.rina_iface.specs.Seen.{Fac}
use Rattle.rina_iface.proofs.Later.{ends_refl, ends_set, grows_push, grows_refl, later_refl, moves_refl}
use Rattle.rina_iface.proofs.LaterOn.{ends_on}
use Rattle.rina_wire.specs.declared.flight.Flight.{Flight}
use Rattle.rina_wire.specs.declared.tick.TickError.{TickError}
use Rattle.rina_wire.specs.declared.tick.TickError.TheVariants.{Memory, ClockSpent}
use Rattle.rina_wire.specs.Air.{Air, Line, fac_of, seen_of, wire_at}
use Rattle.rina_wire.specs.Tick.{AllPart, IsPart, TicksOn, TornBy, arrival, line_ticked, looked_at, ticked}
use Rattle.rina_wire.proofs.Arrivals.{looks}
use Rattle.rina_wire.proofs.Kept.{is_mapped}
use Rattle.rina_wire.proofs.Seen.{fac_at}
use Rattle.rina_wire.proofs.Ticks.{whole}
use Rattle.std.proofs.Common.{suc, zero}

-- an allocated end got something now
end_got : (before now : ℕ) (e : End) (x : Entry) → before ≤ now → x.tick ≡ now → e.state ≡ Allocated → IsLaterEnd before now e (with_got e x)
end_got before now e x le at state = record {
  flow = refl;
  role = refl;
  port = refl;
  app = refl;
  peer = refl;
  cube = refl;
  sent = grows_refl before now e.sent;
  got = grows_push before now e.got x (omega (arith, le, at)) (omega (arith, at));
  taken = omega arith;
  state = moves_refl e.state;
  only_allocated = λ none. absurd (none (subst (λ (s : PortState). WasAllocated s s) (sym state) tt));
}

looked_later : (before now : ℕ) (es : List End) (f : Flight) → before ≤ now → AreLater before now es (looked_at now es f)
looked_later before now es f le = elim (looks now es f) [
  | inl same ↦ subst (AreLater before now es) (sym same) (ends_refl before now es)
  | inr a ↦ subst (AreLater before now es) (sym a.is) (ends_set before now es f.to a.end (with_got a.end (arrival now f)) a.stands (end_got before now a.end (arrival now f) le refl a.allocated))
]

fold_later : (before now : ℕ) (es : List End) (fs : List Flight) → before ≤ now → AreLater before now es (fold (looked_at now) es fs)
fold_later before now es [] le = ends_refl before now es
fold_later before now es (f ∷ fs) le = ends_on before now es (looked_at now es f) (fold (looked_at now) (looked_at now es f) fs) (looked_later before now es f le) (fold_later before now (looked_at now es f) fs le)

-- a wire of which some copies were looked at
part_later : (before now : ℕ) (l l' : Line) → before ≤ now → IsPart now l l' → IsLaterFac before now (fac_of l) (fac_of l')
part_later before now l l' le p = rw p.is (record { ends = fold_later before now l.ends (take p.count l.flights) le; cubes = refl })

-- the wires that were there, later
parts_at : (now : ℕ) (ls ls' : List Line) (n : ℕ) (l : Line) → AllPart now ls ls' → slice_get ls n ≡ Some l → (l' : Line) × (slice_get ls' n ≡ Some l') × IsPart now l l'
parts_at now [] [] n l p h = cc
parts_at now [] (k' ∷ ls') n l p h = absurd p
parts_at now (k ∷ ls) [] n l p h = absurd p
parts_at now (k ∷ ls) (k' ∷ ls') zero l p h = (k', refl, subst (λ (x : Line). IsPart now x k') (same_Some k l h) p.0)
parts_at now (k ∷ ls) (k' ∷ ls') (suc n) l p h = parts_at now ls ls' n l p.1 h

parts_number : (now : ℕ) (ls ls' : List Line) → AllPart now ls ls' → length ls' ≡ length ls
parts_number now [] [] p = refl
parts_number now [] (k' ∷ ls') p = absurd p
parts_number now (k ∷ ls) [] p = absurd p
parts_number now (k ∷ ls) (k' ∷ ls') p = ap suc (parts_number now ls ls' p.1)

seen_number : (a : Air) → length (seen_of a).facs ≡ length a.wires
seen_number a = length-map a.wires fac_of

parts_later : (a a' : Air) → a'.now ≡ a.now + 1 → AllPart (a.now + 1) a.wires a'.wires → IsLater (seen_of a) (seen_of a')
parts_later a a' clock p = record {
  clock = omega (arith, clock);
  number = seen_number a' ∙ parts_number (a.now + 1) a.wires a'.wires p ∙ sym (seen_number a);
  facs = λ n f h.
      let w = is_mapped fac_of (wire_at a n) f (sym (fac_at a n) ∙ h) in
      let is_later = λ (g : Fac) (l l' : Line) (is : fac_of l ≡ g) (later : IsLaterFac a.now a'.now (fac_of l) (fac_of l')). subst (λ (x : Fac). IsLaterFac a.now a'.now x (fac_of l')) is later in
      let k = parts_at (a.now + 1) a.wires a'.wires n w.0 p w.1 in
      (fac_of k.0, fac_at a' n ∙ ap (option_map fac_of) k.1, is_later f w.0 k.0 w.2 (part_later a.now a'.now w.0 k.0 (omega (arith, clock)) (subst (λ (t : ℕ). IsPart t w.0 k.0) (sym clock) k.2)));
}

-- each copy was looked at
all_parts : (now : ℕ) (ls : List Line) → AllPart now ls (map (line_ticked now) ls)
all_parts now [] = tt
all_parts now (l ∷ ls) = (whole now l, all_parts now ls)

torn_later : (a a' : Air) (failed : Bool) → TornBy failed a a' → IsLater (seen_of a) (seen_of a')
torn_later a a' true t = rw t (later_refl (seen_of a))
torn_later a a' false t = parts_later a a' t.clock t.wires

pub ticks_later : (a : Air) (r : Result (Unit {0}) TickError) (a' : Air) → TicksOn a r a' → IsLater (seen_of a) (seen_of a')
ticks_later a (Ok done) a' g = rw g.air (parts_later a (ticked a) refl (all_parts (a.now + 1) a.wires))
ticks_later a (Err Memory) a' g = torn_later a a' a.failed g
ticks_later a (Err ClockSpent) a' g = rw g.air (later_refl (seen_of a))
