-- Wires stay sound over a tick.
use Rattle.std.proofs.Common.{◌≡◌, ℕ, ◌+◌, ◌<◌, cond, Bool, true, false, List, [], ◌∷◌, take, fold, filter, nat_le, slice_get, slice_set, Some, None, Option, Result, Ok, Err, All, refl, sym, arith, subst}
use Rattle.std.proofs.lemmas.List.Elements.{All-cons, All-map, All-weaker}
use Rattle.rina_iface.specs.declared.ends.End.{End}
use Rattle.rina_iface.specs.Ends.{with_got}
use Rattle.rina_wire.specs.declared.flight.Flight.{Flight}
use Rattle.rina_wire.specs.Air.{Air, Line}
use Rattle.rina_wire.specs.Sound.{IsSound, IsSoundLine}
use Rattle.rina_wire.specs.Tick.{AllPart, IsPart, TicksOn, arrived_at, arrival, line_ticked, looked_at, ticked}
use Rattle.rina_wire.specs.Allocate.{is_allocated}
use Rattle.rina_wire.specs.Air.{wire_at}
use Rattle.rina_wire.specs.Sound.{KeepsFlows}
use Rattle.rina_wire.specs.Tick.{IsTorn, TornBy, tick_refusal}
use Rattle.rina_wire.proofs.Arrivals.{part_flows, ticked_flows}
use Rattle.rina_wire.proofs.Kept.{is_mapped, sound_of}
use Rattle.std.proofs.Common.{length, suc, zero, ◌∙◌}
use Rattle.std.proofs.Common.{leb-false, nat_lt}
use Rattle.std.proofs.lemmas.Option.{none-some, same_Some, slice_get-map}
use Rattle.std.proofs.lemmas.List.Elements.{All-head, All-tail}
use Rattle.rina_wire.proofs.Sound.{IsLike, keeps, like_refl, like_set, like_trans}
use Rattle.rina_wire.specs.declared.tick.TickError.{TickError}
use Rattle.rina_wire.specs.declared.tick.TickError.TheVariants.{Memory, ClockSpent}

-- a copy that is looked at
like_arrived : (now : ℕ) (es : List End) (f : Flight) (o : Option End) → slice_get es f.to ≡ o → IsLike es (arrived_at now f es o)
like_arrived now es f None h = like_refl es
like_arrived now es f (Some e) h = elim (is_allocated e.state) as (λ b. IsLike es (cond b (slice_set es f.to (with_got e (arrival now f))) es)) [ true ↦ like_set es f.to e (with_got e (arrival now f)) h refl refl | false ↦ like_refl es ]

like_looked : (now : ℕ) (es : List End) (f : Flight) → IsLike es (looked_at now es f)
like_looked now es f = elim (nat_le f.due now) as (λ b. IsLike es (cond b (arrived_at now f es (slice_get es f.to)) es)) [ true ↦ like_arrived now es f (slice_get es f.to) refl | false ↦ like_refl es ]

like_fold : (now : ℕ) (es : List End) (fs : List Flight) → IsLike es (fold (looked_at now) es fs)
like_fold now es [] = like_refl es
like_fold now es (f ∷ fs) = like_trans es (looked_at now es f) (fold (looked_at now) (looked_at now es f) fs) (like_looked now es f) (like_fold now (looked_at now es f) fs)

ticked_stays : (now : ℕ) (l : Line) → IsSoundLine l → IsSoundLine (line_ticked now l)
ticked_stays now l s = keeps l (fold (looked_at now) l.ends l.flights) l.waiting l.names (filter (λ (f : Flight). nat_lt now f.due) l.flights) s (like_fold now l.ends l.flights)

part_stays : (now : ℕ) (l l' : Line) → IsSoundLine l → IsPart now l l' → IsSoundLine l'
part_stays now l l' s p = subst IsSoundLine (sym p.is) (keeps l (fold (looked_at now) l.ends (take p.count l.flights)) l.waiting l.names l'.flights s (like_fold now l.ends (take p.count l.flights)))

parts_stay : (now : ℕ) (ls ls' : List Line) → All IsSoundLine ls → AllPart now ls ls' → All IsSoundLine ls'
parts_stay now [] [] s p = s
parts_stay now [] (l' ∷ ls') s p = absurd p
parts_stay now (l ∷ ls) [] s p = absurd p
parts_stay now (l ∷ ls) (l' ∷ ls') s p = All-cons IsSoundLine l' ls' (part_stays now l l' (All-head IsSoundLine l ls s) p.0) (parts_stay now ls ls' (All-tail IsSoundLine l ls s) p.1)

below_end : (a : Air) → tick_refusal a ≡ None → a.now < 10000000
below_end a h = elim (nat_le 10000000 a.now) as (λ b. nat_le 10000000 a.now ≡ b → cond b (Some ClockSpent) None ≡ None → a.now < 10000000) [
  | true ↦ λ is g. absurd (none-some ClockSpent (sym g))
  | false ↦ λ is g. leb-false 10000000 a.now is
] refl h

-- as many ends as before
fold_size : (now : ℕ) (es : List End) (fs : List Flight) → length (fold (looked_at now) es fs) ≡ length es
fold_size now es fs = (like_fold now es fs).size

ticked_at : (a : Air) (n : ℕ) (l : Line) → IsSound a → a.failed ≡ false → wire_at (ticked a) n ≡ Some l → KeepsFlows (a.now + 1) a.failed n l
ticked_at a n l s alive h =
    let w = is_mapped (line_ticked (a.now + 1)) (wire_at a n) l (sym (slice_get-map (line_ticked (a.now + 1)) a.wires n) ∙ h) in
    subst (KeepsFlows (a.now + 1) a.failed n) w.2 (ticked_flows a.now (a.now + 1) a.failed n w.0 refl alive (fold_size (a.now + 1) w.0.ends w.0.flights) (s.flows n w.0 w.1))

-- the wire that was there before
part_at : (now : ℕ) (ls ls' : List Line) (n : ℕ) (l' : Line) → AllPart now ls ls' → slice_get ls' n ≡ Some l' → (l : Line) × (slice_get ls n ≡ Some l) × IsPart now l l'
part_at now [] [] n l' p h = cc
part_at now [] (k' ∷ ls') n l' p h = absurd p
part_at now (k ∷ ls) [] n l' p h = absurd p
part_at now (k ∷ ls) (k' ∷ ls') zero l' p h = (k, refl, subst (IsPart now k) (same_Some k' l' h) p.0)
part_at now (k ∷ ls) (k' ∷ ls') (suc n) l' p h = part_at now ls ls' n l' p.1 h

torn_at : (a a' : Air) (n : ℕ) (l' : Line) → IsSound a → IsTorn a a' → wire_at a' n ≡ Some l' → KeepsFlows a'.now a'.failed n l'
torn_at a a' n l' s t h =
    let w = part_at (a.now + 1) a.wires a'.wires n l' t.wires h in
    rw (t.clock, t.failed) (part_flows a.now (a.now + 1) a.failed n w.0 l' refl t.alive (λ count. fold_size (a.now + 1) w.0.ends (take count w.0.flights)) w.2 (s.flows n w.0 w.1))

torn_stays : (a a' : Air) (failed : Bool) → IsSound a → TornBy failed a a' → IsSound a'
torn_stays a a' true s t = subst IsSound (sym t) s
torn_stays a a' false s t =
    let lt = below_end a t.refused in
    sound_of a' (omega (arith, t.clock, lt)) (parts_stay (a.now + 1) a.wires a'.wires s.lines t.wires) (λ n l' h. torn_at a a' n l' s t h)

ticked_sound : (a : Air) → a.now < 10000000 → a.failed ≡ false → IsSound a → IsSound (ticked a)
ticked_sound a lt alive s = sound_of (ticked a) (omega (arith, lt)) (All-map IsSoundLine (line_ticked (a.now + 1)) a.wires (All-weaker IsSoundLine (λ l. IsSoundLine (line_ticked (a.now + 1) l)) (ticked_stays (a.now + 1)) a.wires s.lines)) (λ n l h. ticked_at a n l s alive h)

pub sound_ticks : (a : Air) (r : Result (Unit {0}) TickError) (a' : Air) → IsSound a → TicksOn a r a' → IsSound a'
sound_ticks a (Ok done) a' s g = subst IsSound (sym g.air) (ticked_sound a (below_end a g.refused) g.alive s)
sound_ticks a (Err Memory) a' s g = torn_stays a a' a.failed s g
sound_ticks a (Err ClockSpent) a' s g = subst IsSound (sym g.air) s
