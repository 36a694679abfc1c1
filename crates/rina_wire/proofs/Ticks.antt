-- One tick of a wire, copy by copy.
use Rattle.std.proofs.Common.{add-one, suc, zero, length, map, take, drop, get_or, slice_set, ◌≡◌, ℕ, ◌+◌, ◌<◌, List, [], ◌∷◌, ◌++◌, nat_lt, refl, sym, ap, arith}
use Rattle.std.proofs.lemmas.Grind.{common_steps}
use Rattle.std.proofs.lemmas.List.{take_all}
use Rattle.std.proofs.lemmas.List.Sums.{fold-append}
use Rattle.std.proofs.lemmas.List.Elements.{filter-append}
use Rattle.rina_wire.specs.declared.flight.Flight.{Flight}
use Rattle.rina_wire.specs.Air.{Line}
use Rattle.rina_wire.specs.Tick.{AllPart, IsPart, line_ticked, looked, looked_at}

-- one more copy was looked at
pub looked_more : (now : ℕ) (l : Line) (fs : List Flight) (f : Flight) → line_ticked now (record l { flights = fs ++ f ∷ [] }) ≡ looked now (line_ticked now (record l { flights = fs })) f
looked_more now l fs f = rw (fold-append (looked_at now) l.ends fs (f ∷ []), filter-append (λ (g : Flight). nat_lt now g.due) fs (f ∷ [])) (grind (arith, common_steps))

-- the first wires are a tick later
abbrev pub so_far : ℕ → ℕ → List Line → List Line
so_far now i ws = map (line_ticked now) (take i ws) ++ drop i ws

-- one more wire ticked
pub ticks_more : (now i : ℕ) (ws : List Line) (w : Line) → i < length ws → get_or (so_far now i ws) i w ≡ w → slice_set (so_far now i ws) i (line_ticked now w) ≡ so_far now (suc i) ws
ticks_more now i [] w lt e = absurd (omega (arith, lt))
ticks_more now zero (x ∷ ws) w lt e = ap (λ y. line_ticked now y ∷ ws) (sym e)
ticks_more now (suc i) (x ∷ ws) w lt e = ap (λ ys. line_ticked now x ∷ ys) (ticks_more now i ws w (omega (arith, lt)) e)

-- a wire that ticked was looked at whole
pub whole : (now : ℕ) (l : Line) → IsPart now l (line_ticked now l)
whole now l = record { count = length l.flights; is = rw (take_all (length l.flights) l.flights (omega arith)) refl }

-- a wire that was not reached
untouched : (now : ℕ) (ws : List Line) → AllPart now ws ws
untouched now [] = tt
untouched now (w ∷ ws) = (record { count = 0; is = refl }, untouched now ws)

-- memory ran out on a wire
pub torn_at : (now i : ℕ) (ws : List Line) (w w' : Line) → i < length ws → get_or (so_far now i ws) i w ≡ w → IsPart now w w' → AllPart now ws (slice_set (so_far now i ws) i w')
torn_at now i [] w w' lt e p = absurd (omega (arith, lt))
torn_at now zero (x ∷ ws) w w' lt e p = (rw e p, untouched now ws)
torn_at now (suc i) (x ∷ ws) w w' lt e p = (whole now x, torn_at now i ws w w' (omega (arith, lt)) e p)

pub ticks_on : (now i : ℕ) (ws vs : List Line) (w w' : Line) → i < length ws → vs ≡ so_far now i ws → w ≡ get_or vs i w → w' ≡ line_ticked now w → slice_set vs i w' ≡ so_far now (i + 1) ws
ticks_on now i ws vs w w' lt v e t = rw (t, v, add-one) (ticks_more now i ws w lt (sym (rw v at e)))

pub tears : (now i : ℕ) (ws vs : List Line) (w w' : Line) → i < length ws → vs ≡ so_far now i ws → w ≡ get_or vs i w → IsPart now w w' → AllPart now ws (slice_set vs i w')
tears now i ws vs w w' lt v e p = rw v (torn_at now i ws w w' lt (sym (rw v at e)) p)
