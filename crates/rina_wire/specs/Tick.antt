-- One tick of wires.
use Rattle.std.specs.Prelude.{◌≡◌, ℕ, ◌+◌, nat_le, nat_lt, List, [], ◌∷◌, ◌++◌, filter, fold, map, take, slice_get, slice_set, Bool, true, false, Option, Some, None, Result, Ok, Err, if◌then◌else◌}
use Rattle.rina_law.specs.declared.entry.Entry.{Entry}
use Rattle.rina_iface.specs.declared.ends.End.{End}
use Rattle.rina_iface.specs.Ends.{with_got}
use Rattle.rina_wire.specs.declared.flight.Flight.{Flight}
use Rattle.rina_wire.specs.declared.tick.TickError.{TickError}
use Rattle.rina_wire.specs.declared.tick.TickError.TheVariants.{Memory, ClockSpent}
use Rattle.rina_wire.specs.Air.{Air, Line, Goes}
use Rattle.rina_wire.specs.Allocate.{is_allocated}
use Rattle.rina_wire.specs.Send.{frame_number}

-- the entry that a copy becomes where it arrives
abbrev pub arrival : ℕ → Flight → Entry
arrival now f = record { tick = now; num = frame_number f.frame; bytes = f.bytes }

abbrev pub arrived_at : ℕ → Flight → List End → Option End → List End
arrived_at now f ends None = ends
arrived_at now f ends (Some e) = if is_allocated e.state then slice_set ends f.to (with_got e (arrival now f)) else ends

-- the ends after a copy was looked at: where it is due it arrives, at an end that is allocated
abbrev pub looked_at : ℕ → List End → Flight → List End
looked_at now ends f = if nat_le f.due now then arrived_at now f ends (slice_get ends f.to) else ends

-- the wire after a copy arrived
abbrev pub arrived : ℕ → Line → Flight → Line
arrived now l f = record l { ends = arrived_at now f l.ends (slice_get l.ends f.to) }

-- the wire after a copy was looked at: it arrives where it is due, and else stays in flight
abbrev pub looked : ℕ → Line → Flight → Line
looked now l f = if nat_le f.due now then arrived now l f else record l { flights = l.flights ++ f ∷ [] }

-- the wire after the copies that are due by now have arrived, in the order in which they were made
abbrev pub line_ticked : ℕ → Line → Line
line_ticked now l = record l { ends = fold (looked_at now) l.ends l.flights; flights = filter (λ (f : Flight). nat_lt now f.due) l.flights }

-- the wires one tick later
abbrev pub ticked : Air → Air
ticked a = record a { now = a.now + 1; wires = map (line_ticked (a.now + 1)) a.wires }

abbrev pub tick_refusal : Air → Option TickError
tick_refusal a = if nat_le 10000000 a.now then Some ClockSpent else None

-- only the first copies were looked at
pub record IsPart (now : ℕ) (l l' : Line) : Type 0 where
  pub count : ℕ
  pub is : l' ≡ record l { ends = fold (looked_at now) l.ends (take count l.flights); flights = l'.flights }

-- on each wire only the first copies were looked at
abbrev pub AllPart : ℕ → List Line → List Line → Type 0
AllPart now [] [] = Unit {0}
AllPart now (l ∷ ls) (l' ∷ ls') = IsPart now l l' × AllPart now ls ls'
AllPart now ls ls' = ⊥

-- memory ran out within the tick; which copies are in flight then is not said, since none will arrive
pub record IsTorn (a a' : Air) : Type 0 where
  pub alive : a.failed ≡ false
  pub refused : tick_refusal a ≡ None
  pub clock : a'.now ≡ a.now + 1
  pub failed : a'.failed ≡ true
  pub wires : AllPart (a.now + 1) a.wires a'.wires

-- an allocation had failed before, or fails now
abbrev pub TornBy : Bool → Air → Air → Type 0
TornBy true a a' = a' ≡ a
TornBy false a a' = IsTorn a a'

-- what `tick` does
abbrev pub TicksOn : Air → Result (Unit {0}) TickError → Air → Type 0
TicksOn a (Ok done) a' = Goes a (tick_refusal a) None (ticked a) a'
TicksOn a (Err Memory) a' = TornBy a.failed a a'
TicksOn a (Err ClockSpent) a' = Goes a (tick_refusal a) (Some ClockSpent) a a'
