-- When wires only wait.
use Rattle.std.specs.Prelude.{◌≡◌, ℕ, ◌<◌, ◌≤◌, ◌^◌, false, List, [], slice_get, Some}
use Rattle.rina_wire.specs.declared.flight.Flight.{Flight}
use Rattle.rina_wire.specs.Air.{Air, Line, wire_at}

-- none of the copies arrives before this tick
abbrev pub AreQuietCopies : ℕ → List Flight → Type 0
AreQuietCopies until fs = (place : ℕ) (f : Flight) → slice_get fs place ≡ Some f → until ≤ f.due

-- no copy in flight on the wire arrives before this tick
abbrev pub IsQuietLine : ℕ → Line → Type 0
IsQuietLine until l = AreQuietCopies until l.flights

-- nothing arrives before this tick on any of the wires
abbrev pub AreQuietLines : ℕ → List Line → Type 0
AreQuietLines until ls = (fac : ℕ) (l : Line) → slice_get ls fac ≡ Some l → IsQuietLine until l

-- of the ticks that a number of 32 bits can be, no later one is so
abbrev pub IsLast : (ℕ → Type 0) → ℕ → Type 0
IsLast Is until = (later : ℕ) → later < 2 ^ 32 → Is later → later ≤ until

-- the wires can go on, and none of them has a copy in flight that arrives before this tick
pub record RestsUntil (until : ℕ) (a : Air) : Type 0 where
  pub alive : a.failed ≡ false
  pub quiet : (fac : ℕ) (l : Line) → wire_at a fac ≡ Some l → IsQuietLine until l

-- no far end waits at any of the wires to be claimed
abbrev pub NoneWaits : List Line → Type 0
NoneWaits ls = (fac : ℕ) (l : Line) → slice_get ls fac ≡ Some l → l.waiting ≡ []

-- the wires with another clock
abbrev pub at_tick : ℕ → Air → Air
at_tick now a = record a { now = now }
