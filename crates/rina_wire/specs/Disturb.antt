-- `lose`, `repeat` and `hold` on wires: what an event does to the copies of a frame in flight.
use Rattle.std.specs.Prelude.{◌≡◌, ℕ, ◌+◌, ◌==◌, nat_le, List, [], ◌∷◌, ◌++◌, position, remove, slice_get, slice_set, Option, Some, None, Result, Ok, Err, option_and_then, if◌then◌else◌}
use Rattle.rina_wire.specs.declared.flight.Flight.{Flight}
use Rattle.rina_wire.specs.declared.event.WireError.{WireError}
use Rattle.rina_wire.specs.declared.event.WireError.TheVariants.{Memory, NoWire, NoFrame, EarlyHold, LateHold}
use Rattle.rina_wire.specs.Air.{Air, Line, Goes, failed_air, on_wire, wire_at}

-- where the first copy in flight of this frame stands
abbrev pub copy_place : ℕ → List Flight → Option ℕ
copy_place frame flights = position (λ (f : Flight). f.frame == frame) flights

-- the first copy in flight of this frame
abbrev pub first_copy : ℕ → List Flight → Option Flight
first_copy frame flights = option_and_then (λ i. slice_get flights i) (copy_place frame flights)

-- the copy as it arrives at this tick instead
abbrev pub due_at : ℕ → Flight → Flight
due_at at f = record f { due = at }

-- ---- what is refused

-- a copy can arrive at a tick that has not come, and within the life of its frame
abbrev pub at_refusal : ℕ → ℕ → ℕ → Flight → Option WireError
at_refusal now life at f = if nat_le at now then Some (EarlyHold now) else (if nat_le at (f.sent + life) then None else Some (LateHold (f.sent + life)))

-- what is refused of a frame, by its first copy in flight
abbrev pub copy_refusal : ℕ → (Flight → Option WireError) → Option Flight → Option WireError
copy_refusal frame own None = Some (NoFrame frame)
copy_refusal frame own (Some f) = own f

abbrev pub lose_refusal_on : ℕ → Option Line → Option WireError
lose_refusal_on frame None = Some NoWire
lose_refusal_on frame (Some l) = copy_refusal frame (λ f. None) (first_copy frame l.flights)

-- what `lose` must refuse
abbrev pub lose_refusal : Air → ℕ → ℕ → Option WireError
lose_refusal a wire frame = lose_refusal_on frame (wire_at a wire)

abbrev pub move_refusal_on : ℕ → ℕ → ℕ → Option Line → Option WireError
move_refusal_on now frame at None = Some NoWire
move_refusal_on now frame at (Some l) = copy_refusal frame (at_refusal now l.life at) (first_copy frame l.flights)

-- what `repeat` and `hold` must refuse
abbrev pub move_refusal : Air → ℕ → ℕ → ℕ → Option WireError
move_refusal a wire frame at = move_refusal_on a.now frame at (wire_at a wire)

-- ---- what is done

abbrev pub without_copy : Line → Option ℕ → Line
without_copy l None = l
without_copy l (Some place) = record l { flights = remove l.flights place }

-- the wire without the first copy of the frame
abbrev pub lost : ℕ → Line → Line
lost frame l = without_copy l (copy_place frame l.flights)

abbrev pub with_copy : ℕ → Line → Option Flight → Line
with_copy at l None = l
with_copy at l (Some f) = record l { flights = l.flights ++ due_at at f ∷ [] }

-- the wire with one more copy of the frame, which arrives at this tick
abbrev pub repeated : ℕ → ℕ → Line → Line
repeated frame at l = with_copy at l (first_copy frame l.flights)

abbrev pub moved_at : ℕ → Line → ℕ → Option Flight → Line
moved_at at l place None = l
moved_at at l place (Some f) = record l { flights = slice_set l.flights place (due_at at f) }

abbrev pub moved : ℕ → Line → Option ℕ → Line
moved at l None = l
moved at l (Some place) = moved_at at l place (slice_get l.flights place)

-- the wire with the first copy of the frame arriving at this tick instead, in its old turn
abbrev pub held : ℕ → ℕ → Line → Line
held frame at l = moved at l (copy_place frame l.flights)

-- ---- the calls

-- the call was refused, or the wires became these
pub record Comes {E : Type 0} (refusal told : Option E) (made a' : Air) : Type 0 where
  pub refused : refusal ≡ told
  pub air : a' ≡ made

-- what `lose` does; it allocates nothing
abbrev pub LosesOn : Air → ℕ → ℕ → Result (Unit {0}) WireError → Air → Type 0
LosesOn a wire frame (Ok done) a' = Comes (lose_refusal a wire frame) None (on_wire a wire (lost frame)) a'
LosesOn a wire frame (Err e) a' = Comes (lose_refusal a wire frame) (Some e) a a'

-- what `hold` does; it allocates nothing
abbrev pub HoldsOn : Air → ℕ → ℕ → ℕ → Result (Unit {0}) WireError → Air → Type 0
HoldsOn a wire frame at (Ok done) a' = Comes (move_refusal a wire frame at) None (on_wire a wire (held frame at)) a'
HoldsOn a wire frame at (Err e) a' = Comes (move_refusal a wire frame at) (Some e) a a'

-- what `repeat` does
abbrev pub RepeatsOn : Air → ℕ → ℕ → ℕ → Result (Unit {0}) WireError → Air → Type 0
RepeatsOn a wire frame at (Ok done) a' = Goes a (move_refusal a wire frame at) None (on_wire a wire (repeated frame at)) a'
RepeatsOn a wire frame at (Err Memory) a' = a' ≡ failed_air a
RepeatsOn a wire frame at (Err e) a' = Goes a (move_refusal a wire frame at) (Some e) a a'
