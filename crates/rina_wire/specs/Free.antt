-- `free` on wires.
use Rattle.std.specs.Prelude.{◌≡◌, ℕ, List, [], slice_get, slice_set, Option, Some, None, Result, Ok, Err, if◌then◌else◌}
use Rattle.rina_base.specs.declared.number.Port.{Port}
use Rattle.rina_iface.specs.declared.ends.End.{End}
use Rattle.rina_iface.specs.declared.error.FreeError.{FreeError}
use Rattle.rina_iface.specs.declared.error.FreeError.TheVariants.{Memory, NoPort}
use Rattle.rina_iface.specs.declared.state.PortState.TheVariants.{Closed}
use Rattle.rina_iface.specs.Free.{refused_end}
use Rattle.rina_iface.specs.State.{with_state}
use Rattle.rina_wire.specs.Air.{Air, Line, Goes, end_at, failed_air, on_end}
use Rattle.rina_wire.specs.Allocate.{is_allocated}
use Rattle.rina_wire.specs.Send.{mate}

abbrev pub closed_in : List End → ℕ → Option End → List End
closed_in ends place None = ends
closed_in ends place (Some e) = slice_set ends place (with_state e Closed)

-- the ends with the one at this place closed, where it is there
abbrev pub closed_at : List End → ℕ → List End
closed_at ends place = closed_in ends place (slice_get ends place)

-- the ends with the flow of that one closed at both ends
abbrev pub closed_both : List End → ℕ → List End
closed_both ends place = closed_at (closed_at ends place) (mate place)

-- the wire after the end at this place was freed: a flow that was allocated is closed at both ends, and no copy is in flight
abbrev pub freed_at : Line → ℕ → End → Line
freed_at l place e = if is_allocated e.state then record l { ends = closed_both l.ends place; flights = [] } else l

-- what must be refused
abbrev pub free_refusal : Air → Port → Option FreeError
free_refusal a port = refused_end (end_at a port)

-- what `free` does
abbrev pub FreesOn : Air → Port → Result (Unit {0}) FreeError → Air → Type 0
FreesOn a port (Ok done) a' = Goes a (free_refusal a port) None (on_end a port freed_at) a'
FreesOn a port (Err Memory) a' = a' ≡ failed_air a
FreesOn a port (Err NoPort) a' = Goes a (free_refusal a port) (Some NoPort) a a'
