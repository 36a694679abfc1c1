-- `cut` and `mend` on wires.
use Rattle.std.specs.Prelude.{ℕ, true, false, [], map, Option, Some, None, Result, Ok, Err, if◌then◌else◌}
use Rattle.rina_iface.specs.State.{cut_off}
use Rattle.rina_wire.specs.declared.event.WireError.{WireError}
use Rattle.rina_wire.specs.declared.event.WireError.TheVariants.{NoWire}
use Rattle.rina_wire.specs.Air.{Air, Line, on_wire, wire_at}
use Rattle.rina_wire.specs.Disturb.{Comes}

-- the wire after it was cut at this tick: no copy is in flight, and the flow that was allocated has failed at both ends; a wire that is cut stays as it is
abbrev pub cut_line : ℕ → Line → Line
cut_line now l = if l.cut then l else record l { ends = map (cut_off now) l.ends; flights = []; cut = true }

-- the wire after it was mended: it may be asked for again
abbrev pub mended : Line → Line
mended l = record l { cut = false }

abbrev pub wire_refusal_on : Option Line → Option WireError
wire_refusal_on None = Some NoWire
wire_refusal_on (Some l) = None

-- what `cut` and `mend` must refuse
abbrev pub wire_refusal : Air → ℕ → Option WireError
wire_refusal a wire = wire_refusal_on (wire_at a wire)

-- what `cut` does; it allocates nothing
abbrev pub CutsOn : Air → ℕ → Result (Unit {0}) WireError → Air → Type 0
CutsOn a wire (Ok done) a' = Comes (wire_refusal a wire) None (on_wire a wire (cut_line a.now)) a'
CutsOn a wire (Err e) a' = Comes (wire_refusal a wire) (Some e) a a'

-- what `mend` does; it allocates nothing
abbrev pub MendsOn : Air → ℕ → Result (Unit {0}) WireError → Air → Type 0
MendsOn a wire (Ok done) a' = Comes (wire_refusal a wire) None (on_wire a wire mended) a'
MendsOn a wire (Err e) a' = Comes (wire_refusal a wire) (Some e) a a'
