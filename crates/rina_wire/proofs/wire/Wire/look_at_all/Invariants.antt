use Rattle.std.proofs.Common.{◌≡◌, ◌++◌}
use Rattle.rina_wire.specs.Tick.{line_ticked}
use Rattle.rina_wire.proofs.wire.Wire.look_at_all.Given as goal

-- the copies so far were looked at, and the others are left
abbrev pub invariant-loop-flight : goal.invariant-loop-flight
invariant-loop-flight l = record {
  line : l.self ≡ line_ticked l.clock (record l.fn.self { flights = l.yielded });
  all : l.yielded ++ l.flight-iterator.rest.items ≡ l.fn.flights.items;
}
