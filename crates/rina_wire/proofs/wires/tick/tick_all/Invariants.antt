use Rattle.std.proofs.Common.{◌≡◌, ◌++◌, length, map, take, drop}
use Rattle.rina_wire.specs.Tick.{line_ticked}
use Rattle.rina_wire.proofs.wires.tick.tick_all.Given as goal

-- the wires so far are a tick later, and the others as they were
abbrev pub invariant-loop-at : goal.invariant-loop-at
invariant-loop-at l = record {
  wires : l.wires.items ≡ map (line_ticked l.clock) (take l.at l.fn.wires.items) ++ drop l.at l.fn.wires.items;
  size : length l.wires.items ≡ length l.fn.wires.items;
}
