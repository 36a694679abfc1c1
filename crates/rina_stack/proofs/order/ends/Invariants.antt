use Rattle.std.proofs.Common.{◌≡◌, map, take}
use Rattle.rina_stack.specs.Order.{ends_of}
use Rattle.rina_stack.proofs.order.ends.Given as goal

abbrev pub invariant-wires : goal.invariant-wires
invariant-wires l = l.ends.items ≡ map ends_of (take l.wire-index l.wires)
