use Rattle.std.proofs.Common.{◌≡◌, map, take}
use Rattle.rina_stack.specs.Stack.{narrow}
use Rattle.rina_stack.proofs.read.narrowed.Given as goal

abbrev pub invariant-wires : goal.invariant-wires
invariant-wires l = l.plans ≡ map narrow (take l.wire-index l.wires)
