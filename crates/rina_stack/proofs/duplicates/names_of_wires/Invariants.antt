use Rattle.std.proofs.Common.{◌≡◌, map, take}
use Rattle.rina_stack.specs.Rules.{wire_names}
use Rattle.rina_stack.proofs.duplicates.names_of_wires.Given as goal

abbrev pub invariant-wires : goal.invariant-wires
invariant-wires l = map (λ t. t.now) l.names.items ≡ wire_names (take l.wire-index l.wires)
