use Rattle.std.proofs.Common.{◌≡◌, map, take}
use Rattle.rina_wire.specs.Plan.{line_of}
use Rattle.rina_wire.proofs.wires.lay.Given as goal

-- the wires so far
abbrev pub invariant-loop-plan : goal.invariant-loop-plan
invariant-loop-plan l = l.wires.items ≡ map line_of (take l.plan-index l.plans)
