use Rattle.std.proofs.Common.{◌≡◌, ◌++◌, map, take, drop}
use Rattle.rina_plan.specs.Parts.{merged}
use Rattle.rina_plan.proofs.nets.merge.Given as goal

abbrev pub invariant-loop-part : goal.invariant-loop-part
invariant-loop-part l = l.parts ≡ map (merged l.from l.to) (take l.part-index l.initial.parts) ++ drop l.part-index l.initial.parts
