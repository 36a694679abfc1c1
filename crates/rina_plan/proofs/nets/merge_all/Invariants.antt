use Rattle.std.proofs.Common.{◌≡◌, ◌≤◌, length, drop}
use Rattle.rina_plan.specs.Parts.{ArePartsOf}
use Rattle.rina_plan.proofs.nets.merge_all.Given as goal

abbrev pub invariant-loop-at : goal.invariant-loop-at
invariant-loop-at l = record {
  place : l.at ≤ length l.links;
  size : length l.nodes ≡ length l.parts;
  read : ArePartsOf (drop l.at l.links) l.nodes l.parts;
}

abbrev pub decreases-loop-at : goal.decreases-loop-at
decreases-loop-at l = l.at
