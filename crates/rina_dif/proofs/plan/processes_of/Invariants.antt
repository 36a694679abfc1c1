use Rattle.std.proofs.Common.{◌≡◌, ◌≤◌, ◌*◌, flat_map, length, take}
use Rattle.rina_plan.specs.declared.dif.DifPlan.{DifPlan}
use Rattle.rina_dif.proofs.plan.processes_of.Given as goal

abbrev pub invariant-loop-dif : goal.invariant-loop-dif
invariant-loop-dif l = record {
  count : l.count ≡ length (flat_map (λ (d : DifPlan). d.members) (take l.dif-index l.difs));
  most : l.count ≤ 64 * l.dif-index;
}
