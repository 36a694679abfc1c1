use Rattle.std.proofs.Common.{◌≡◌, ◌≤◌, take, ◌==◌}
use Rattle.std.specs.Prelude.{count_by}
use Rattle.rina_plan.specs.declared.dif.DifPlan.{DifPlan}
use Rattle.rina_plan.proofs.numbers.count_of_rank.Given as goal

abbrev pub invariant-difs : goal.invariant-difs
invariant-difs l = record {
  counted : l.count ≡ count_by (λ (d : DifPlan). d.rank == l.rank) (take l.dif-index l.difs);
  most : l.count ≤ l.dif-index;
}
