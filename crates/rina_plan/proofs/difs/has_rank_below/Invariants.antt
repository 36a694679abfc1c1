use Rattle.std.proofs.Common.{◌≡◌, drop, ◌==◌, ◌+◌}
use Rattle.std.specs.List.{list_any}
use Rattle.rina_plan.specs.declared.dif.DifPlan.{DifPlan}
use Rattle.rina_plan.proofs.difs.has_rank_below.Given as goal

abbrev pub invariant-difs : goal.invariant-difs
invariant-difs l = list_any (λ (e : DifPlan). e.rank + 1 == l.rank) (drop l.dif-index l.difs) ≡ list_any (λ (e : DifPlan). e.rank + 1 == l.rank) l.difs
