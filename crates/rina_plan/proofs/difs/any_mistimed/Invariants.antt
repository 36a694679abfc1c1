use Rattle.std.proofs.Common.{◌≡◌, drop}
use Rattle.std.specs.List.{list_any}
use Rattle.rina_plan.specs.Difs.{is_mistimed}
use Rattle.rina_plan.proofs.difs.any_mistimed.Given as goal

abbrev pub invariant-cubes : goal.invariant-cubes
invariant-cubes l = list_any is_mistimed (drop l.cube-index l.cubes) ≡ list_any is_mistimed l.cubes
