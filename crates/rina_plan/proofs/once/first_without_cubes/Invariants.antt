use Rattle.std.proofs.Common.{◌≡◌, drop}
use Rattle.std.specs.List.{position_from}
use Rattle.rina_plan.specs.Difs.{lacks_cubes}
use Rattle.rina_plan.proofs.once.first_without_cubes.Given as goal

abbrev pub invariant-difs : goal.invariant-difs
invariant-difs l = record {
  place : l.at ≡ l.dif-index;
  read : position_from lacks_cubes l.at (drop l.dif-index l.difs) ≡ position_from lacks_cubes 0 l.difs;
}
