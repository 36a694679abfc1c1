use Rattle.std.proofs.Common.{◌≡◌, drop}
use Rattle.std.specs.List.{position_from}
use Rattle.rina_plan.specs.Difs.{lacks_lower}
use Rattle.rina_plan.proofs.difs.first_without_lower.Given as goal

abbrev pub invariant-difs : goal.invariant-difs
invariant-difs l = record {
  place : l.at ≡ l.dif-index;
  read : position_from (lacks_lower l.difs) l.at (drop l.dif-index l.difs) ≡ position_from (lacks_lower l.difs) 0 l.difs;
}
