use Rattle.std.proofs.Common.{◌≡◌, drop}
use Rattle.std.specs.List.{position_from}
use Rattle.rina_plan.specs.Difs.{has_oversized}
use Rattle.rina_plan.proofs.difs.first_oversized.Given as goal

abbrev pub invariant-difs : goal.invariant-difs
invariant-difs l = record {
  place : l.at ≡ l.dif-index;
  read : position_from has_oversized l.at (drop l.dif-index l.difs) ≡ position_from has_oversized 0 l.difs;
}
