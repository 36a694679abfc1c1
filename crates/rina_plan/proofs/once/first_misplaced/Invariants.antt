use Rattle.std.proofs.Common.{◌≡◌, drop}
use Rattle.std.specs.List.{position_from}
use Rattle.rina_plan.specs.Difs.{is_misplaced}
use Rattle.rina_plan.proofs.once.first_misplaced.Given as goal

abbrev pub invariant-difs : goal.invariant-difs
invariant-difs l = record {
  place : l.at ≡ l.dif-index;
  read : position_from is_misplaced l.at (drop l.dif-index l.difs) ≡ position_from is_misplaced 0 l.difs;
}
