use Rattle.std.proofs.Common.{◌≡◌, drop}
use Rattle.std.specs.List.{position_from}
use Rattle.rina_plan.specs.Difs.{has_mistimed}
use Rattle.rina_plan.proofs.difs.first_mistimed.Given as goal

abbrev pub invariant-difs : goal.invariant-difs
invariant-difs l = record {
  place : l.at ≡ l.dif-index;
  read : position_from has_mistimed l.at (drop l.dif-index l.difs) ≡ position_from has_mistimed 0 l.difs;
}
