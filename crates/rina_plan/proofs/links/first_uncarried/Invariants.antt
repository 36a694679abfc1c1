use Rattle.std.proofs.Common.{◌≡◌, drop}
use Rattle.std.specs.List.{position_from}
use Rattle.rina_plan.specs.Links.{is_uncarried}
use Rattle.rina_plan.proofs.links.first_uncarried.Given as goal

abbrev pub invariant-difs : goal.invariant-difs
invariant-difs l = record {
  place : l.at ≡ l.dif-index;
  read : position_from (is_uncarried l.wires l.difs) l.at (drop l.dif-index l.difs) ≡ position_from (is_uncarried l.wires l.difs) 0 l.difs;
}
