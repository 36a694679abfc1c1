use Rattle.std.proofs.Common.{◌≡◌, drop}
use Rattle.std.specs.List.{position_from}
use Rattle.rina_plan.specs.Links.{has_unfit_link}
use Rattle.rina_plan.proofs.links.first_with_unfit_link.Given as goal

abbrev pub invariant-difs : goal.invariant-difs
invariant-difs l = record {
  place : l.at ≡ l.dif-index;
  read : position_from (has_unfit_link l.wires l.difs) l.at (drop l.dif-index l.difs) ≡ position_from (has_unfit_link l.wires l.difs) 0 l.difs;
}
