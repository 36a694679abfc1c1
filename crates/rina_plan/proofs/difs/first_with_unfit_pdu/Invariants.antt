use Rattle.std.proofs.Common.{◌≡◌, drop}
use Rattle.std.specs.List.{position_from}
use Rattle.rina_plan.specs.Difs.{has_unfit_pdu}
use Rattle.rina_plan.proofs.difs.first_with_unfit_pdu.Given as goal

abbrev pub invariant-difs : goal.invariant-difs
invariant-difs l = record {
  place : l.at ≡ l.dif-index;
  read : position_from has_unfit_pdu l.at (drop l.dif-index l.difs) ≡ position_from has_unfit_pdu 0 l.difs;
}
