use Rattle.std.proofs.Common.{◌≡◌, drop}
use Rattle.rina_plan.specs.Counts.{full_from}
use Rattle.rina_plan.proofs.counts.first_of.Given as goal

abbrev pub invariant-difs : goal.invariant-difs
invariant-difs l = record {
  place : l.at ≡ l.dif-index;
  read : full_from l.links l.at (drop l.dif-index l.difs) ≡ full_from l.links 0 l.difs;
}
