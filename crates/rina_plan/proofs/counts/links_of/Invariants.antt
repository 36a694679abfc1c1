use Rattle.std.proofs.Common.{◌≡◌, take}
use Rattle.rina_plan.specs.Counts.{links_of}
use Rattle.rina_plan.proofs.counts.links_of.Given as goal

abbrev pub invariant-difs : goal.invariant-difs
invariant-difs l = l.links.items ≡ links_of (take l.dif-index l.difs)
