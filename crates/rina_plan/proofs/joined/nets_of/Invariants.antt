use Rattle.std.proofs.Common.{◌≡◌, take}
use Rattle.rina_plan.specs.Nets.{difs_of}
use Rattle.rina_plan.proofs.joined.nets_of.Given as goal

abbrev pub invariant-difs : goal.invariant-difs
invariant-difs l = difs_of l.nets.items ≡ take l.dif-index l.difs
