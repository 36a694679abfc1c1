use Rattle.std.proofs.Common.{◌-◌, length}
use Rattle.rina_way.proofs.Walks.{Walked}
use Rattle.rina_way.proofs.walk.way.Given as goal

abbrev pub invariant-hops : goal.invariant-hops
invariant-hops g l = Walked (g.F.Facility.seen l.below) l.members l.processes l.dst l.from l.to l.hops l.at (length l.hops)

abbrev pub decreases-hops : goal.decreases-hops
decreases-hops g l = length l.members - length l.hops
