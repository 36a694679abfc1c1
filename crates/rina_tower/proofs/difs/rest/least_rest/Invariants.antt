use Rattle.rina_tower.proofs.Rested.{RestSoFar}
use Rattle.rina_tower.proofs.difs.rest.least_rest.Given as goal

abbrev pub invariant-loop-at : goal.invariant-loop-at
invariant-loop-at g l = RestSoFar l.until l.difs (g.F.Facility.seen l.below) l.at
