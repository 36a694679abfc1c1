use Rattle.rina_tower.proofs.FitRank.{IsHighestTo}
use Rattle.rina_tower.proofs.build.highest.Given as goal

abbrev pub invariant-loop-dif : goal.invariant-loop-dif
invariant-loop-dif l = IsHighestTo l.difs l.dif-index l.top
