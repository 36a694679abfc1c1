-- So far each rank is made.
use Rattle.rina_tower.specs.BuildSteps.{IsRaised}
use Rattle.rina_tower.proofs.tower.Tower.build.Given as goal

abbrev pub invariant-loop-rank : goal.invariant-loop-rank
invariant-loop-rank l = IsRaised l.plan l.rank l.tower
