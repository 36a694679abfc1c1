-- So far each DIF of the rank is made.
use Rattle.rina_tower.specs.BuildSteps.{AreLaid}
use Rattle.rina_tower.proofs.build.make_rank.Given as goal

abbrev pub invariant-loop-place : goal.invariant-loop-place
invariant-loop-place l = AreLaid l.plan l.rank l.place l.fn.below l.difs l.below
