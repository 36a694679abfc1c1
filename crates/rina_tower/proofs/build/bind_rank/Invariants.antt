-- So far the flows of each DIF of the rank are bound.
use Rattle.rina_tower.specs.BuildSteps.{HasBound, flows_before}
use Rattle.rina_tower.proofs.build.bind_rank.Given as goal

abbrev pub invariant-loop-place : goal.invariant-loop-place
invariant-loop-place l = HasBound l.fn.tower (flows_before l.plan l.rank l.place) l.tower
