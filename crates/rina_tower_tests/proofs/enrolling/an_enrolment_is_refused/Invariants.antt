use Rattle.rina_tower.specs.Stands.{IsTower}
use Rattle.rina_tower_tests.proofs.enrolling.an_enrolment_is_refused.Given as goal

-- the tower stands
abbrev pub invariant-loop-r : goal.invariant-loop-r
invariant-loop-r g l = IsTower l.tower
