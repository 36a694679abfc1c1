use Rattle.rina_tower.specs.Stands.{IsTower}
use Rattle.rina_tower_tests.proofs.applications.an_sdu_sent_at_0_is_read_at_2.Given as goal

-- the tower stands
abbrev pub invariant-loop-now : goal.invariant-loop-now
invariant-loop-now g l = IsTower l.tower
