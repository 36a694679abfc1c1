use Rattle.rina_tower.specs.Stands.{IsTower}
use Rattle.rina_tower_tests.proofs.applications.a_name_is_registered_at_the_wires.Given as goal

-- the tower stands
abbrev pub invariant-loop-r : goal.invariant-loop-r
invariant-loop-r g l = IsTower l.tower
