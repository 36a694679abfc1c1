use Rattle.rina_tower.specs.Stands.{IsTower}
use Rattle.rina_tower_tests.proofs.drawn_again.wait.Given as goal

-- the tower stands
abbrev pub invariant-loop : goal.invariant-loop
invariant-loop l = IsTower l.tower
