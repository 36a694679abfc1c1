use Rattle.rina_tower.specs.Stands.{IsTower}
use Rattle.rina_tower_tests.proofs.ranks.rounds_carry_an_sdu_down_four_ranks_and_up_again.Given as goal

-- the tower stands
abbrev pub invariant-loop : goal.invariant-loop
invariant-loop g l = IsTower l.tower
