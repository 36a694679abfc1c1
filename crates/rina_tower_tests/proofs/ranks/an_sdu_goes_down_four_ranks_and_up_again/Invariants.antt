use Rattle.rina_tower.specs.Stands.{IsTower}
use Rattle.rina_tower_tests.proofs.ranks.an_sdu_goes_down_four_ranks_and_up_again.Given as goal

-- the tower stands
abbrev pub invariant-loop-step : goal.invariant-loop-step
invariant-loop-step g l = IsTower l.tower
