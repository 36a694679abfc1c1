use Rattle.rina_tower.specs.Stands.{IsTower}
use Rattle.rina_tower_tests.proofs.publishing.an_ipc_process_is_published_at_the_rank_below.Given as goal

-- the tower stands
abbrev pub invariant-loop-r : goal.invariant-loop-r
invariant-loop-r g l = IsTower l.tower

-- and so does each that is taken of it
abbrev pub invariant-loop-name : goal.invariant-loop-name
invariant-loop-name g l = IsTower l.tower
