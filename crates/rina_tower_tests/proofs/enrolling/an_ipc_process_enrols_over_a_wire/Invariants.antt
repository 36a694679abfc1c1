use Rattle.rina_tower.specs.Stands.{IsTower}
use Rattle.rina_tower_tests.proofs.enrolling.an_ipc_process_enrols_over_a_wire.Given as goal

-- the tower stands
abbrev pub invariant-loop : goal.invariant-loop
invariant-loop g l = IsTower l.tower
