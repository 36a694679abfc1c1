use Rattle.rina_tower.specs.Stands.{IsTower}
use Rattle.rlemu_uses.proofs.carry.Given as goal

-- the tower stands
abbrev pub invariant-loop : goal.invariant-loop
invariant-loop g l = IsTower l.tower
