use Rattle.std.proofs.Common.{◌≡◌, map, take}
use Rattle.rina_policy.specs.Slots.{Slot}
use Rattle.rina_tower.specs.Rounds.{Follows, InTurn, Runs, AllOutSteps}
use Rattle.rina_tower.proofs.tower.Tower.out_steps_everywhere.Given as goal

-- the first places had their turns
abbrev pub invariant-loop-place : goal.invariant-loop-place
invariant-loop-place g l = record {
  follows : Follows l.fn.self l.self;
  names : map (λ (x : Slot). x.name) (g.S.Picks.slots l.shelf) ≡ map (λ (x : Slot). x.name) (g.S.Picks.slots l.fn.shelf);
  does : Runs (InTurn AllOutSteps (take l.place-index l.place-items)) (g.S.Picks.slots l.fn.shelf) l.fn.self (g.S.Picks.slots l.shelf) l.self;
}
