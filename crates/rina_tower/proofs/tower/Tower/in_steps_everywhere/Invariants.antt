use Rattle.std.proofs.Common.{List, take}
use Rattle.rina_policy.specs.Slots.{Slot}
use Rattle.rina_tower.specs.Rounds.{Follows, InTurn, Runs, AllInSteps}
use Rattle.rina_tower.proofs.tower.Tower.in_steps_everywhere.Given as goal

-- the first places had their turns
abbrev pub invariant-loop-place : goal.invariant-loop-place
invariant-loop-place l = record {
  follows : Follows l.fn.self l.self;
  does : (slots : List Slot) → Runs (InTurn AllInSteps (take l.place-index l.place-items)) slots l.fn.self slots l.self;
}
