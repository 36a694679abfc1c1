use Rattle.std.proofs.Common.{List}
use Rattle.rina_policy.specs.Slots.{Slot}
use Rattle.rina_tower.specs.Rounds.{Follows, InMove, has_taken}
use Rattle.rina_tower.proofs.Rounding.{IsGoing}
use Rattle.rina_tower.proofs.tower.Tower.in_steps.Given as goal

-- each step so far took something
abbrev pub invariant-steps : goal.invariant-steps
invariant-steps l = record {
  follows : Follows l.fn.self l.self;
  going : (slots : List Slot) → IsGoing has_taken (InMove l.place) slots l.fn.self slots l.self;
}
