use Rattle.std.proofs.Common.{List}
use Rattle.rina_policy.specs.Slots.{Slot}
use Rattle.rina_tower.specs.Rounds.{ClockMove, Follows, was_due}
use Rattle.rina_tower.proofs.Rounding.{IsGoing}
use Rattle.rina_tower.proofs.tower.Tower.clock_steps.Given as goal

-- each step so far did something
abbrev pub invariant-steps : goal.invariant-steps
invariant-steps l = record {
  follows : Follows l.fn.self l.self;
  going : (slots : List Slot) → IsGoing was_due (ClockMove l.place) slots l.fn.self slots l.self;
}
