use Rattle.std.proofs.Common.{◌∙◌, ap, not, refl}
use Rattle.rina_tower.specs.Rounds.{ClockMove, was_due, none_due}
use Rattle.rina_tower.proofs.Failed.{on_err}
use Rattle.rina_tower.proofs.Rounding.{follows_none, follows_on, follows_step, going_ends, going_more, going_none}
use Rattle.rina_tower.proofs.tower.Tower.clock_steps.Goals as goal

pub steps-init : goal.steps-init
steps-init c = record {
  follows = follows_none c.args.self.now c.requires;
  going = λ slots. going_none was_due (ClockMove c.args.place) slots c.args.self.now;
}

pub returns-in_err-was_due-clause-follows : goal.returns-in_err-was_due-clause-follows
returns-in_err-was_due-clause-follows c =
    let k = c.clock_step_at_rank-answer.ensures in
    follows_step c.args.self.now c.steps.self c.clock_step_at_rank-answer.new.self c.steps.invariant.follows k.valid k.quiet k.height

pub returns-then-not-branch-clause-follows : goal.returns-then-not-branch-clause-follows
returns-then-not-branch-clause-follows c =
    let k = c.clock_step_at_rank-answer.ensures in
    follows_step c.args.self.now c.steps.self c.clock_step_at_rank-answer.new.self c.steps.invariant.follows k.valid k.quiet k.height

pub returns-then-not-branch-clause-does : goal.returns-then-not-branch-clause-does
returns-then-not-branch-clause-does c = λ slots.
    going_ends was_due none_due (ClockMove c.args.place) c.clock_step_at_rank-answer.result slots slots slots c.args.self.now c.steps.self c.clock_step_at_rank-answer.new.self (c.steps.invariant.going slots) (refl, c.clock_step_at_rank-answer.ensures.does) (c.in_ok-was_due.ensures.tells.1 ∙ ap not c.if-not-branch.true)

pub steps-preserved : goal.steps-preserved
steps-preserved c =
    let k = c.clock_step_at_rank-answer.ensures in
    record {
      follows = follows_step c.args.self.now c.steps.self c.clock_step_at_rank-answer.new.self c.steps.invariant.follows k.valid k.quiet k.height;
      going = λ slots. going_more was_due (ClockMove c.args.place) c.clock_step_at_rank-answer.result slots slots slots c.args.self.now c.steps.self c.clock_step_at_rank-answer.new.self (c.steps.invariant.going slots) (refl, k.does) (c.in_ok-was_due.ensures.tells.0 ∙ c.if-not-branch.false);
    }

pub returns-in_err-was_due-clause-fails : goal.returns-in_err-was_due-clause-fails
returns-in_err-was_due-clause-fails c = on_err c.from_residual.result _ (c.clock_step_at_rank-answer.ensures.fails c.in_err-was_due.ensures.memory)

pub returns-clause-follows : goal.returns-clause-follows
returns-clause-follows c = follows_on c.args.self.now c.steps.self c.remember_memory_failure.new.self c.steps.invariant.follows c.remember_memory_failure.ensures.follows
