use Rattle.std.proofs.Common.{◌∙◌, ap, not, refl}
use Rattle.rina_tower.specs.Rounds.{InMove, has_taken, takes_no_more}
use Rattle.rina_tower.proofs.Failed.{on_err}
use Rattle.rina_tower.proofs.Rounding.{follows_none, follows_on, follows_step, going_ends, going_more, going_none}
use Rattle.rina_tower.proofs.tower.Tower.in_steps.Goals as goal

pub steps-init : goal.steps-init
steps-init c = record {
  follows = follows_none c.args.self.now c.requires;
  going = λ slots. going_none has_taken (InMove c.args.place) slots c.args.self.now;
}

pub returns-in_err-has_taken-clause-follows : goal.returns-in_err-has_taken-clause-follows
returns-in_err-has_taken-clause-follows c =
    let k = c.in_step_at_rank-answer.ensures in
    follows_step c.args.self.now c.steps.self c.in_step_at_rank-answer.new.self c.steps.invariant.follows k.valid k.quiet k.height

pub returns-then-not-branch-clause-follows : goal.returns-then-not-branch-clause-follows
returns-then-not-branch-clause-follows c =
    let k = c.in_step_at_rank-answer.ensures in
    follows_step c.args.self.now c.steps.self c.in_step_at_rank-answer.new.self c.steps.invariant.follows k.valid k.quiet k.height

pub returns-then-not-branch-clause-does : goal.returns-then-not-branch-clause-does
returns-then-not-branch-clause-does c = λ slots.
    going_ends has_taken takes_no_more (InMove c.args.place) c.in_step_at_rank-answer.result slots slots slots c.args.self.now c.steps.self c.in_step_at_rank-answer.new.self (c.steps.invariant.going slots) (refl, c.in_step_at_rank-answer.ensures.does) (c.in_ok-has_taken.ensures.tells.1 ∙ ap not c.if-not-branch.true)

pub steps-preserved : goal.steps-preserved
steps-preserved c =
    let k = c.in_step_at_rank-answer.ensures in
    record {
      follows = follows_step c.args.self.now c.steps.self c.in_step_at_rank-answer.new.self c.steps.invariant.follows k.valid k.quiet k.height;
      going = λ slots. going_more has_taken (InMove c.args.place) c.in_step_at_rank-answer.result slots slots slots c.args.self.now c.steps.self c.in_step_at_rank-answer.new.self (c.steps.invariant.going slots) (refl, k.does) (c.in_ok-has_taken.ensures.tells.0 ∙ c.if-not-branch.false);
    }

pub returns-in_err-has_taken-clause-fails : goal.returns-in_err-has_taken-clause-fails
returns-in_err-has_taken-clause-fails c = on_err c.from_residual.result _ (c.in_step_at_rank-answer.ensures.fails c.in_err-has_taken.ensures.memory)

pub returns-clause-follows : goal.returns-clause-follows
returns-clause-follows c = follows_on c.args.self.now c.steps.self c.remember_memory_failure.new.self c.steps.invariant.follows c.remember_memory_failure.ensures.follows
