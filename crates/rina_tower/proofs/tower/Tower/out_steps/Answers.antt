use Rattle.std.proofs.Common.{◌∙◌, ap, not, refl}
use Rattle.rina_tower.specs.Rounds.{OutMove, has_left, leaves_no_more}
use Rattle.rina_tower.proofs.Failed.{on_err}
use Rattle.rina_tower.proofs.Answering.{any_place}
use Rattle.rina_tower.proofs.Rounding.{follows_none, follows_on, follows_step, going_ends, going_more, going_none}
use Rattle.rina_tower.proofs.tower.Tower.out_steps.Goals as goal

pub steps-init : goal.steps-init
steps-init g c = record {
  follows = follows_none c.args.self.now c.requires;
  names = refl;
  going = going_none has_left (OutMove c.args.place) (g.S.Picks.slots c.args.shelf.now) c.args.self.now;
}

pub returns-in_err-has_left-clause-follows : goal.returns-in_err-has_left-clause-follows
returns-in_err-has_left-clause-follows g c =
    let k = c.out_step_at_rank-answer.ensures in
    follows_step c.args.self.now c.steps.self c.out_step_at_rank-answer.new.self c.steps.invariant.follows k.valid k.quiet k.height

pub returns-then-not-branch-clause-follows : goal.returns-then-not-branch-clause-follows
returns-then-not-branch-clause-follows g c =
    let k = c.out_step_at_rank-answer.ensures in
    follows_step c.args.self.now c.steps.self c.out_step_at_rank-answer.new.self c.steps.invariant.follows k.valid k.quiet k.height

pub returns-then-not-branch-clause-does : goal.returns-then-not-branch-clause-does
returns-then-not-branch-clause-does g c =
    going_ends has_left leaves_no_more (OutMove c.args.place) c.out_step_at_rank-answer.result (g.S.Picks.slots c.args.shelf.now) (g.S.Picks.slots c.steps.shelf) (g.S.Picks.slots c.out_step_at_rank-answer.new.shelf) c.args.self.now c.steps.self c.out_step_at_rank-answer.new.self c.steps.invariant.going (any_place (g.S.Picks.may_answer c.steps.shelf) (g.S.Picks.slots c.steps.shelf) (g.S.Picks.slots c.out_step_at_rank-answer.new.shelf) c.args.place.rank c.args.place.dif c.args.place.node c.args.place.link c.out_step_at_rank-answer.result c.steps.self c.out_step_at_rank-answer.new.self c.out_step_at_rank-answer.ensures.does) (c.in_ok-has_left.ensures.tells.1 ∙ ap not c.if-not-branch.true)

pub steps-preserved : goal.steps-preserved
steps-preserved g c =
    let k = c.out_step_at_rank-answer.ensures in
    record {
      follows = follows_step c.args.self.now c.steps.self c.out_step_at_rank-answer.new.self c.steps.invariant.follows k.valid k.quiet k.height;
      names = k.names ∙ c.steps.invariant.names;
      going = going_more has_left (OutMove c.args.place) c.out_step_at_rank-answer.result (g.S.Picks.slots c.args.shelf.now) (g.S.Picks.slots c.steps.shelf) (g.S.Picks.slots c.out_step_at_rank-answer.new.shelf) c.args.self.now c.steps.self c.out_step_at_rank-answer.new.self c.steps.invariant.going (any_place (g.S.Picks.may_answer c.steps.shelf) (g.S.Picks.slots c.steps.shelf) (g.S.Picks.slots c.out_step_at_rank-answer.new.shelf) c.args.place.rank c.args.place.dif c.args.place.node c.args.place.link c.out_step_at_rank-answer.result c.steps.self c.out_step_at_rank-answer.new.self c.out_step_at_rank-answer.ensures.does) (c.in_ok-has_left.ensures.tells.0 ∙ c.if-not-branch.false);
    }

pub returns-in_err-has_left-clause-fails : goal.returns-in_err-has_left-clause-fails
returns-in_err-has_left-clause-fails g c = on_err c.from_residual.result _ (c.out_step_at_rank-answer.ensures.fails c.in_err-has_left.ensures.memory)

pub returns-clause-follows : goal.returns-clause-follows
returns-clause-follows g c = follows_on c.args.self.now c.steps.self c.remember_memory_failure.new.self c.steps.invariant.follows c.remember_memory_failure.ensures.follows
