use Rattle.std.proofs.Common.{◌∙◌}
use Rattle.rina_tower.specs.Rounds.{AllInSteps, links_upward}
use Rattle.rina_tower.proofs.Rounding.{follows_none, follows_on, runs_all, runs_next, runs_none}
use Rattle.rina_tower.proofs.tower.Tower.in_steps_everywhere.Goals as goal

pub loop-place-init : goal.loop-place-init
loop-place-init c = record {
  follows = follows_none c.args.self.now c.requires;
  does = λ slots. runs_none AllInSteps slots c.args.self.now;
}

pub returns-in_err-in_steps-clause-follows : goal.returns-in_err-in_steps-clause-follows
returns-in_err-in_steps-clause-follows c = follows_on c.args.self.now c.loop-place.self c.in_steps.new.self c.loop-place.invariant.follows c.in_steps.ensures.follows

pub loop-place-preserved : goal.loop-place-preserved
loop-place-preserved c = record {
  follows = follows_on c.args.self.now c.loop-place.self c.in_steps.new.self c.loop-place.invariant.follows c.in_steps.ensures.follows;
  does = λ slots. runs_next AllInSteps c.as_slice-place-items.result.now c.loop-place.place-index _ slots slots slots c.args.self.now c.loop-place.self c.in_steps.new.self c.loop-place-test.true (c.loop-place.invariant.does slots) (c.in_ok-in_steps.ensures.does slots);
}

pub returns-clause-does : goal.returns-clause-does
returns-clause-does c = λ slots. runs_all AllInSteps c.as_slice-place-items.result.now (links_upward c.args.self.now) c.loop-place.place-index slots slots c.args.self.now c.loop-place.self (c.as_slice-place-items.ensures ∙ c.in-Ok.ensures) c.loop-place-test.false (c.loop-place.invariant.does slots)
