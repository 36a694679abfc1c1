use Rattle.std.proofs.Common.{◌∙◌, refl}
use Rattle.rina_tower.specs.Rounds.{AllOutSteps, links_downward}
use Rattle.rina_tower.proofs.Rounding.{follows_none, follows_on, runs_all, runs_next, runs_none}
use Rattle.rina_tower.proofs.tower.Tower.out_steps_everywhere.Goals as goal

pub loop-place-init : goal.loop-place-init
loop-place-init g c = record {
  follows = follows_none c.args.self.now c.requires;
  names = refl;
  does = runs_none AllOutSteps (g.S.Picks.slots c.args.shelf.now) c.args.self.now;
}

pub returns-in_err-out_steps-clause-follows : goal.returns-in_err-out_steps-clause-follows
returns-in_err-out_steps-clause-follows g c = follows_on c.args.self.now c.loop-place.self c.out_steps.new.self c.loop-place.invariant.follows c.out_steps.ensures.follows

pub loop-place-preserved : goal.loop-place-preserved
loop-place-preserved g c = record {
  follows = follows_on c.args.self.now c.loop-place.self c.out_steps.new.self c.loop-place.invariant.follows c.out_steps.ensures.follows;
  names = c.out_steps.ensures.names ∙ c.loop-place.invariant.names;
  does = runs_next AllOutSteps c.as_slice-place-items.result.now c.loop-place.place-index _ (g.S.Picks.slots c.args.shelf.now) (g.S.Picks.slots c.loop-place.shelf) (g.S.Picks.slots c.out_steps.new.shelf) c.args.self.now c.loop-place.self c.out_steps.new.self c.loop-place-test.true c.loop-place.invariant.does c.in_ok-out_steps.ensures.does;
}

pub returns-clause-does : goal.returns-clause-does
returns-clause-does g c = runs_all AllOutSteps c.as_slice-place-items.result.now (links_downward c.args.self.now) c.loop-place.place-index (g.S.Picks.slots c.args.shelf.now) (g.S.Picks.slots c.loop-place.shelf) c.args.self.now c.loop-place.self (c.as_slice-place-items.ensures ∙ c.in-Ok.ensures) c.loop-place-test.false c.loop-place.invariant.does
