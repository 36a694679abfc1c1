use Rattle.rina_tower.specs.Rounds.{InTurn, IsRound, AllOutSteps, Runs, links_downward}
use Rattle.rina_tower.specs.Bystanders.{Anyone}
use Rattle.rina_tower.proofs.Alone.{all_alone}
use Rattle.rina_tower.proofs.Rounding.{follows_on, on_ok, round_done}
use Rattle.rina_tower.proofs.tower.Tower.round.Goals as goal

pub returns-then-has_failed-clause-quiet : goal.returns-then-has_failed-clause-quiet
returns-then-has_failed-clause-quiet g c = all_alone Anyone _

pub returns-in_err-clock_steps_everywhere-clause-quiet : goal.returns-in_err-clock_steps_everywhere-clause-quiet
returns-in_err-clock_steps_everywhere-clause-quiet g c = (follows_on c.args.self.now c.in_steps_everywhere.new.self c.clock_steps_everywhere.new.self c.in_steps_everywhere.ensures.follows c.clock_steps_everywhere.ensures.follows).quiet

pub returns-clause-quiet : goal.returns-clause-quiet
returns-clause-quiet g c =
    let first = follows_on c.args.self.now c.in_steps_everywhere.new.self c.clock_steps_everywhere.new.self c.in_steps_everywhere.ensures.follows c.clock_steps_everywhere.ensures.follows in
    (follows_on c.args.self.now c.clock_steps_everywhere.new.self c.out_steps_everywhere.new.self first c.out_steps_everywhere.ensures.follows).quiet

pub returns-clause-does : goal.returns-clause-does
returns-clause-does g c =
    let old = g.S.Picks.slots c.args.shelf.now in
    let new = g.S.Picks.slots c.out_steps_everywhere.new.shelf in
    on_ok c.out_steps_everywhere.result (Runs (InTurn AllOutSteps (links_downward c.clock_steps_everywhere.new.self)) old c.clock_steps_everywhere.new.self new c.out_steps_everywhere.new.self) (IsRound old new c.args.self.now c.out_steps_everywhere.new.self)
    (round_done old new c.args.self.now c.in_steps_everywhere.new.self c.clock_steps_everywhere.new.self c.out_steps_everywhere.new.self c.in_ok-in_steps_everywhere.ensures.does c.in_ok-clock_steps_everywhere.ensures.does) c.out_steps_everywhere.ensures.does
