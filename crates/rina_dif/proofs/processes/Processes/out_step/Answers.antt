use Rattle.rina_data.specs.Configs.{config_of}
use Rattle.rina_data.specs.Outgoing.{IsHeld}
use Rattle.rina_dif.proofs.Leaves.{asks_one, leaves_one}
use Rattle.rina_dif.proofs.Shelves.{names_stay}
use Rattle.rina_dif.proofs.processes.Processes.out_step.Goals as goal

pub returns-clause-does : goal.returns-clause-does
returns-clause-does g c =
    let x = c.index_mut-process.result.now in
    rw (← c.self.view_is) (leaves_one _ _ _ _ _ _ _ c.args.at c.self.inside.items.items x c.out_step.new.self (rw (← c.self.view_is) at c.requires.at) c.index_mut-process.ensures.value c.out_step.ensures.does c.out_step.ensures.kept)

pub returns-clause-shelf : goal.returns-clause-shelf
returns-clause-shelf g c =
    let x = c.index_mut-process.result.now in
    rw (← c.self.view_is) (asks_one (g.S.Picks.may_answer c.args.shelf.now c.args.settings.now.policy) (IsHeld (g.F.Facility.refuses_send c.args.below.now) (config_of c.args.settings.now) c.args.now (g.F.Facility.seen c.args.below.now) c.args.link) c.args.settings.now c.args.link c.args.at _ _ c.self.inside.items.items c.out_step.result x c.out_step.new.self c.in-Some.member.now (rw (← c.self.view_is) at c.requires.at) c.index_mut-process.ensures.value c.in-Some.ensures c.out_step.ensures.shelf)

pub returns-clause-names : goal.returns-clause-names
returns-clause-names g c = names_stay _ _ _ _ _ _ _ _ _ _ c.out_step.ensures.shelf
