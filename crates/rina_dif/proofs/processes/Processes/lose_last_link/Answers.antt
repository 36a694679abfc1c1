use Rattle.rina_dif.proofs.Cutting.{last_one}
use Rattle.rina_dif.proofs.processes.Processes.lose_last_link.Goals as goal

pub returns-clause-loses : goal.returns-clause-loses
returns-clause-loses c =
    let x = c.index_mut-process.result.now in
    rw (← c.self.view_is) (last_one c.args.node c.args.state c.args.loss c.lose_last_link.result c.args.at c.args.links.now c.lose_last_link.new.links c.args.flows.now c.lose_last_link.new.flows c.self.inside.items.items x c.lose_last_link.new.process (rw (← c.self.view_is) at c.requires.at) c.index_mut-process.ensures.value c.lose_last_link.ensures.does c.lose_last_link.ensures.kept)
