use Rattle.rina_dif.proofs.Unlinked.{loses_one}
use Rattle.rina_dif.proofs.processes.Processes.lose_link.Goals as goal

pub returns : goal.returns
returns c =
    let x = c.index_mut-process.result.now in
    rw (← c.self.view_is) (loses_one c.args.loss c.lose_link.result c.args.at c.args.links.now c.lose_link.new.links c.self.inside.items.items x c.lose_link.new.process (rw (← c.self.view_is) at c.requires.at) c.index_mut-process.ensures.value c.lose_link.ensures.does c.lose_link.ensures.kept)
