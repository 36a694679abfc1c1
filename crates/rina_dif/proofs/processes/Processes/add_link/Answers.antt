use Rattle.rina_dif.proofs.Linked.{adds_one}
use Rattle.rina_dif.proofs.processes.Processes.add_link.Goals as goal

pub returns : goal.returns
returns c =
    let x = c.index_mut.result.now in
    rw (← c.self.view_is) (adds_one c.args.port c.add_link.result c.args.at c.self.inside.items.items x c.add_link.new.process (rw (← c.self.view_is) at c.requires) c.index_mut.ensures.value c.add_link.ensures)
