use Rattle.rina_data.specs.Hops.{hop_of}
use Rattle.rina_dif.proofs.Posted.{forwards_one}
use Rattle.rina_dif.proofs.processes.Processes.forward.Goals as goal

pub returns : goal.returns
returns c =
    let x = c.index_mut-process.result.now in
    rw (← c.self.view_is) (forwards_one c.args.now (hop_of c.args.hop.now) c.forward.result c.args.at c.self.inside.items.items x c.forward.new.self (rw (← c.self.view_is) at c.requires.at) c.index_mut-process.ensures.value c.forward.ensures.does c.forward.ensures.kept)
