use Rattle.rina_data.specs.Hops.{hop_of}
use Rattle.rina_dif.proofs.Settling.{decides_one}
use Rattle.rina_dif.proofs.processes.Processes.route_or_deliver.Goals as goal

pub returns : goal.returns
returns c =
    let x = c.index_mut-process.result.now in
    rw (← c.self.view_is) (decides_one c.args.now c.args.addr c.args.since (hop_of c.args.hop.now) c.route_or_deliver.result c.args.at c.self.inside.items.items x c.route_or_deliver.new.self (rw (← c.self.view_is) at c.requires.at) c.index_mut-process.ensures.value c.route_or_deliver.ensures.does c.route_or_deliver.ensures.kept)
