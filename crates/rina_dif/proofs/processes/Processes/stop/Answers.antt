use Rattle.rina_flows.specs.Delivering.{StopsIn}
use Rattle.rina_dif.proofs.Lapsed.{ledger_one}
use Rattle.rina_dif.proofs.processes.Processes.stop.Goals as goal

pub returns-clause-stops : goal.returns-clause-stops
returns-clause-stops c =
    let x = c.index_mut-process.result.now in
    rw (← c.self.view_is) (ledger_one (λ f l f' l'. StopsIn c.args.now c.args.place c.args.state f l c.stop.result f' l') c.args.at c.args.flows.now c.stop.new.self c.self.inside.items.items x c.stop.new.ledger (rw (← c.self.view_is) at c.requires.at) c.index_mut-process.ensures.value c.stop.ensures.stops)
