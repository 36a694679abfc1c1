use Rattle.rina_flows.specs.Timely.{GivesUpIn}
use Rattle.rina_dif.proofs.Lapsed.{ledger_one}
use Rattle.rina_dif.proofs.processes.Processes.give_up.Goals as goal

pub returns-clause-gives_up : goal.returns-clause-gives_up
returns-clause-gives_up c =
    let x = c.index_mut-process.result.now in
    rw (← c.self.view_is) (ledger_one (λ f l f' l'. GivesUpIn c.args.now c.args.place f l c.give_up.result f' l') c.args.at c.args.flows.now c.give_up.new.self c.self.inside.items.items x c.give_up.new.ledger (rw (← c.self.view_is) at c.requires.at) c.index_mut-process.ensures.value c.give_up.ensures.gives_up)
