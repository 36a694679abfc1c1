use Rattle.rina_flows.specs.Delivering.{ForgetsIn}
use Rattle.rina_dif.proofs.Lapsed.{ledger_one}
use Rattle.rina_dif.proofs.processes.Processes.forget.Goals as goal

pub returns-clause-forgets : goal.returns-clause-forgets
returns-clause-forgets c =
    let x = c.index_mut-process.result.now in
    rw (← c.self.view_is) (ledger_one (λ f l f' l'. ForgetsIn c.args.now c.args.place f l c.forget.result f' l') c.args.at c.args.flows.now c.forget.new.self c.self.inside.items.items x c.forget.new.ledger (rw (← c.self.view_is) at c.requires.at) c.index_mut-process.ensures.value c.forget.ensures.forgets)
