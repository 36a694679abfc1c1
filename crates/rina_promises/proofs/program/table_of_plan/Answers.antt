use Rattle.std.proofs.Common.{subst, sym}
use Rattle.rina_promises.specs.declared.program.Table.{Table}
use Rattle.rina_promises.specs.Looking.{TellsTable}
use Rattle.rina_promises.proofs.program.table_of_plan.Goals as goal

pub returns-in-Flows : goal.returns-in-Flows
returns-in-Flows g c = subst (λ (t : Table). TellsTable t c.args.name.now c.args.plan.now (g.K.Sink.took c.args.out.now) (g.K.Sink.took c.flows_of_plan.new.out) c.flows_of_plan.result) (sym c.in-Flows.is) c.flows_of_plan.ensures
