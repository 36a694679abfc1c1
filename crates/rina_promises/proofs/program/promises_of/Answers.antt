use Rattle.rina_promises.proofs.Told.{told_plan}
use Rattle.rina_promises.proofs.program.promises_of.Goals as goal

pub returns-in-Ok : goal.returns-in-Ok
returns-in-Ok g c = told_plan c.args.table c.args.name.now c.args.bytes.now c.read_stack.result c.in-Ok.plan (g.K.Sink.took c.args.out.now) (g.K.Sink.took c.table_of_plan.new.out) c.table_of_plan.result c.read_stack.ensures.reads c.in-Ok.is c.table_of_plan.ensures
