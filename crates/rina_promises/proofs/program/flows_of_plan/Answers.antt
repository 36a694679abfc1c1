use Rattle.rina_promises.specs.Promises.{ShowsPromises}
use Rattle.rina_promises.proofs.Told.{text_shown}
use Rattle.rina_promises.proofs.program.flows_of_plan.Goals as goal

pub returns-in-Ok : goal.returns-in-Ok
returns-in-Ok g c = text_shown (ShowsPromises c.args.plan.now) c.in-Ok.text.items c.as_slice.result.now _ _ c.write.result c.in-Ok.ensures c.as_slice.ensures.value c.write.ensures
