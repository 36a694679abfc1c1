use Rattle.rina_promises.specs.Pairs.{ShowsPairs}
use Rattle.rina_promises.proofs.Told.{text_shown}
use Rattle.rina_promises.proofs.program.pairs_at.Goals as goal

pub returns-in-Ok : goal.returns-in-Ok
returns-in-Ok g c = text_shown (ShowsPairs c.args.plan.now c.args.at) c.in-Ok.text.items c.as_slice.result.now _ _ c.write.result c.in-Ok.ensures c.as_slice.ensures.value c.write.ensures
