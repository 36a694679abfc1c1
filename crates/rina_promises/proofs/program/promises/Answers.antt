use Rattle.rina_view.proofs.Writing.{told_failed, told_large, told_whole}
use Rattle.rina_promises.specs.Looking.{TellsStack}
use Rattle.rina_promises.proofs.program.promises.Goals as goal

pub returns-in-Whole : goal.returns-in-Whole
returns-in-Whole g c = told_whole (TellsStack c.args.table c.args.name.now) _ _ _ _ c.take_all-taken.result.bytes.items c.as_slice.result.now c.promises_of.result c.take_all-taken.result.ending c.take_all-taken.ensures.bytes c.take_all-taken.ensures.whole c.in-Whole.is c.as_slice.ensures.value c.promises_of.ensures

pub returns-in-TooLarge : goal.returns-in-TooLarge
returns-in-TooLarge g c = told_large (TellsStack c.args.table c.args.name.now) _ _ _ _ c.take_all-taken.result.bytes.items c.refuse.result c.take_all-taken.result.ending c.take_all-taken.ensures.bytes c.take_all-taken.ensures.large c.in-TooLarge.is c.refuse.ensures

pub returns-in-Fault : goal.returns-in-Fault
returns-in-Fault g c = told_failed (TellsStack c.args.table c.args.name.now) _ _ _ _ c.take_all-taken.result.bytes.items c.refuse-in-Fault.result c.take_all-taken.result.ending c.take_all-taken.ensures.bytes c.in-Fault.is c.refuse-in-Fault.ensures
