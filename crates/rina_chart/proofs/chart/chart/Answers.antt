use Rattle.rina_view.proofs.Writing.{told_failed, told_large, told_whole}
use Rattle.rina_chart.specs.Outcome.{TellsDrawn}
use Rattle.rina_chart.proofs.chart.chart.Goals as goal

pub returns-in-Whole : goal.returns-in-Whole
returns-in-Whole g c = told_whole (TellsDrawn c.args.format c.args.fac.now c.args.window) _ _ _ _ c.take_all-taken.result.bytes.items c.as_slice.result.now c.chart_of.result c.take_all-taken.result.ending c.take_all-taken.ensures.bytes c.take_all-taken.ensures.whole c.in-Whole.is c.as_slice.ensures.value c.chart_of.ensures

pub returns-in-TooLarge : goal.returns-in-TooLarge
returns-in-TooLarge g c = told_large (TellsDrawn c.args.format c.args.fac.now c.args.window) _ _ _ _ c.take_all-taken.result.bytes.items c.refuse.result c.take_all-taken.result.ending c.take_all-taken.ensures.bytes c.take_all-taken.ensures.large c.in-TooLarge.is c.refuse.ensures

pub returns-in-Fault : goal.returns-in-Fault
returns-in-Fault g c = told_failed (TellsDrawn c.args.format c.args.fac.now c.args.window) _ _ _ _ c.take_all-taken.result.bytes.items c.refuse-in-Fault.result c.take_all-taken.result.ending c.take_all-taken.ensures.bytes c.in-Fault.is c.refuse-in-Fault.ensures
