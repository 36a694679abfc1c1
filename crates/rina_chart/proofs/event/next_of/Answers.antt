use Rattle.rina_chart.proofs.Happening.{both_silent}
use Rattle.rina_chart.proofs.event.next_of.Goals as goal

pub returns-clause-silent : goal.returns-clause-silent
returns-clause-silent c = both_silent c.args.marks.now c.args.sdus.now c.args.at c.next_of_marks.result c.next_of_sdus.result c.next_of_sdus.ensures.within c.next_of_marks.ensures.silent c.next_of_sdus.ensures.silent
