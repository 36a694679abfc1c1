use Rattle.std.proofs.Common.{arith}
use Rattle.rina_chart.proofs.Happening.{mark_silent}
use Rattle.rina_chart.proofs.event.next_of_marks.Goals as goal

pub marks-preserved : goal.marks-preserved
marks-preserved c = record {
  later = c.sooner-next.ensures.later;
  within = omega (arith, c.sooner-next.ensures.within, c.marks.invariant.within);
  silent = mark_silent c.args.marks.now c.marks.mark-index _ c.args.at c.sooner-next.result c.marks.next c.marks-test.true c.sooner-next.ensures.first c.sooner-next.ensures.within c.marks.invariant.silent;
}
