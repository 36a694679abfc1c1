use Rattle.std.proofs.Common.{arith}
use Rattle.rina_chart.proofs.Happening.{sdu_silent}
use Rattle.rina_chart.proofs.event.next_of_sdus.Goals as goal

pub sdus-preserved : goal.sdus-preserved
sdus-preserved c = record {
  later = c.sooner-next.ensures.later;
  within = omega (arith, c.sooner-next.ensures.within, c.sooner-until.ensures.within, c.sdus.invariant.within);
  silent = sdu_silent c.args.sdus.now c.sdus.sdu-index _ c.args.at c.last_tick.result c.sooner-until.result c.sooner-next.result c.sdus.next c.sdus-test.true c.last_tick.ensures c.sooner-until.ensures.first c.sooner-until.ensures.within c.sooner-next.ensures.first c.sooner-next.ensures.within c.sdus.invariant.silent;
}
