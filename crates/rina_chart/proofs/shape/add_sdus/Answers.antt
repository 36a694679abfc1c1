use Rattle.std.proofs.Common.{◌+◌, ap, drop, ◌∙◌}
use Rattle.rina_chart.proofs.Shaping.{sdu_on}
use Rattle.rina_chart.proofs.shape.add_sdus.Goals as goal

pub sdus-preserved : goal.sdus-preserved
sdus-preserved c =
    let later = c.later_than.ensures ∙ ap (λ n. drop (n + 1) c.args.sdus.now) c.sdus.invariant.place in
    record {
      place = ap (λ n. n + 1) c.sdus.invariant.place;
      made = rw (c.in_ok-add_sdu.ensures, later) (sdu_on c.args.frame c.args.sdus.now c.sdus.sdu-index _ c.sdus.shapes _ c.sdus-test.true c.sdus.invariant.made);
    }
