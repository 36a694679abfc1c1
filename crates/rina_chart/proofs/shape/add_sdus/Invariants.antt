use Rattle.std.proofs.Common.{◌≡◌, ◌++◌, drop}
use Rattle.rina_chart.specs.Shapes.{sdu_shapes}
use Rattle.rina_chart.proofs.shape.add_sdus.Given as goal

abbrev pub invariant-sdus : goal.invariant-sdus
invariant-sdus l = record {
  place : l.at ≡ l.sdu-index;
  made : l.shapes ++ sdu_shapes l.frame (drop l.sdu-index l.sdus) ≡ l.initial.shapes ++ sdu_shapes l.frame l.sdus;
}
