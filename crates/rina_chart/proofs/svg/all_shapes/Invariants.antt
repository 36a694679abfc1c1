use Rattle.std.proofs.Common.{◌≡◌, ◌++◌, drop}
use Rattle.std.specs.List.{flat_map}
use Rattle.rina_chart.specs.Svg.{shape_text}
use Rattle.rina_chart.proofs.svg.all_shapes.Given as goal

abbrev pub invariant-shapes : goal.invariant-shapes
invariant-shapes l = l.text ++ flat_map shape_text (drop l.shape-index l.shapes) ≡ l.initial.text ++ flat_map shape_text l.shapes
