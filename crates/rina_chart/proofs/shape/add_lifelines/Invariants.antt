use Rattle.std.proofs.Common.{◌≡◌, ◌++◌, drop}
use Rattle.rina_chart.specs.Shapes.{lifelines_from}
use Rattle.rina_chart.proofs.shape.add_lifelines.Given as goal

abbrev pub invariant-nodes : goal.invariant-nodes
invariant-nodes l = record {
  at : l.place ≡ l.node-index;
  made : l.shapes ++ lifelines_from l.frame l.place (drop l.node-index l.nodes) ≡ l.initial.shapes ++ lifelines_from l.frame 0 l.nodes;
}
