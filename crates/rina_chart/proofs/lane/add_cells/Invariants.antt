use Rattle.std.proofs.Common.{◌≡◌, ◌++◌, drop}
use Rattle.rina_chart.specs.Lanes.{cells_from}
use Rattle.rina_chart.proofs.lane.add_cells.Given as goal

abbrev pub invariant-nodes : goal.invariant-nodes
invariant-nodes l = record {
  at : l.place ≡ l._node-index;
  made : l.text ++ cells_from l.width l.stroke l.place (drop l._node-index l.nodes) ≡ l.initial.text ++ cells_from l.width l.stroke 0 l.nodes;
}
