use Rattle.std.proofs.Common.{◌≡◌, ◌++◌, drop}
use Rattle.std.specs.List.{flat_map}
use Rattle.rina_chart.specs.Lanes.{name_cell}
use Rattle.rina_chart.proofs.lane.add_names.Given as goal

abbrev pub invariant-nodes : goal.invariant-nodes
invariant-nodes l = l.text ++ flat_map (name_cell l.width) (drop l.node-index l.nodes) ≡ l.initial.text ++ flat_map (name_cell l.width) l.nodes
