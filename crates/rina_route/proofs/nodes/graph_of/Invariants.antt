-- The edges so far are in the graph.
use Rattle.std.proofs.Common.{◌≡◌, length, map, take}
use Rattle.rina_route.specs.Nodes.{lifted}
use Rattle.rina_route.proofs.nodes.graph_of.Given as goal

abbrev pub invariant-loop-edge : goal.invariant-loop-edge
invariant-loop-edge l = record {
  size : l.graph.0 ≡ length l.nodes;
  lifts : map (lifted l.nodes) l.graph.1 ≡ take l.edge-index l.edges;
}
