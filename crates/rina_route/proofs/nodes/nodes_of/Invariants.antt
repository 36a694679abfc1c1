-- The own address and the ends of the edges so far are there.
use Rattle.std.proofs.Common.{take, Contains}
use Rattle.rina_graph.specs.declared.graph.Edge.{Edge}
use Rattle.rina_route.proofs.nodes.nodes_of.Given as goal

abbrev pub invariant-loop-edge : goal.invariant-loop-edge
invariant-loop-edge l = record {
  begins : Contains l.nodes.items l.own;
  ends : (e : Edge) → Contains (take l.edge-index l.edges) e → Contains l.nodes.items e.from × Contains l.nodes.items e.to;
}
