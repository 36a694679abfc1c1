-- The edges of the graph.
use Rattle.std.proofs.Common.{sym, subst}
use Rattle.rina_graph.specs.Walks.{AreEdges}
use Rattle.rina_graph.proofs.graph.Graph.edges.Goals as goal

pub returns-clause-sound : goal.returns-clause-sound
returns-clause-sound c =
    let view = c.self.view_is in
    subst (λ g. AreEdges g.0 c.as_slice.result.now) view (subst (AreEdges c.self.inside.nodes) (sym c.as_slice.ensures) c.self.invariant.1)
