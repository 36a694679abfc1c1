-- One more edge, or none.
use Rattle.std.proofs.Common.{◌≡◌, ℕ, List, sym, subst, ap, arith}
use Rattle.rina_graph.specs.declared.graph.Edge.{Edge}
use Rattle.rina_graph.specs.Walks.{AreEdges}
use Rattle.rina_graph.proofs.Edges.{one_more}
use Rattle.rina_graph.proofs.graph.Graph.edge.Goals as goal

pub invariant_of-self : goal.invariant_of-self
invariant_of-self c = (c.self.invariant.0, subst (AreEdges c.self.inside.nodes) (sym c.in_err-push.ensures.err) c.self.invariant.1)

pub invariant_of-self-2 : goal.invariant_of-self-2
invariant_of-self-2 c =
    let nodes : c.self.inside.nodes ≡ c.args.self.now.0 = ap (λ (g : ℕ × List Edge). g.0) c.self.view_is in
    (c.self.invariant.0, subst (AreEdges c.self.inside.nodes) (sym c.in_ok-push.ensures.ok) (one_more c.self.inside.nodes c.self.inside.edges (record { from = c.args.a; to = c.args.b; weight = c.args.weight }) c.self.invariant.1 (omega (arith, nodes, c.requires.a), omega (arith, nodes, c.requires.b), c.requires.weight, omega (arith, c.ranges.weight.fits))))
