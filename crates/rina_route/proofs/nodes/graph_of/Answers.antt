-- The ends of an edge have numbers, and it has a weight.
use Rattle.std.proofs.Common.{get_or}
use Rattle.std.proofs.lemmas.List.Elements.{Contains-get_or}
use Rattle.rina_graph.specs.declared.graph.Edge.{Edge}
use Rattle.rina_route.proofs.nodes.graph_of.Goals as goal

pub number_of-from-requires-clause-there : goal.number_of-from-requires-clause-there
number_of-from-requires-clause-there c =
    let d : Edge = record { from = 0; to = 0; weight = 0 } in
    (c.requires.nodes.ends (get_or c.args.edges.now c.loop-edge.edge-index d) (Contains-get_or c.args.edges.now c.loop-edge.edge-index d c.loop-edge-test.true)).0

pub number_of-to-requires-clause-there : goal.number_of-to-requires-clause-there
number_of-to-requires-clause-there c =
    let d : Edge = record { from = 0; to = 0; weight = 0 } in
    (c.requires.nodes.ends (get_or c.args.edges.now c.loop-edge.edge-index d) (Contains-get_or c.args.edges.now c.loop-edge.edge-index d c.loop-edge-test.true)).1

pub edge-requires-clause-weight : goal.edge-requires-clause-weight
edge-requires-clause-weight c =
    let d : Edge = record { from = 0; to = 0; weight = 0 } in
    c.requires.weights (get_or c.args.edges.now c.loop-edge.edge-index d) (Contains-get_or c.args.edges.now c.loop-edge.edge-index d c.loop-edge-test.true)
