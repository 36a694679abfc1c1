-- An edge from the node may weigh less than those before it, and no other.
use Rattle.std.proofs.Common.{ap, arith}
use Rattle.std.proofs.lemmas.List.Elements.{Contains-get_or}
use Rattle.rina_graph.specs.declared.graph.Edge.{Edge}
use Rattle.rina_route.proofs.Weights.{offered, weights_same, weights_put}
use Rattle.rina_route.proofs.hop.least_weights.Goals.{then-edge-start, else-edge-start}
use Rattle.rina_route.proofs.hop.least_weights.Goals as goal

pub index-requires : goal.index-requires
index-requires c =
    let d : Edge = record { from = 0; to = 0; weight = 0 } in
    let sound = c.requires _ (Contains-get_or c.args.edges.now c.loop-edge.edge-index d c.loop-edge-test.true) in
    omega (arith, sound.1, c.loop-edge.invariant.long, c.loop-edge.weights.ok)

pub index_mut-requires : goal.index_mut-requires
index_mut-requires c =
    let d : Edge = record { from = 0; to = 0; weight = 0 } in
    let sound = c.requires _ (Contains-get_or c.args.edges.now c.loop-edge.edge-index d c.loop-edge-test.true) in
    omega (arith, sound.1, c.loop-edge.invariant.long, c.loop-edge.weights.ok)

pub loop-edge-preserved : goal.loop-edge-preserved
loop-edge-preserved c =
    let d : Edge = record { from = 0; to = 0; weight = 0 } in
    elim c.if-edge-start.branch [
      | then-edge-start w ↦ (let sound = c.requires _ (Contains-get_or c.args.edges.now c.loop-edge.edge-index d c.loop-edge-test.true) in
          weights_put c.args.start c.args.nodes c.args.edges.now c.loop-edge.edge-index d c.loop-edge.weights.items c.if-edge-start.weights.items c.loop-edge-test.true c.loop-edge.invariant w.lesser.result w.if-edge-start.true sound.1 (offered c.loop-edge.weights.items _ _ w.lesser.result w.index.result.now (omega (arith, sound.1, c.loop-edge.invariant.long)) w.index.ensures w.lesser.ensures) (ap (λ v. v.items) w.weights-is))
      | else-edge-start w ↦ weights_same c.args.start c.args.nodes c.args.edges.now c.loop-edge.edge-index d c.loop-edge.weights.items c.if-edge-start.weights.items c.loop-edge-test.true c.loop-edge.invariant w.if-edge-start.false (ap (λ v. v.items) w.weights-is)
    ]
