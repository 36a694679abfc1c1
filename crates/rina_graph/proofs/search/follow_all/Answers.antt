-- The edges from the node stand together.
use Rattle.std.proofs.Common.{◌≡◌, sym, ◌∙◌, arith, rules, nat_lt, true, false}
use Rattle.std.proofs.lemmas.List.Sorted.{IsPartitionPoint-from_clause}
use Rattle.std.specs.List.Sorted.{IsPartitionPoint}
use Rattle.rina_graph.specs.declared.graph.Edge.{Edge}
use Rattle.rina_graph.specs.Search.{from_of}
use Rattle.rina_graph.proofs.Sorted.{from_place, past_place, place, inside_from}
use Rattle.rina_graph.proofs.search.follow_all.Goals as goal

pub follow-requires-clause-inside : goal.follow-requires-clause-inside
follow-requires-clause-inside c =
    let to = inside_from _ c.args.edges.now c.partition_point-first.result c.loop-edge.edge-index (record { from = 0; to = 0; weight = 0 }) c.requires.inside c.loop-edge-test.true in
    omega (arith, to, c.loop-edge.auto.reached)

pub loop-edge-init : goal.loop-edge-init
loop-edge-init c =
    let at : IsPartitionPoint (λ (e : Edge). nat_lt (from_of e) c.args.node ≡ true) (λ (e : Edge). nat_lt (from_of e) c.args.node ≡ false) c.args.edges.now c.partition_point-first.result =
    IsPartitionPoint-from_clause (λ (e : Edge). nat_lt (from_of e) c.args.node) c.args.edges.now c.partition_point-first.result c.partition_point-first.ensures.partitioned (place c.args.node c.args.edges.now c.requires.rise) (λ a r f called. search rules) in
    from_place c.args.node c.args.reach c.args.edges.now c.requires.rise c.partition_point-first.result c.partition_point-first.ensures.bound at c.args.reached.now

pub returns-then-edge-node : goal.returns-then-edge-node
returns-then-edge-node c =
    let at : IsPartitionPoint (λ (e : Edge). nat_lt (from_of e) c.args.node ≡ true) (λ (e : Edge). nat_lt (from_of e) c.args.node ≡ false) c.args.edges.now c.partition_point-first.result =
    IsPartitionPoint-from_clause (λ (e : Edge). nat_lt (from_of e) c.args.node) c.args.edges.now c.partition_point-first.result c.partition_point-first.ensures.partitioned (place c.args.node c.args.edges.now c.requires.rise) (λ a r f called. search rules) in
    sym (past_place c.args.node c.args.reach c.args.edges.now c.requires.rise c.partition_point-first.result c.partition_point-first.ensures.bound at c.loop-edge.edge-index (record { from = 0; to = 0; weight = 0 }) c.loop-edge.reached c.loop-edge-test.true c.if-edge-node.true) ∙ c.loop-edge.invariant
