-- The ends of one more edge are there; then all are sorted, and of each one stays.
use Rattle.std.proofs.lemmas.List.Filters.{dedup_is}
use Rattle.std.proofs.lemmas.List.Kept.{Contains-dedup_nat}
use Rattle.std.proofs.lemmas.List.Sorted.{Contains-permutation}
use Rattle.std.proofs.lemmas.Map.Keys.{IsStrictlyIncreasing-dedup}
use Rattle.rina_graph.specs.declared.graph.Edge.{Edge}
use Rattle.rina_route.proofs.Numbers.{keeps, ends_more, ends_all}
use Rattle.rina_route.proofs.nodes.nodes_of.Goals as goal

pub loop-edge-preserved : goal.loop-edge-preserved
loop-edge-preserved c =
    let d : Edge = record { from = 0; to = 0; weight = 0 } in
    record {
      begins = keeps c.loop-edge.nodes.items c.push.new.self.items c.push-in-loop-edge.new.self.items _ _ c.args.own c.in_ok-push.ensures.items c.in_ok-push-2.ensures.items c.loop-edge.invariant.begins;
      ends = ends_more c.args.edges.now c.loop-edge.edge-index d c.loop-edge.nodes.items c.push.new.self.items c.push-in-loop-edge.new.self.items c.loop-edge-test.true c.in_ok-push.ensures.items c.in_ok-push-2.ensures.items c.loop-edge.invariant.ends;
    }

pub returns : goal.returns
returns c =
    let is = dedup_is _ _ _ c.dedup.ensures.filtered in
    let moved = c.sort_unstable.ensures.permutation in
    let all = ends_all c.args.edges.now c.loop-edge.edge-index c.loop-edge.nodes.items c.loop-edge-test.false c.loop-edge.invariant.ends in
    record {
      rise = rw is (IsStrictlyIncreasing-dedup _ c.sort_unstable.ensures.sorted);
      begins = rw is (Contains-dedup_nat _ c.args.own (Contains-permutation _ _ c.args.own moved c.loop-edge.invariant.begins));
      ends = λ e among. rw is (Contains-dedup_nat _ e.from (Contains-permutation _ _ e.from moved (all e among).0), Contains-dedup_nat _ e.to (Contains-permutation _ _ e.to moved (all e among).1));
    }
