-- The sorted edges are those of the graph.
use Rattle.std.proofs.Common.{◌≡◌, length, sym, subst, arith}
use Rattle.std.proofs.lemmas.Grind.{common_steps}
use Rattle.rina_graph.specs.Walks.{IsTree}
use Rattle.rina_graph.proofs.Edges.{IsSound}
use Rattle.rina_graph.proofs.Sorted.{back_from, on_to, tree_to}
use Rattle.rina_graph.proofs.search.least_hops.Goals as goal

pub settle_all-requires-clause-sound : goal.settle_all-requires-clause-sound
settle_all-requires-clause-sound c e among =
    let long : length c.deref_mut.result.now ≡ c.args.graph.now.0 = grind (arith, common_steps) in
    subst (λ n. IsSound n e) (sym long) (c.edges.ensures.sound e (back_from _ _ _ c.in_ok-edges.ensures.same c.deref.ensures.value e among))

pub returns-clause-tree : goal.returns-clause-tree
returns-clause-tree c =
    let whole : c.from_reached.result ≡ c.settle_all.new.reached = grind (arith, common_steps) in
    let sorted : IsTree c.deref.result.now c.args.start c.from_reached.result = subst (IsTree c.deref.result.now c.args.start) (sym whole) c.settle_all.ensures in
    let tree : IsTree c.edges.result.now c.args.start c.from_reached.result = tree_to _ _ c.args.start c.from_reached.result (back_from _ _ _ c.in_ok-edges.ensures.same c.deref.ensures.value) (on_to _ _ _ c.in_ok-edges.ensures.same c.deref.ensures.value) sorted in
    subst (λ es. IsTree es c.args.start c.from_reached.result) c.edges.ensures.all tree
