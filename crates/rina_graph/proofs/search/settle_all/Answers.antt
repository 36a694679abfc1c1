-- The search begins sound, stays so when the nearest node is settled, and ends in least walks.
use Rattle.std.proofs.Common.{ℕ, true, length, slice_set, refl, sym, subst}
use Rattle.rina_graph.specs.Search.{followed_all}
use Rattle.rina_graph.proofs.Reached.{Nodes}
use Rattle.rina_graph.proofs.Settle.{IsSearch, begins_search, settles, is_tree}
use Rattle.rina_graph.proofs.search.settle_all.Goals as goal

pub loop-at-init : goal.loop-at-init
loop-at-init c = begins_search c.args.edges.now c.args.start (length c.args.reached.now) c.args.reached.now c.args.settled.now c.requires.inside refl c.requires.marked c.requires.none c.requires.free

pub loop-at-preserved : goal.loop-at-preserved
loop-at-preserved c =
    let n : ℕ = length c.args.reached.now in
    let settled : IsSearch c.args.edges.now c.args.start n (followed_all c.in-Some.at c.in-Some.reach c.args.edges.now c.loop-at.reached) (slice_set c.loop-at.settled c.in-Some.at true) =
    settles c.args.edges.now c.args.start n c.in-Some.at c.in-Some.reach c.loop-at.reached c.loop-at.settled c.loop-at.invariant c.requires.sound c.in-Some.ensures.found c.in-Some.ensures.nearest in
    subst (λ (ways : Nodes). IsSearch c.args.edges.now c.args.start n ways (slice_set c.loop-at.settled c.in-Some.at true)) (sym c.follow_all.ensures) settled

pub returns : goal.returns
returns c = is_tree c.args.edges.now c.args.start (length c.args.reached.now) c.loop-at.reached c.loop-at.settled c.loop-at.invariant c.requires.sound (c.in_default.ensures.none)
