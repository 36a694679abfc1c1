-- The search is sound, and each turn settles one more node.
use Rattle.std.proofs.Common.{length}
use Rattle.rina_graph.proofs.Settle.{IsSearch, left}
use Rattle.rina_graph.proofs.search.settle_all.Given as goal

abbrev pub invariant-loop-at : goal.invariant-loop-at
invariant-loop-at l = IsSearch l.edges l.start (length l.fn.reached) l.reached l.settled

abbrev pub decreases-loop-at : goal.decreases-loop-at
decreases-loop-at l = left l.settled
