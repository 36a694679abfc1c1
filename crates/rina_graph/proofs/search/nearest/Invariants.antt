-- The best so far is open, and none before here is nearer.
use Rattle.std.proofs.Common.{MatchOption}
use Rattle.rina_graph.specs.Search.{IsOpen, IsNearest, AllSettled}
use Rattle.rina_graph.proofs.search.nearest.Given as goal

abbrev pub invariant-loop-at : goal.invariant-loop-at
invariant-loop-at l = MatchOption l.best (AllSettled l.reached l.settled l.at) (λ n. IsOpen l.reached l.settled n.0 n.1 × IsNearest l.reached l.settled l.at n.1.weight)
