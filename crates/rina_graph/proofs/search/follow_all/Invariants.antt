-- What is still to be followed leads from here to where all edges lead.
use Rattle.std.proofs.Common.{◌≡◌, ◌-◌, length, take, drop}
use Rattle.rina_graph.specs.Search.{followed_all}
use Rattle.rina_graph.proofs.search.follow_all.Given as goal

abbrev pub invariant-loop-edge : goal.invariant-loop-edge
invariant-loop-edge l = followed_all l.node l.reach (drop l.edge-index (take (length l.edges - l.first) (drop l.first l.edges))) l.reached ≡ followed_all l.node l.reach l.edges l.initial.reached
