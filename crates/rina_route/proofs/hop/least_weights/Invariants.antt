-- The least weights of the edges so far.
use Rattle.std.proofs.Common.{take}
use Rattle.rina_route.specs.Weights.{AreWeights}
use Rattle.rina_route.proofs.hop.least_weights.Given as goal

abbrev pub invariant-loop-edge : goal.invariant-loop-edge
invariant-loop-edge l = AreWeights l.start (take l.edge-index l.edges) l.nodes l.weights.items
