use Rattle.std.proofs.Common.{length}
use Rattle.rina_flows.specs.Quiet.{AreTimed}
use Rattle.rina_flows.proofs.watch.Watch.rest.Given as goal

abbrev pub invariant-loop-at : goal.invariant-loop-at
invariant-loop-at l = AreTimed l.self.places.items l.self.until l.self.alarms l.conns

abbrev pub decreases-loop-at : goal.decreases-loop-at
decreases-loop-at l = length l.self.places.items
