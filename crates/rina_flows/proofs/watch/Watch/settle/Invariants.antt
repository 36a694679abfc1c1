use Rattle.rina_flows.specs.Alarms.{how_many}
use Rattle.rina_flows.specs.Quiet.{AreTimed}
use Rattle.rina_flows.proofs.watch.Watch.settle.Given as goal

abbrev pub invariant-loop : goal.invariant-loop
invariant-loop l = AreTimed l.self.places.items l.self.until l.self.alarms l.conns

abbrev pub decreases-loop : goal.decreases-loop
decreases-loop l = how_many l.self.alarms
