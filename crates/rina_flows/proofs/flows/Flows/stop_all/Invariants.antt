use Rattle.std.specs.Vec.{vec_capacity}
use Rattle.rina_flows.proofs.Halted.{AreStopping}
use Rattle.rina_flows.proofs.flows.Flows.stop_all.Given as goal

abbrev pub invariant-loop-at : goal.invariant-loop-at
invariant-loop-at l = AreStopping l.now l.node l.state l.at l.initial.self l.initial.lines.items (vec_capacity l.initial.lines) l.self l.lines.items (vec_capacity l.lines)
