use Rattle.std.proofs.Common.{◌≡◌}
use Rattle.rina_flows.specs.Stopping.{held_before}
use Rattle.rina_flows.proofs.flows.Flows.held_at.Given as goal

abbrev pub invariant-loop-at : goal.invariant-loop-at
invariant-loop-at l = l.count ≡ held_before l.node l.self.journal.ends l.self.conns l.at
