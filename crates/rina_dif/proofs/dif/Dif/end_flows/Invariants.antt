-- So far these flows have ended.
use Rattle.rina_dif.proofs.Showing.{IsEndedFor}
use Rattle.rina_dif.proofs.dif.Dif.end_flows.Given as goal

abbrev pub invariant-loop-at : goal.invariant-loop-at
invariant-loop-at l = IsEndedFor l.node l.self.flows.journal.ends l.self.flows.conns l.fn.management l.management l.at
