use Rattle.rina_base.specs.Pdus.{pdu_of}
use Rattle.rina_flows.specs.Calls.{NoneBefore}
use Rattle.rina_flows.proofs.flows.Flows.taker_of_all.Given as goal

abbrev pub invariant-loop-at : goal.invariant-loop-at
invariant-loop-at l = NoneBefore l.at l.self.journal.ends l.self.conns (pdu_of l.pdu)
