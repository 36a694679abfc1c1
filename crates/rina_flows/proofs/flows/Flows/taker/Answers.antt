use Rattle.rina_base.specs.Pdus.{pdu_of}
use Rattle.rina_flows.proofs.Taking.{taken_here}
use Rattle.rina_flows.proofs.flows.Flows.taker.Goals as goal

pub returns-then-takes : goal.returns-then-takes
returns-then-takes c = taken_here c.args.self.now.journal.ends c.args.self.now.conns c.in-Some.at (pdu_of c.args.pdu.now) (c.takes.ensures.0 c.if-takes.true)
