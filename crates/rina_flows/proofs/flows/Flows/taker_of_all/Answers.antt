use Rattle.std.proofs.Common.{arith}
use Rattle.rina_base.specs.Pdus.{pdu_of}
use Rattle.rina_flows.proofs.Taking.{taken_here, taken_nowhere}
use Rattle.rina_flows.proofs.flows.Flows.taker_of_all.Goals as goal

pub returns-then-takes : goal.returns-then-takes
returns-then-takes c = taken_here c.args.self.now.journal.ends c.args.self.now.conns c.loop-at.at (pdu_of c.args.pdu.now) (c.takes.ensures.0 c.if-takes.true)

pub returns : goal.returns
returns c = taken_nowhere c.args.self.now.journal.ends c.args.self.now.conns c.loop-at.at (pdu_of c.args.pdu.now) (omega arith) c.loop-at.invariant
