use Rattle.std.proofs.Common.{refl}
use Rattle.rina_base.specs.Pdus.{pdu_of}
use Rattle.rina_flows.proofs.Told.{tells_from}
use Rattle.rina_flows.specs.Calls.{IsTold}
use Rattle.rina_flows.proofs.Elsewhere.{by_becoming}
use Rattle.rina_flows.proofs.flows.Flows.on_ack.Goals as goal

pub returns-clause-told : goal.returns-clause-told
returns-clause-told c = tells_from c.args.at (pdu_of c.args.pdu.now) c.args.self.now.journal.ends c.args.self.now.conns c.on_ack.new.self c.requires c.on_ack.ensures

pub returns-clause-leaves : goal.returns-clause-leaves
returns-clause-leaves c = (λ i other. refl, by_becoming (IsTold (pdu_of c.args.pdu.now)) c.args.at c.args.self.now.conns c.on_ack.new.self c.requires c.on_ack.ensures)
