use Rattle.rina_base.specs.Pdus.{pdu_of}
use Rattle.rina_flows.proofs.Taking.{takes_both, no_conn, no_end}
use Rattle.rina_flows.proofs.flows.Flows.takes.Goals as goal

pub returns-in-Some-Some : goal.returns-in-Some-Some
returns-in-Some-Some c = takes_both c.args.self.now.journal.ends c.args.self.now.conns c.args.at (pdu_of c.args.pdu.now) c.in-Some-Some.end.now c.in-Some-Some.conn.now c.takes.result c.in-Some-Some.ensures c.in-Some-Some.ensures' c.takes.ensures

pub returns-in_default : goal.returns-in_default
returns-in_default c = no_conn c.args.self.now.journal.ends c.args.self.now.conns c.args.at (pdu_of c.args.pdu.now) c.in_default.ensures'

pub returns-in_default-2 : goal.returns-in_default-2
returns-in_default-2 c = no_end c.args.self.now.journal.ends c.args.self.now.conns c.args.at (pdu_of c.args.pdu.now) c.in_default.ensures
