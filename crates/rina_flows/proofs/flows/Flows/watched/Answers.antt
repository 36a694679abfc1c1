use Rattle.rina_flows.proofs.Idle.{none_due}
use Rattle.rina_flows.proofs.flows.Flows.watched.Goals as goal

pub returns : goal.returns
returns c = none_due c.args.now c.args.self.now.journal.ends c.args.self.now.conns c.watched.result c.watched.ensures
