use Rattle.rina_flows.proofs.Rested.{quiet_due}
use Rattle.rina_flows.proofs.flows.Flows.quiet_until.Goals as goal

pub returns : goal.returns
returns c = quiet_due c.quiet_until.result c.args.self.now.journal.ends c.args.self.now.conns c.quiet_until.ensures
