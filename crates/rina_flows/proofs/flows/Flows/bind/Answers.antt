use Rattle.rina_flows.proofs.Answered.{binds_from}
use Rattle.rina_flows.proofs.flows.Flows.bind.Goals as goal

pub returns-clause-binds : goal.returns-clause-binds
returns-clause-binds c = binds_from c.args.at c.args.dcep c.args.self.now.journal.ends c.set_state.new.self c.args.self.now.conns c.tell.new.self c.tell.ensures c.set_state.ensures
