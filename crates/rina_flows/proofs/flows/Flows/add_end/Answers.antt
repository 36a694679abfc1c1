use Rattle.rina_flows.proofs.Adding.{asker_added_at}
use Rattle.rina_flows.proofs.AddingFar.{far_added_at}
use Rattle.rina_flows.proofs.Elsewhere.{by_adding_one}
use Rattle.rina_flows.proofs.flows.Flows.add_end.Goals as goal

pub returns-in-Ok-clause-asks : goal.returns-in-Ok-clause-asks
returns-in-Ok-clause-asks c = asker_added_at c.args.cube.now c.args.piece c.args.max c.args.peer c.args.self.now.journal.ends c.push.new.self c.args.self.now.conns c.push_one.new.self c.args.end c.in_ok-conn.conn c.in_ok-conn.ensures c.in-Ok.ensures.ok c.in_ok-push_one.ensures.ok

pub returns-in-Ok-clause-answers : goal.returns-in-Ok-clause-answers
returns-in-Ok-clause-answers c = far_added_at c.args.cube.now c.args.piece c.args.max c.args.peer c.args.self.now.journal.ends c.push.new.self c.args.self.now.conns c.push_one.new.self c.args.end c.in_ok-conn.conn c.in_ok-conn.ensures c.in-Ok.ensures.ok c.in_ok-push_one.ensures.ok

pub returns-in-Ok-clause-keeps : goal.returns-in-Ok-clause-keeps
returns-in-Ok-clause-keeps c = by_adding_one c.args.self.now.conns c.push_one.new.self c.in_ok-conn.conn c.in_ok-push_one.ensures.ok
