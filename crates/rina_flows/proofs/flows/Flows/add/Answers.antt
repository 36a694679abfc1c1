use Rattle.rina_flows.proofs.Adding.{adds_at}
use Rattle.rina_flows.proofs.Elsewhere.{by_adding}
use Rattle.rina_flows.proofs.flows.Flows.add.Goals as goal

pub returns-in-Ok-clause-adds : goal.returns-in-Ok-clause-adds
returns-in-Ok-clause-adds c = adds_at c.args.cube.now c.args.piece c.args.max c.args.peer c.turned.result c.args.self.now.journal.ends c.push_both-2.new.self c.args.self.now.conns c.push_both.new.self c.args.asker c.args.far c.in_ok-conn.conn c.in_ok-its.its c.in_ok-conn.ensures c.turned.ensures c.in_ok-its.ensures c.in-Ok.ensures.ok c.in_ok-push_both.ensures.ok

pub returns-in-Ok-clause-keeps : goal.returns-in-Ok-clause-keeps
returns-in-Ok-clause-keeps c = by_adding c.args.self.now.conns c.push_both.new.self c.in_ok-conn.conn c.in_ok-its.its c.in_ok-push_both.ensures.ok
