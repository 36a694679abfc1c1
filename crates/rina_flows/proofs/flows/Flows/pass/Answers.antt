use Rattle.rina_flows.proofs.Passed.{passes_from}
use Rattle.rina_iface.specs.Ends.{with_passed}
use Rattle.rina_flows.specs.Calls.{IsPass}
use Rattle.rina_flows.proofs.Elsewhere.{by_becoming, by_change}
use Rattle.rina_flows.proofs.flows.Flows.pass.Goals as goal

pub returns-clause-passes : goal.returns-clause-passes
returns-clause-passes c = passes_from c.args.now c.args.at c.args.self.now.journal.ends c.pass-2.new.self c.args.self.now.conns c.pass.new.self c.requires.end c.requires.conn c.requires.waits c.pass.ensures c.pass-2.ensures

pub returns-clause-leaves : goal.returns-clause-leaves
returns-clause-leaves c = (by_change with_passed c.args.self.now.journal.ends c.pass-2.new.self c.args.at c.requires.end c.pass-2.ensures, by_becoming (IsPass c.args.now) c.args.at c.args.self.now.conns c.pass.new.self c.requires.conn c.pass.ensures)
