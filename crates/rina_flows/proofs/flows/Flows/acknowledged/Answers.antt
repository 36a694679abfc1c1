use Rattle.rina_flows.proofs.Timed.{acknowledges_from}
use Rattle.std.proofs.Common.{refl}
use Rattle.rina_flows.specs.Timely.{IsAcknowledged}
use Rattle.rina_flows.proofs.Elsewhere.{by_becoming}
use Rattle.rina_flows.proofs.flows.Flows.acknowledged.Goals as goal

pub returns-clause-acknowledges : goal.returns-clause-acknowledges
returns-clause-acknowledges c = acknowledges_from c.args.at c.args.self.now.journal.ends c.args.self.now.conns c.acknowledged.new.self c.acknowledged.ensures

pub returns-clause-leaves : goal.returns-clause-leaves
returns-clause-leaves c = (λ i other. refl, by_becoming IsAcknowledged c.args.at c.args.self.now.conns c.acknowledged.new.self c.requires c.acknowledged.ensures)
