use Rattle.rina_flows.proofs.Timed.{sends_again_from}
use Rattle.std.proofs.Common.{refl}
use Rattle.rina_flows.specs.Timely.{IsSentAgain}
use Rattle.rina_flows.proofs.Elsewhere.{by_becoming}
use Rattle.rina_flows.proofs.flows.Flows.sent_again.Goals as goal

pub returns-clause-sends : goal.returns-clause-sends
returns-clause-sends c = sends_again_from c.args.now c.args.at c.args.self.now.journal.ends c.args.self.now.conns c.sent_again.new.self c.requires.at c.sent_again.ensures

pub returns-clause-leaves : goal.returns-clause-leaves
returns-clause-leaves c = (λ i other. refl, by_becoming (IsSentAgain c.args.now) c.args.at c.args.self.now.conns c.sent_again.new.self c.requires.at c.sent_again.ensures)
