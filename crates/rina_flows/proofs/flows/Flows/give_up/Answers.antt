use Rattle.std.proofs.Common.{refl}
use Rattle.rina_flows.proofs.GaveUp.{gives_up, none_given_up}
use Rattle.rina_flows.proofs.flows.Flows.give_up.Goals as goal

pub returns-in_default-clause-gives_up : goal.returns-in_default-clause-gives_up
returns-in_default-clause-gives_up c = (none_given_up c.args.now c.args.at c.args.self.now c.in_default.ensures, refl, refl)

pub returns-clause-gives_up : goal.returns-clause-gives_up
returns-clause-gives_up c = gives_up c.args.now c.args.at c.args.self.now c.stop.new.self c.args.ledger.now c.stop.new.ledger c.in-Some.told c.in-Some.ensures c.in_ok-stop.ensures.stops
