use Rattle.rina_dif.proofs.Lapsed.{conn_there, forgets, process_there}
use Rattle.rina_flows.specs.Delivering.{ForgetsIn}
use Rattle.rina_dif.proofs.Elsewhere.{ledger_leaves}
use Rattle.rina_dif.proofs.dif.Dif.forget_at.Goals as goal

pub forget-requires-clause-at : goal.forget-requires-clause-at
forget-requires-clause-at c = process_there c.args.self.now c.requires.stands.0 c.args.at c.requires.stands.1 c.requires.at

pub forget-requires-clause-conn : goal.forget-requires-clause-conn
forget-requires-clause-conn c = conn_there c.args.self.now c.requires.stands.0 c.args.at c.args.place c.requires.stands.1 c.requires.here

pub returns-clause-does : goal.returns-clause-does
returns-clause-does c = forgets c.args.self.now c.args.at c.args.place c.forget.result c.forget.new.flows c.forget.new.self c.requires.at c.requires.here c.forget.ensures.forgets

pub returns-clause-leaves : goal.returns-clause-leaves
returns-clause-leaves c = (c.forget.ensures.leaves, ledger_leaves (λ f l f' l'. ForgetsIn c.args.self.now.clock c.args.place f l c.forget.result f' l') c.args.self.now c.requires.stands.0 c.args.at c.forget.new.flows c.forget.new.self c.requires.stands.1 c.requires.at c.forget.ensures.forgets)
