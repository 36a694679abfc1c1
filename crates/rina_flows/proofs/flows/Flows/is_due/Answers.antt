use Rattle.rina_flows.proofs.Timed.{ack_is_due, again_is_due, give_up_due, gone_due}
use Rattle.rina_flows.proofs.flows.Flows.is_due.Goals as goal

pub returns-in-Gone : goal.returns-in-Gone
returns-in-Gone c = rw c.in-Gone.is (gone_due c.args.now c.args.at c.args.self.now.journal.ends c.args.self.now.conns c.holds_gone.result c.holds_gone.ensures)

pub returns-in-GiveUp : goal.returns-in-GiveUp
returns-in-GiveUp c = rw (c.in-GiveUp.is, c.is_some.ensures) (give_up_due c.args.now c.args.at c.args.self.now.journal.ends c.args.self.now.conns c.gave_up.result c.gave_up.ensures)

pub returns-in-Ack : goal.returns-in-Ack
returns-in-Ack c = rw (c.in-Ack.is, c.is_some-in-Ack.ensures) (ack_is_due c.args.now c.args.at c.args.self.now.journal.ends c.args.self.now.conns c.ack_due.result c.ack_due.ensures)

pub returns-in-Again : goal.returns-in-Again
returns-in-Again c = rw (c.in-Again.is, c.is_some-in-Again.ensures) (again_is_due c.args.now c.args.at c.args.self.now.journal.ends c.args.self.now.conns c.again_due.result c.again_due.ensures)
