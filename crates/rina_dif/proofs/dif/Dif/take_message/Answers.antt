-- A message for another member is passed on, and one for this member is handled.
use Rattle.std.proofs.Common.{◌∙◌, Some, sym}
use Rattle.rina_dif.proofs.FlowWalk.{own_taken, posted_leaves, posted_on}
use Rattle.rina_dif.proofs.dif.Dif.take_message.Goals as goal

pub returns-then-message-address_at-clause-does : goal.returns-then-message-address_at-clause-does
returns-then-message-address_at-clause-does c = λ lines below h.
    posted_on c.args.self.now lines below c.args.at c.args.message c.send_message.result c.send_message.new.self (λ member is same. c.if-message-address_at.true (same ∙ sym (c.address_at.ensures member is))) (c.send_message.ensures.holds lines below h) c.send_message.ensures.ok c.send_message.ensures.err

pub returns-then-message-address_at-clause-leaves : goal.returns-then-message-address_at-clause-leaves
returns-then-message-address_at-clause-leaves c = posted_leaves c.args.self.now (Some c.args.at) c.args.at c.args.message c.send_message.result c.send_message.new.self c.send_message.ensures.ok c.send_message.ensures.err

pub returns-clause-does : goal.returns-clause-does
returns-clause-does c = λ lines below h.
    own_taken c.args.self.now lines below c.args.at c.args.message c.take_own.result c.take_own.new.self (λ member is other. other (c.if-message-address_at.false ∙ c.address_at.ensures member is)) c.take_own.ensures.whole (c.take_own.ensures.does lines below h)
