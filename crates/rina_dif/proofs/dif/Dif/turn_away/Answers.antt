use Rattle.std.proofs.Common.{◌∙◌, Ok, sym}
use Rattle.rina_dif.specs.AnswersIn.{given_back}
use Rattle.rina_dif.specs.Posting.{message_of, posts}
use Rattle.rina_dif.proofs.AnswersIn.{said_whole, says_none, says_word}
use Rattle.rina_dif.proofs.dif.Dif.turn_away.Goals as goal

pub returns-in_default-clause-ok : goal.returns-in_default-clause-ok
returns-in_default-clause-ok c = says_none c.args.self.now c.args.at c.args.from (given_back c.args.answer) (Ok tt) (sym c.given_back.ensures.word ∙ c.in_default.is)

pub returns-clause-ok : goal.returns-clause-ok
returns-clause-ok c = says_word c.args.self.now c.send_message.new.self c.args.at c.args.from c.address_at.result (given_back c.args.answer) c.in-Some.word c.send_message.result (sym c.given_back.ensures.word ∙ c.in-Some.is) c.address_at.ensures c.send_message.ensures.ok

pub returns-clause-whole : goal.returns-clause-whole
returns-clause-whole c = said_whole c.args.self.now c.send_message.new.self c.send_message.result (posts c.args.self.now c.args.at (message_of c.args.from c.address_at.result c.in-Some.word) c.args.self.now.managements) c.send_message.ensures.ok c.send_message.ensures.err
