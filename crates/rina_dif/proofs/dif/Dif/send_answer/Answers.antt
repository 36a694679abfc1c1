use Rattle.rina_dif.proofs.Accepting.{sent_ok}
use Rattle.rina_dif.proofs.dif.Dif.send_answer.Goals as goal

pub returns-clause-ok : goal.returns-clause-ok
returns-clause-ok c = sent_ok c.args.self.now c.send_message.new.self c.args.at c.args.from c.args.invoke c.address_at.result c.args.answer c.send_message.result c.address_at.ensures c.send_message.ensures.ok
