use Rattle.rina_dif.proofs.Posts.{sent_holds}
use Rattle.rina_dif.proofs.dif.Dif.send_message.Goals as goal

pub returns-in-Ok-clause-holds : goal.returns-in-Ok-clause-holds
returns-in-Ok-clause-holds c = λ lines below h. sent_holds c.args.self.now lines below c.args.at c.in-Ok.link c.args.message c.put_message.result c.put_message.new.self c.requires.at c.requires.proper c.in-Ok.ensures c.put_message.ensures.ok c.put_message.ensures.err h
