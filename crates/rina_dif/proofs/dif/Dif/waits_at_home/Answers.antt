use Rattle.rina_dif.proofs.AnswerLooks.{waits_told}
use Rattle.rina_dif.proofs.dif.Dif.waits_at_home.Goals as goal

pub returns : goal.returns
returns c = waits_told c.args.self.now c.args.at c.args.place c.in-Some.end.now c.in-Some.ensures c.is_waiting.result c.is_waiting.ensures c.if-not-is_waiting.false c.is_home.result c.is_home.ensures
