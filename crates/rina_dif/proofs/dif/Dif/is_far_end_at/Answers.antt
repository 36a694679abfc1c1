use Rattle.rina_dif.proofs.AnswerLooks.{far_told}
use Rattle.rina_dif.proofs.dif.Dif.is_far_end_at.Goals as goal

pub returns : goal.returns
returns c = far_told c.args.self.now c.args.place c.args.flow c.args.own c.args.cep c.in-Some-Some.end.now c.in-Some-Some.conn.now c.in-Some-Some.ensures c.in-Some-Some.ensures' c.is_far_of.result c.is_far_of.ensures c.if-not-is_far_of.false c.is_of.result c.is_of.ensures
