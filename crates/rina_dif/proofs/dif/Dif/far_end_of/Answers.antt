use Rattle.std.proofs.Common.{arith}
use Rattle.rina_dif.proofs.AnswerLooks.{far_found_nowhere, one_more_far}
use Rattle.rina_dif.proofs.dif.Dif.far_end_of.Goals as goal

pub returns : goal.returns
returns c = far_found_nowhere c.args.self.now c.args.flow c.args.own c.args.cep c.loop-place.place (omega arith) c.loop-place.invariant

pub loop-place-preserved : goal.loop-place-preserved
loop-place-preserved c = one_more_far c.args.self.now c.args.flow c.args.own c.args.cep c.loop-place.place c.is_far_end_at.result c.loop-place.invariant c.is_far_end_at.ensures c.if-is_far_end_at.false
