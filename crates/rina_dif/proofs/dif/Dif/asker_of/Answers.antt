use Rattle.std.proofs.Common.{arith}
use Rattle.rina_dif.proofs.FarLooks.{asked_nowhere, one_more_asks}
use Rattle.rina_dif.proofs.dif.Dif.asker_of.Goals as goal

pub returns : goal.returns
returns c = asked_nowhere c.args.self.now c.args.own c.args.from c.args.ask.now c.loop-place.place (omega arith) c.loop-place.invariant

pub loop-place-preserved : goal.loop-place-preserved
loop-place-preserved c = one_more_asks c.args.self.now c.args.own c.args.from c.args.ask.now c.loop-place.place c.is_asker_of.result c.loop-place.invariant c.is_asker_of.ensures c.if-is_asker_of.false
