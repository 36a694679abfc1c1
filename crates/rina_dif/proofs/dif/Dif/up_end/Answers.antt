use Rattle.std.proofs.Common.{arith}
use Rattle.rina_dif.proofs.DeletesIn.{first_up, next_up, none_up}
use Rattle.rina_dif.proofs.dif.Dif.up_end.Goals as goal

pub returns-then-is_up_at : goal.returns-then-is_up_at
returns-then-is_up_at c = first_up c.args.self.now c.args.own c.args.far c.args.scep c.args.dcep c.loop-place.place c.is_up_at.result c.is_up_at.ensures c.if-is_up_at.true c.loop-place.invariant

pub loop-place-preserved : goal.loop-place-preserved
loop-place-preserved c = next_up c.args.self.now c.args.own c.args.far c.args.scep c.args.dcep c.loop-place.place c.is_up_at.result c.is_up_at.ensures c.if-is_up_at.false c.loop-place.invariant

pub returns : goal.returns
returns c = none_up c.args.self.now c.args.own c.args.far c.args.scep c.args.dcep c.loop-place.place (omega arith) c.loop-place.invariant
