use Rattle.rina_dif.proofs.DeletesIn.{up_not, up_told}
use Rattle.rina_dif.proofs.dif.Dif.is_up_at.Goals as goal

pub returns : goal.returns
returns c = up_told c.args.self.now c.args.own c.args.far c.args.scep c.args.dcep c.args.place c.in-Some-Some.end.now c.in-Some-Some.conn.now c.in-Some-Some.ensures c.in-Some-Some.ensures' c.is_allocated.result c.is_allocated.ensures c.if-not-is_allocated.false c.is_between.result c.is_between.ensures

pub returns-then-not-is_allocated : goal.returns-then-not-is_allocated
returns-then-not-is_allocated c = up_not c.args.self.now c.args.own c.args.far c.args.scep c.args.dcep c.args.place c.in-Some-Some.end.now c.in-Some-Some.conn.now c.in-Some-Some.ensures c.in-Some-Some.ensures' c.is_allocated.result c.is_allocated.ensures c.if-not-is_allocated.true
