use Rattle.std.proofs.Common.{arith}
use Rattle.rina_plan.proofs.Counting.{full_found, full_later, none_full}
use Rattle.rina_plan.proofs.counts.first_of.Goals as goal

pub returns-then-is_full-clause-place : goal.returns-then-is_full-clause-place
returns-then-is_full-clause-place c = full_found c.args.links.now c.args.difs.now c.difs.dif-index c.difs.at c.dif-item.result c.is_full.result _ (omega arith) c.dif-item.is c.is_full.ensures c.if-is_full.true c.difs.invariant.read

pub difs-preserved : goal.difs-preserved
difs-preserved c = record {
  place = omega arith;
  read = full_later c.args.links.now c.args.difs.now c.difs.dif-index c.difs.at c.dif-item.result c.is_full.result _ (omega arith) c.dif-item.is c.is_full.ensures c.if-is_full.false c.difs.invariant.read;
}

pub returns-clause-place : goal.returns-clause-place
returns-clause-place c = none_full c.args.links.now c.args.difs.now c.difs.dif-index c.difs.at _ (omega arith) c.difs.invariant.read
