use Rattle.std.proofs.Common.{arith}
use Rattle.rina_plan.specs.Difs.{has_oversized}
use Rattle.rina_plan.proofs.Places.{place_found, place_later, no_place}
use Rattle.rina_plan.proofs.difs.first_oversized.Goals as goal

pub returns-then-has_oversized-clause-place : goal.returns-then-has_oversized-clause-place
returns-then-has_oversized-clause-place c = place_found has_oversized c.args.difs.now c.difs.dif-index c.difs.at c.dif-item.result c.has_oversized.result (omega arith) c.dif-item.is c.has_oversized.ensures c.if-has_oversized.true c.difs.invariant.read

pub difs-preserved : goal.difs-preserved
difs-preserved c = record {
  place = omega arith;
  read = place_later has_oversized c.args.difs.now c.difs.dif-index c.difs.at c.dif-item.result c.has_oversized.result (omega arith) c.dif-item.is c.has_oversized.ensures c.if-has_oversized.false c.difs.invariant.read;
}

pub returns-clause-place : goal.returns-clause-place
returns-clause-place c = no_place has_oversized c.args.difs.now c.difs.dif-index c.difs.at (omega arith) c.difs.invariant.read
