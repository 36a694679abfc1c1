use Rattle.std.proofs.Common.{arith}
use Rattle.rina_plan.specs.Difs.{lacks_lower}
use Rattle.rina_plan.proofs.Places.{place_found, place_later, no_place}
use Rattle.rina_plan.proofs.difs.first_without_lower.Goals as goal

pub returns-then-lacks_lower-clause-place : goal.returns-then-lacks_lower-clause-place
returns-then-lacks_lower-clause-place c = place_found (lacks_lower c.args.difs.now) c.args.difs.now c.difs.dif-index c.difs.at c.dif-item.result c.lacks_lower.result (omega arith) c.dif-item.is c.lacks_lower.ensures c.if-lacks_lower.true c.difs.invariant.read

pub difs-preserved : goal.difs-preserved
difs-preserved c = record {
  place = omega arith;
  read = place_later (lacks_lower c.args.difs.now) c.args.difs.now c.difs.dif-index c.difs.at c.dif-item.result c.lacks_lower.result (omega arith) c.dif-item.is c.lacks_lower.ensures c.if-lacks_lower.false c.difs.invariant.read;
}

pub returns-clause-place : goal.returns-clause-place
returns-clause-place c = no_place (lacks_lower c.args.difs.now) c.args.difs.now c.difs.dif-index c.difs.at (omega arith) c.difs.invariant.read
