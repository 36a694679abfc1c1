use Rattle.std.proofs.Common.{arith}
use Rattle.rina_plan.specs.Difs.{lacks_cubes}
use Rattle.rina_plan.proofs.Places.{place_found, place_later, no_place}
use Rattle.rina_plan.proofs.once.first_without_cubes.Goals as goal

pub returns-then-lacks : goal.returns-then-lacks
returns-then-lacks c = place_found lacks_cubes c.args.difs.now c.difs.dif-index c.difs.at c.dif-item.result c.in_ok-lacks.lacks (omega arith) c.dif-item.is c.in_ok-lacks.ensures c.if-lacks.true c.difs.invariant.read

pub difs-preserved : goal.difs-preserved
difs-preserved c = record {
  place = omega arith;
  read = place_later lacks_cubes c.args.difs.now c.difs.dif-index c.difs.at c.dif-item.result c.in_ok-lacks.lacks (omega arith) c.dif-item.is c.in_ok-lacks.ensures c.if-lacks.false c.difs.invariant.read;
}

pub returns : goal.returns
returns c = no_place lacks_cubes c.args.difs.now c.difs.dif-index c.difs.at (omega arith) c.difs.invariant.read
