use Rattle.std.proofs.Common.{arith}
use Rattle.rina_plan.specs.Links.{is_uncarried}
use Rattle.rina_plan.proofs.Places.{place_found, place_later, no_place}
use Rattle.rina_plan.proofs.links.first_uncarried.Goals as goal

pub returns-then-is_uncarried-clause-place : goal.returns-then-is_uncarried-clause-place
returns-then-is_uncarried-clause-place c = place_found (is_uncarried c.args.wires.now c.args.difs.now) c.args.difs.now c.difs.dif-index c.difs.at c.dif-item.result c.is_uncarried.result (omega arith) c.dif-item.is c.is_uncarried.ensures c.if-is_uncarried.true c.difs.invariant.read

pub difs-preserved : goal.difs-preserved
difs-preserved c = record {
  place = omega arith;
  read = place_later (is_uncarried c.args.wires.now c.args.difs.now) c.args.difs.now c.difs.dif-index c.difs.at c.dif-item.result c.is_uncarried.result (omega arith) c.dif-item.is c.is_uncarried.ensures c.if-is_uncarried.false c.difs.invariant.read;
}

pub returns-clause-place : goal.returns-clause-place
returns-clause-place c = no_place (is_uncarried c.args.wires.now c.args.difs.now) c.args.difs.now c.difs.dif-index c.difs.at (omega arith) c.difs.invariant.read
