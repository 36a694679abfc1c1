use Rattle.std.proofs.Common.{arith}
use Rattle.rina_plan.specs.Difs.{is_misplaced}
use Rattle.rina_plan.proofs.Places.{place_found, place_later, no_place}
use Rattle.rina_plan.proofs.once.first_misplaced.Goals as goal

pub returns-then-misplaced : goal.returns-then-misplaced
returns-then-misplaced c = place_found is_misplaced c.args.difs.now c.difs.dif-index c.difs.at c.dif-item.result c.in_ok-misplaced.misplaced (omega arith) c.dif-item.is c.in_ok-misplaced.ensures c.if-misplaced.true c.difs.invariant.read

pub difs-preserved : goal.difs-preserved
difs-preserved c = record {
  place = omega arith;
  read = place_later is_misplaced c.args.difs.now c.difs.dif-index c.difs.at c.dif-item.result c.in_ok-misplaced.misplaced (omega arith) c.dif-item.is c.in_ok-misplaced.ensures c.if-misplaced.false c.difs.invariant.read;
}

pub returns : goal.returns
returns c = no_place is_misplaced c.args.difs.now c.difs.dif-index c.difs.at (omega arith) c.difs.invariant.read
