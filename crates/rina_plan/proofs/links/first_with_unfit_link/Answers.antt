use Rattle.std.proofs.Common.{arith}
use Rattle.rina_plan.specs.Links.{has_unfit_link}
use Rattle.rina_plan.proofs.Places.{place_found, place_later, no_place}
use Rattle.rina_plan.proofs.links.first_with_unfit_link.Goals as goal

pub returns-then-has_unfit_link-clause-place : goal.returns-then-has_unfit_link-clause-place
returns-then-has_unfit_link-clause-place c = place_found (has_unfit_link c.args.wires.now c.args.difs.now) c.args.difs.now c.difs.dif-index c.difs.at c.dif-item.result c.has_unfit_link.result (omega arith) c.dif-item.is c.has_unfit_link.ensures c.if-has_unfit_link.true c.difs.invariant.read

pub difs-preserved : goal.difs-preserved
difs-preserved c = record {
  place = omega arith;
  read = place_later (has_unfit_link c.args.wires.now c.args.difs.now) c.args.difs.now c.difs.dif-index c.difs.at c.dif-item.result c.has_unfit_link.result (omega arith) c.dif-item.is c.has_unfit_link.ensures c.if-has_unfit_link.false c.difs.invariant.read;
}

pub returns-clause-place : goal.returns-clause-place
returns-clause-place c = no_place (has_unfit_link c.args.wires.now c.args.difs.now) c.args.difs.now c.difs.dif-index c.difs.at (omega arith) c.difs.invariant.read
