use Rattle.std.proofs.Common.{arith}
use Rattle.rina_plan.specs.Difs.{has_unfit_pdu}
use Rattle.rina_plan.proofs.Places.{place_found, place_later, no_place}
use Rattle.rina_plan.proofs.difs.first_with_unfit_pdu.Goals as goal

pub returns-then-has_unfit_pdu-clause-place : goal.returns-then-has_unfit_pdu-clause-place
returns-then-has_unfit_pdu-clause-place c = place_found has_unfit_pdu c.args.difs.now c.difs.dif-index c.difs.at c.dif-item.result c.has_unfit_pdu.result (omega arith) c.dif-item.is c.has_unfit_pdu.ensures c.if-has_unfit_pdu.true c.difs.invariant.read

pub difs-preserved : goal.difs-preserved
difs-preserved c = record {
  place = omega arith;
  read = place_later has_unfit_pdu c.args.difs.now c.difs.dif-index c.difs.at c.dif-item.result c.has_unfit_pdu.result (omega arith) c.dif-item.is c.has_unfit_pdu.ensures c.if-has_unfit_pdu.false c.difs.invariant.read;
}

pub returns-clause-place : goal.returns-clause-place
returns-clause-place c = no_place has_unfit_pdu c.args.difs.now c.difs.dif-index c.difs.at (omega arith) c.difs.invariant.read
