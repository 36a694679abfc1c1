use Rattle.std.proofs.Common.{arith}
use Rattle.rina_stack.proofs.Labels.{owner_found, owner_later, no_owner}
use Rattle.rina_stack.proofs.duplicates.owner.Goals as goal

pub returns-then-left-flows-clause-place : goal.returns-then-left-flows-clause-place
returns-then-left-flows-clause-place c = owner_found c.args.difs.now c.difs.dif-index c.difs.number c.difs.left c.len-flows.result c.dif-item.result _ (omega arith) c.dif-item.is c.len-flows.ensures c.if-left-flows.true c.difs.invariant.number c.difs.invariant.read

pub difs-preserved : goal.difs-preserved
difs-preserved c = record {
  number = omega arith;
  read = owner_later c.args.difs.now c.difs.dif-index c.difs.left c.len-flows.result c.dif-item.result _ (omega arith) c.dif-item.is c.len-flows.ensures (omega arith) c.difs.invariant.read;
}

pub returns-clause-place : goal.returns-clause-place
returns-clause-place c = no_owner c.args.difs.now c.difs.dif-index c.difs.left _ (omega arith) c.difs.invariant.read
