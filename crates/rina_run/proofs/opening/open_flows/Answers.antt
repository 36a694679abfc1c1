use Rattle.std.proofs.Common.{arith, sym}
use Rattle.rina_run.proofs.Opens.{flows_more}
use Rattle.rina_run.proofs.opening.open_flows.Goals as goal

pub flows-preserved : goal.flows-preserved
flows-preserved c = record {
  place = omega (arith, c.flows.invariant.place);
  labels = λ t fac is. flows_more t c.args.rank fac c.args.first c.flows.place c.args.flows.now c.flows.flow-index c.flow-item.result c.args.labels.now c.flows.labels c.open_flow.new.labels c.flows-test.true c.flows.invariant.place (c.flows.invariant.labels t fac is) (rw (sym c.flow-item.is) (c.in_ok-open_flow.ensures t fac is));
}
