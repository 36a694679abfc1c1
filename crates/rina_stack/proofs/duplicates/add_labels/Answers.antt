use Rattle.std.proofs.Common.{arith}
use Rattle.rina_stack.proofs.Labels.{flow_step}
use Rattle.rina_stack.proofs.duplicates.add_labels.Goals as goal

pub flows-preserved : goal.flows-preserved
flows-preserved c =
    rw (c.in_ok-push-2.ensures.items, c.in_ok-push.ensures.items)
    (flow_step _ c.args.flows.now c.flows.flow-index c.flow-item.result c.flows.texts.items c.as_bytes.result c.as_bytes-in-flows.result (omega arith) c.flow-item.is c.as_bytes.ensures c.as_bytes-in-flows.ensures c.flows.invariant)
