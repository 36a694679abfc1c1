use Rattle.std.proofs.Common.{arith, ap, ◌∙◌}
use Rattle.rina_plan.specs.declared.dif.FlowPlan.{FlowPlan}
use Rattle.std.proofs.Common.{List, map, ◌++◌}
use Rattle.rina_stack.specs.Rules.{flow_labels}
use Rattle.rina_stack.proofs.Labels.{dif_step}
use Rattle.rina_stack.proofs.duplicates.labels_of.Goals as goal

pub difs-preserved : goal.difs-preserved
difs-preserved c =
    dif_step c.args.difs.now c.difs.dif-index c.dif-item.result c.difs.texts.items c.add_labels.new.texts.items (omega arith) c.dif-item.is c.difs.invariant
    (c.in_ok-add_labels.ensures ∙ ap (λ (fs : List FlowPlan). map (λ t. t.now) c.difs.texts.items ++ flow_labels fs) c.as_slice.ensures)
