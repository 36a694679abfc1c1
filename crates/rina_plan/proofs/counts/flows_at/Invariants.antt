use Rattle.std.proofs.Common.{◌≡◌, ◌≤◌, take}
use Rattle.std.specs.Prelude.{count_by}
use Rattle.rina_plan.specs.Counts.{has_flow_end}
use Rattle.rina_plan.proofs.counts.flows_at.Given as goal

abbrev pub invariant-flows : goal.invariant-flows
invariant-flows l = record {
  counted : l.count ≡ count_by (has_flow_end l.node) (take l.flow-index l.flows);
  most : l.count ≤ l.flow-index;
}
