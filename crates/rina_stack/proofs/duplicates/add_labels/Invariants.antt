use Rattle.std.proofs.Common.{◌≡◌, ◌++◌, map, take}
use Rattle.rina_stack.specs.Rules.{flow_labels}
use Rattle.rina_stack.proofs.duplicates.add_labels.Given as goal

abbrev pub invariant-flows : goal.invariant-flows
invariant-flows l = map (λ t. t.now) l.texts.items ≡ map (λ t. t.now) l.initial.texts.items ++ flow_labels (take l.flow-index l.flows)
