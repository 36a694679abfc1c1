use Rattle.std.proofs.Common.{◌≡◌, map, take}
use Rattle.rina_stack.specs.Rules.{labels}
use Rattle.rina_stack.proofs.duplicates.labels_of.Given as goal

abbrev pub invariant-difs : goal.invariant-difs
invariant-difs l = map (λ t. t.now) l.texts.items ≡ labels (take l.dif-index l.difs)
