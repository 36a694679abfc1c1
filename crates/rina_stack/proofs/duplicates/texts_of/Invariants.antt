use Rattle.std.proofs.Common.{◌≡◌, map, take}
use Rattle.rina_stack.proofs.duplicates.texts_of.Given as goal

abbrev pub invariant-names : goal.invariant-names
invariant-names l = map (λ t. t.now) l.texts.items ≡ take l.name-index (l.names)
