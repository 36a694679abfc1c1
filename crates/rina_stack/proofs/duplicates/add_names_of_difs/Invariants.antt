use Rattle.std.proofs.Common.{◌≡◌, ◌++◌, map, take}
use Rattle.rina_stack.specs.Rules.{dif_names}
use Rattle.rina_stack.proofs.duplicates.add_names_of_difs.Given as goal

abbrev pub invariant-difs : goal.invariant-difs
invariant-difs l = map (λ t. t.now) l.names.items ≡ map (λ t. t.now) l.initial.names.items ++ dif_names (take l.dif-index l.difs)
