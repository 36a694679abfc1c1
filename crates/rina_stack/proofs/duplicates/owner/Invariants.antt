use Rattle.std.proofs.Common.{◌≡◌, ◌+◌, drop}
use Rattle.std.specs.Prelude.{option_map}
use Rattle.rina_stack.specs.Rules.{owner_of}
use Rattle.rina_stack.proofs.duplicates.owner.Given as goal

abbrev pub invariant-difs : goal.invariant-difs
invariant-difs l = record {
  number : l.number ≡ l.dif-index;
  read : option_map (λ i. i + l.dif-index) (owner_of l.left (drop l.dif-index l.difs)) ≡ owner_of l.at l.difs;
}
