use Rattle.std.proofs.Common.{◌≡◌, ◌≤◌, ◌==◌, ℕ, length, drop}
use Rattle.std.specs.List.{list_any}
use Rattle.std.specs.Prelude.{is_some}
use Rattle.std.specs.BTreeMap.{get_by}
use Rattle.std.specs.Ordering.{nat_cmp}
use Rattle.rina_plan.specs.Difs.{has_twice}
use Rattle.rina_plan.proofs.once.has_twice.Given as goal

abbrev pub invariant-loop-at : goal.invariant-loop-at
invariant-loop-at l = record {
  place : l.at ≤ length l.numbers;
  known : (q : ℕ) → is_some (get_by (λ k. nat_cmp q k) l.seen) ≡ list_any (λ y. y == q) (drop l.at l.numbers);
  read : l.twice ≡ has_twice (drop l.at l.numbers);
}

abbrev pub decreases-loop-at : goal.decreases-loop-at
decreases-loop-at l = l.at
