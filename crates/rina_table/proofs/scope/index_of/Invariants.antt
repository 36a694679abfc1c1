use Rattle.std.proofs.Common.{◌≡◌, ◌≤◌, ◌+◌, ℕ, List, length, map, drop}
use Rattle.std.specs.Prelude.{option_map}
use Rattle.std.specs.BTreeMap.{get_by}
use Rattle.std.specs.Ordering.{nat_cmp}
use Rattle.std.specs.Cmp.Lexicographic.{slice_cmp}
use Rattle.rina_table.specs.Names.{place_in}
use Rattle.rina_table.proofs.scope.index_of.Given as goal

abbrev pub invariant-loop-at : goal.invariant-loop-at
invariant-loop-at l = record {
  place : l.at ≤ length l.texts;
  found : (q : List ℕ) → get_by (λ k. slice_cmp nat_cmp q k.now) l.index ≡ option_map (λ i. i + l.at) (place_in (drop l.at (map (λ t. t.now) l.texts)) q);
}

abbrev pub decreases-loop-at : goal.decreases-loop-at
decreases-loop-at l = l.at
