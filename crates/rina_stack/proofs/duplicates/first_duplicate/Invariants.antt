use Rattle.std.proofs.Common.{◌≡◌, ℕ, List, map, take, drop}
use Rattle.std.specs.Prelude.{is_some}
use Rattle.std.specs.BTreeMap.{get_by}
use Rattle.std.specs.Ordering.{nat_cmp}
use Rattle.std.specs.Cmp.Lexicographic.{slice_cmp}
use Rattle.rina_stack.specs.Rules.{has_text, duplicate_after, duplicate_in}
use Rattle.rina_stack.proofs.duplicates.first_duplicate.Given as goal

abbrev pub invariant-texts : goal.invariant-texts
invariant-texts l = record {
  place : l.at ≡ l.text-index;
  known : (q : List ℕ) → is_some (get_by (λ k. slice_cmp nat_cmp q k.now) l.seen) ≡ has_text (take l.text-index (map (λ t. t.now) l.texts)) q;
  read : duplicate_after (take l.text-index (map (λ t. t.now) l.texts)) (drop l.text-index (map (λ t. t.now) l.texts)) ≡ duplicate_in (map (λ t. t.now) l.texts);
}
