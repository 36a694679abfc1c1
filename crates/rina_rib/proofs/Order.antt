-- A walk passes names in their order.
use Rattle.std.proofs.Common.{◌≡◌, ℕ, List, [], ◌∷◌}
use Rattle.std.specs.List.{AllByRecursion}
use Rattle.std.specs.Global.{Vec}
use Rattle.std.specs.declared.cmp.Ordering.TheVariants.{Less}
use Rattle.std.specs.List.Sorted.{IsStrictlySortedBy}
use Rattle.std.specs.Map.{keys_of}
use Rattle.std.proofs.lemmas.Bool.{cond_both}
use Rattle.rina_rib.specs.Names.{is_within}
use Rattle.rina_rib.specs.Objects.{Named, name_cmp, seen, AreInOrder}
use Rattle.rina_rib.specs.Walks.{within}
use Rattle.rina_rib.proofs.Seen.{Entries, vec_cmp}

all_within : (under k : List ℕ) (es : Entries) → AllByRecursion (λ (y : Vec ℕ). name_cmp k y.items ≡ Less) (keys_of es) → AllByRecursion (λ y. name_cmp k y ≡ Less) (keys_of (within under (seen es)))
all_within under k [] h = tt
all_within under k (e ∷ es) h =
    let rest = all_within under k es h.1 in
    cond_both (is_within under e.0.items) ((e.0.items, e.1) ∷ within under (seen es)) (within under (seen es)) (λ (xs : List Named). AllByRecursion (λ y. name_cmp k y ≡ Less) (keys_of xs)) (λ _. (h.0, rest)) (λ _. rest)

pub in_order : (under : List ℕ) (es : Entries) → IsStrictlySortedBy vec_cmp (keys_of es) → AreInOrder (within under (seen es))
unfolding IsStrictlySortedBy
in_order under [] h = tt
in_order under (e ∷ es) h =
    let rest = in_order under es h.1 in
    cond_both (is_within under e.0.items) ((e.0.items, e.1) ∷ within under (seen es)) (within under (seen es)) (λ (xs : List Named). AreInOrder xs) (λ _. (all_within under e.0.items es h.0, rest)) (λ _. rest)
