-- The DIFs of a rank, one after the other.
use Rattle.std.proofs.Common.{◌≡◌, ℕ, ◌+◌, ◌<◌, ◌≤◌, not, suc, Bool, true, false, List, ◌∷◌, drop, filter, get_or, length, slice_get, Some, refl, ap, ◌∙◌, arith}
use Rattle.std.proofs.lemmas.List.{drop_more}
use Rattle.std.proofs.lemmas.List.Filters.{length-filter_both}
use Rattle.rina_plan.specs.declared.dif.DifPlan.{DifPlan}
use Rattle.rina_notes.specs.Sites.{has_rank, names_at}

one_more : (rank : ℕ) (difs : List DifPlan) (i : ℕ) (d : DifPlan) → i < length difs → names_at rank (drop i difs) ≡ names_at rank (get_or difs i d ∷ drop (i + 1) difs)
one_more rank difs i d lt = ap (names_at rank) (drop_more difs i d lt)

-- a DIF of the rank comes first
pub has_it : (rank : ℕ) (difs : List DifPlan) (i : ℕ) (d : DifPlan) → i < length difs → has_rank rank (get_or difs i d) ≡ true → names_at rank (drop i difs) ≡ (get_or difs i d).name ∷ names_at rank (drop (i + 1) difs)
has_it rank difs i d lt is = one_more rank difs i d lt ∙ rw is refl

pub found_here : (rank : ℕ) (difs : List DifPlan) (i : ℕ) (d : DifPlan) → i < length difs → has_rank rank (get_or difs i d) ≡ true → slice_get (names_at rank (drop i difs)) 0 ≡ Some (get_or difs i d).name
found_here rank difs i d lt is = ap (λ ns. slice_get ns 0) (has_it rank difs i d lt is)

pub found_on : (rank : ℕ) (difs : List DifPlan) (i left : ℕ) (d : DifPlan) → i < length difs → has_rank rank (get_or difs i d) ≡ true → slice_get (names_at rank (drop i difs)) (suc left) ≡ slice_get (names_at rank (drop (i + 1) difs)) left
found_on rank difs i left d lt is = ap (λ ns. slice_get ns (suc left)) (has_it rank difs i d lt is)

-- a DIF of another rank comes first
pub skipped : (rank : ℕ) (difs : List DifPlan) (i : ℕ) (d : DifPlan) → i < length difs → has_rank rank (get_or difs i d) ≡ false → names_at rank (drop i difs) ≡ names_at rank (drop (i + 1) difs)
skipped rank difs i d lt is = one_more rank difs i d lt ∙ rw is refl

-- no more pass a test than there are
pub few_pass : {X : Type 0} (p : X → Bool) (xs : List X) → length (filter p xs) ≤ length xs
few_pass p xs = omega (arith, length-filter_both p (λ x. not (p x)) (λ x. refl) xs)
