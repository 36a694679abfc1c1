-- Lists of links.
use Rattle.std.proofs.Common.{◌≡◌, ℕ, List, slice_set, slice_index_or, ◌∙◌, ap}
use Rattle.std.proofs.lemmas.List.{set-set, set-get_or}

-- what was replaced is put back
pub put_back : {A : Type 0} (was is : List A) (at : ℕ) (old new : A) → is ≡ slice_set was at new → old ≡ slice_index_or was at old → slice_set is at old ≡ was
put_back {A} was is at old new put stood =
    ap (λ (xs : List A). slice_set xs at old) put ∙ set-set was at new old ∙ ap (λ (x : A). slice_set was at x) stood ∙ set-get_or was at old
