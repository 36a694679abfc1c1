-- Bytes and lifelines that are added one after the other.
use Rattle.std.proofs.Common.{◌≡◌, ℕ, ◌+◌, ◌<◌, List, [], ◌∷◌, ◌++◌, length, drop, replicate, sym, ap, ◌∙◌, append_assoc}
use Rattle.std.proofs.lemmas.List.{drop_more, replicate_more}
use Rattle.rina_chart.specs.declared.lane.Stroke.{Stroke}
use Rattle.rina_chart.specs.Lanes.{cell, cells_from}

-- a byte was added once more
pub times_on : (front text : List ℕ) (n b : ℕ) → text ≡ front ++ replicate n b → text ++ b ∷ [] ≡ front ++ replicate (n + 1) b
times_on front text n b so_far = ap (λ (bs : List ℕ). bs ++ b ∷ []) so_far ∙ append_assoc front (replicate n b) (b ∷ []) ∙ ap (λ (bs : List ℕ). front ++ bs) (replicate_more n b)

-- one more lifeline was added
pub cell_on : (width : ℕ) (stroke : Stroke) (nodes : List (List ℕ)) (i : ℕ) (d : List ℕ) (front total : List ℕ) → i < length nodes → front ++ cells_from width stroke i (drop i nodes) ≡ total
    → (front ++ cell width stroke i) ++ cells_from width stroke (i + 1) (drop (i + 1) nodes) ≡ total
cell_on width stroke nodes i d front total lt so_far =
    append_assoc front (cell width stroke i) (cells_from width stroke (i + 1) (drop (i + 1) nodes)) ∙ sym (ap (λ (ns : List (List ℕ)). front ++ cells_from width stroke i ns) (drop_more nodes i d lt)) ∙ so_far
