-- Shapes that are added one after the other.
use Rattle.std.proofs.Common.{◌≡◌, ℕ, ◌+◌, ◌-◌, ◌<◌, suc, min, List, [], ◌∷◌, ◌++◌, length, map, drop, get_or, sym, ap, ◌∙◌, append_assoc, arith}
use Rattle.std.proofs.lemmas.List.{drop_more}
use Rattle.rina_chart.specs.declared.frame.Frame.{Frame}
use Rattle.rina_chart.specs.declared.sdu.Sdu.{Sdu}
use Rattle.rina_chart.specs.declared.shape.Shape.{Shape}
use Rattle.rina_chart.specs.Shapes.{lifeline, lifelines_from, one_shape, sdu_shapes, tick_shape, ticks_from}

-- the shape of one more SDU was added, where it has one
pub sdu_on : (frame : Frame) (ss : List Sdu) (i : ℕ) (d : Sdu) (front total : List Shape) → i < length ss → front ++ sdu_shapes frame (drop i ss) ≡ total
    → (front ++ one_shape frame (get_or ss i d) (drop (i + 1) ss)) ++ sdu_shapes frame (drop (i + 1) ss) ≡ total
sdu_on frame ss i d front total lt so_far =
    let later = drop (i + 1) ss in
    append_assoc front (one_shape frame (get_or ss i d) later) (sdu_shapes frame later) ∙ sym (ap (λ (rest : List Sdu). front ++ sdu_shapes frame rest) (drop_more ss i d lt)) ∙ so_far

-- one more tick
pub ticks_on : (step tick count k : ℕ) → k < count → ticks_from step tick (count - k) ≡ tick ∷ ticks_from step (min (tick + step) 4294967295) (count - (k + 1))
ticks_on step tick count k lt =
    let one : count - k ≡ suc (count - (k + 1)) = omega arith in
    ap (ticks_from step tick) one

-- the line of one more tick was added
pub tick_on : (frame : Frame) (step tick count k : ℕ) (front total : List Shape) → k < count → front ++ map (tick_shape frame) (ticks_from step tick (count - k)) ≡ total
    → (front ++ tick_shape frame tick ∷ []) ++ map (tick_shape frame) (ticks_from step (min (tick + step) 4294967295) (count - (k + 1))) ≡ total
tick_on frame step tick count k front total lt so_far =
    let rest = map (tick_shape frame) (ticks_from step (min (tick + step) 4294967295) (count - (k + 1))) in
    append_assoc front (tick_shape frame tick ∷ []) rest ∙ sym (ap (λ (ts : List ℕ). front ++ map (tick_shape frame) ts) (ticks_on step tick count k lt)) ∙ so_far

-- one more lifeline was added
pub lifeline_on : (frame : Frame) (nodes : List (List ℕ)) (i : ℕ) (d : List ℕ) (front total : List Shape) → i < length nodes → front ++ lifelines_from frame i (drop i nodes) ≡ total
    → (front ++ lifeline frame i (get_or nodes i d) ∷ []) ++ lifelines_from frame (i + 1) (drop (i + 1) nodes) ≡ total
lifeline_on frame nodes i d front total lt so_far =
    let node = get_or nodes i d in
    append_assoc front (lifeline frame i node ∷ []) (lifelines_from frame (i + 1) (drop (i + 1) nodes)) ∙ sym (ap (λ (ns : List (List ℕ)). front ++ lifelines_from frame i ns) (drop_more nodes i d lt)) ∙ so_far
