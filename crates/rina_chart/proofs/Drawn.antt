-- A picture has an arrow for each SDU that arrived and meets the window, and a cross for each that did not arrive and meets it.
use Rattle.std.proofs.Common.{◌≡◌, ℕ, ◌+◌, ◌&&◌, Bool, true, false, cond, List, [], ◌∷◌, ◌++◌, map, Option, Some, None, is_some, is_none, refl, sym, ap, ◌∙◌, arith}
use Rattle.std.specs.List.{count_by}
use Rattle.std.proofs.lemmas.List.Sums.{sum_by-cons, sum_by-append}
use Rattle.rina_chart.specs.declared.frame.Frame.{Frame}
use Rattle.rina_chart.specs.declared.sdu.Sdu.{Sdu}
use Rattle.rina_chart.specs.declared.shape.Shape.{Shape}
use Rattle.rina_chart.specs.Sdus.{meets}
use Rattle.rina_chart.specs.Shapes.{band, begins_beside, is_arrow, is_cross, labelled, lifeline, lifelines_from, picture, sdu_shape, sdu_shapes, shape_by, tick_shape, tick_shapes}

one : (p : Shape → Bool) (s : Shape) (rest : List Shape) → count_by p (s ∷ rest) ≡ cond (p s) 1 0 + count_by p rest
one p s rest = sum_by-cons (λ (x : Shape). cond (p x) 1 0) s rest

both : (p : Shape → Bool) (front rest : List Shape) → count_by p (front ++ rest) ≡ count_by p front + count_by p rest
both p front rest = sum_by-append (λ (x : Shape). cond (p x) 1 0) front rest

one_sdu : (p : Sdu → Bool) (s : Sdu) (rest : List Sdu) → count_by p (s ∷ rest) ≡ cond (p s) 1 0 + count_by p rest
one_sdu p s rest = sum_by-cons (λ (x : Sdu). cond (p x) 1 0) s rest

-- ticks and lifelines are neither arrows nor crosses
no_tick_is_arrow : (frame : Frame) (ticks : List ℕ) → count_by is_arrow (map (tick_shape frame) ticks) ≡ 0
no_tick_is_arrow frame [] = refl
no_tick_is_arrow frame (tick ∷ ticks) = one is_arrow (tick_shape frame tick) (map (tick_shape frame) ticks) ∙ omega (arith, no_tick_is_arrow frame ticks)

no_tick_is_cross : (frame : Frame) (ticks : List ℕ) → count_by is_cross (map (tick_shape frame) ticks) ≡ 0
no_tick_is_cross frame [] = refl
no_tick_is_cross frame (tick ∷ ticks) = one is_cross (tick_shape frame tick) (map (tick_shape frame) ticks) ∙ omega (arith, no_tick_is_cross frame ticks)

no_lifeline_is_arrow : (frame : Frame) (place : ℕ) (nodes : List (List ℕ)) → count_by is_arrow (lifelines_from frame place nodes) ≡ 0
unfolding lifeline
no_lifeline_is_arrow frame place [] = refl
no_lifeline_is_arrow frame place (node ∷ nodes) = one is_arrow (lifeline frame place node) (lifelines_from frame (place + 1) nodes) ∙ omega (arith, no_lifeline_is_arrow frame (place + 1) nodes)

no_lifeline_is_cross : (frame : Frame) (place : ℕ) (nodes : List (List ℕ)) → count_by is_cross (lifelines_from frame place nodes) ≡ 0
unfolding lifeline
no_lifeline_is_cross frame place [] = refl
no_lifeline_is_cross frame place (node ∷ nodes) = one is_cross (lifeline frame place node) (lifelines_from frame (place + 1) nodes) ∙ omega (arith, no_lifeline_is_cross frame (place + 1) nodes)

-- the shape of one SDU
arrow_by : (m : Bool) (frame : Frame) (below : ℕ) (s : Sdu) (got : Option ℕ) (rest : List Shape) → count_by is_arrow (cond m (shape_by frame below s got ∷ []) [] ++ rest) ≡ cond (m && is_some got) 1 0 + count_by is_arrow rest
arrow_by false frame below s got rest = omega arith
arrow_by true frame below s None rest = one is_arrow (shape_by frame below s None) rest
arrow_by true frame below s (Some tick) rest = one is_arrow (shape_by frame below s (Some tick)) rest

cross_by : (m : Bool) (frame : Frame) (below : ℕ) (s : Sdu) (got : Option ℕ) (rest : List Shape) → count_by is_cross (cond m (shape_by frame below s got ∷ []) [] ++ rest) ≡ cond (m && is_none got) 1 0 + count_by is_cross rest
cross_by false frame below s got rest = omega arith
cross_by true frame below s None rest = one is_cross (shape_by frame below s None) rest
cross_by true frame below s (Some tick) rest = one is_cross (shape_by frame below s (Some tick)) rest

arrows_of : (frame : Frame) (ss : List Sdu) → count_by is_arrow (sdu_shapes frame ss) ≡ count_by (λ (s : Sdu). meets frame.window s && is_some s.got) ss
unfolding sdu_shape
arrows_of frame [] = refl
arrows_of frame (s ∷ later) = arrow_by (meets frame.window s) frame (count_by (begins_beside frame.window s) later) s s.got (sdu_shapes frame later) ∙ ap (λ n. cond (meets frame.window s && is_some s.got) 1 0 + n) (arrows_of frame later) ∙ sym (one_sdu (λ (x : Sdu). meets frame.window x && is_some x.got) s later)

crosses_of : (frame : Frame) (ss : List Sdu) → count_by is_cross (sdu_shapes frame ss) ≡ count_by (λ (s : Sdu). meets frame.window s && is_none s.got) ss
unfolding sdu_shape
crosses_of frame [] = refl
crosses_of frame (s ∷ later) = cross_by (meets frame.window s) frame (count_by (begins_beside frame.window s) later) s s.got (sdu_shapes frame later) ∙ ap (λ n. cond (meets frame.window s && is_none s.got) 1 0 + n) (crosses_of frame later) ∙ sym (one_sdu (λ (x : Sdu). meets frame.window x && is_none x.got) s later)

pub arrows_drawn : (frame : Frame) (nodes : List (List ℕ)) (ss : List Sdu) → count_by is_arrow (picture frame nodes ss) ≡ count_by (λ (s : Sdu). meets frame.window s && is_some s.got) ss
unfolding tick_shapes
arrows_drawn frame nodes ss =
    let lanes = lifelines_from frame 0 nodes in
    let a : count_by is_arrow (picture frame nodes ss) ≡ count_by is_arrow (tick_shapes frame ++ sdu_shapes frame ss) + count_by is_arrow (band frame ∷ lanes) = both is_arrow (tick_shapes frame ++ sdu_shapes frame ss) (band frame ∷ lanes) in
    let b : count_by is_arrow (tick_shapes frame ++ sdu_shapes frame ss) ≡ count_by is_arrow (tick_shapes frame) + count_by is_arrow (sdu_shapes frame ss) = both is_arrow (tick_shapes frame) (sdu_shapes frame ss) in
    let d : count_by is_arrow (band frame ∷ lanes) ≡ 0 + count_by is_arrow lanes = one is_arrow (band frame) lanes in
    let e : count_by is_arrow lanes ≡ 0 = no_lifeline_is_arrow frame 0 nodes in
    let f : count_by is_arrow (tick_shapes frame) ≡ 0 = no_tick_is_arrow frame (labelled frame.window) in
    let all : count_by is_arrow (picture frame nodes ss) ≡ count_by is_arrow (sdu_shapes frame ss) = omega (arith, a, b, d, e, f) in
    all ∙ arrows_of frame ss

pub crosses_drawn : (frame : Frame) (nodes : List (List ℕ)) (ss : List Sdu) → count_by is_cross (picture frame nodes ss) ≡ count_by (λ (s : Sdu). meets frame.window s && is_none s.got) ss
unfolding tick_shapes
crosses_drawn frame nodes ss =
    let lanes = lifelines_from frame 0 nodes in
    let a : count_by is_cross (picture frame nodes ss) ≡ count_by is_cross (tick_shapes frame ++ sdu_shapes frame ss) + count_by is_cross (band frame ∷ lanes) = both is_cross (tick_shapes frame ++ sdu_shapes frame ss) (band frame ∷ lanes) in
    let b : count_by is_cross (tick_shapes frame ++ sdu_shapes frame ss) ≡ count_by is_cross (tick_shapes frame) + count_by is_cross (sdu_shapes frame ss) = both is_cross (tick_shapes frame) (sdu_shapes frame ss) in
    let d : count_by is_cross (band frame ∷ lanes) ≡ 0 + count_by is_cross lanes = one is_cross (band frame) lanes in
    let e : count_by is_cross lanes ≡ 0 = no_lifeline_is_cross frame 0 nodes in
    let f : count_by is_cross (tick_shapes frame) ≡ 0 = no_tick_is_cross frame (labelled frame.window) in
    let all : count_by is_cross (picture frame nodes ss) ≡ count_by is_cross (sdu_shapes frame ss) = omega (arith, a, b, d, e, f) in
    all ∙ crosses_of frame ss
