-- The first text that stands among those before it, found step by step.
use Rattle.std.proofs.Common.{◌≡◌, ℕ, ◌+◌, ◌<◌, ◌≤◌, true, false, List, length, take, drop, get_or, Bor, Option, Some, None, refl, sym, ap, ◌∙◌, arith}
use Rattle.std.proofs.lemmas.Grind.{common_steps}
use Rattle.std.proofs.lemmas.List.{drop_more, drop_all, length-map, get_or-map}
use Rattle.std.specs.Prelude.{is_some}
use Rattle.rina_stack.specs.Rules.{has_text, duplicate_after}
use Rattle.rina_table.proofs.Indexing.{seen}

-- the text at a place stands among those before it
found : (ts : List (List ℕ)) (i : ℕ) (d : List ℕ) → i < length ts → has_text (take i ts) (get_or ts i d) ≡ true → duplicate_after (take i ts) (drop i ts) ≡ Some i
unfolding duplicate_after
found ts i d within here = rw (drop_more ts i d within, here) (grind (arith, common_steps))

-- the text at a place does not stand among those before it
goes_on : (ts : List (List ℕ)) (i : ℕ) (d : List ℕ) → i < length ts → has_text (take i ts) (get_or ts i d) ≡ false → duplicate_after (take i ts) (drop i ts) ≡ duplicate_after (take (i + 1) ts) (drop (i + 1) ts)
unfolding duplicate_after
goes_on ts i d within other = rw (drop_more ts i d within, other) (ap (λ us. duplicate_after us (drop (i + 1) ts)) (grind (arith, common_steps)))

-- no text is left
none : (ts : List (List ℕ)) (i : ℕ) → length ts ≤ i → duplicate_after (take i ts) (drop i ts) ≡ None
unfolding duplicate_after
none ts i past = rw (drop_all i ts past) refl

abbrev pub rest_after : List (Bor (List ℕ)) → ℕ → Option ℕ
rest_after xs i = duplicate_after (take i (seen xs)) (drop i (seen xs))

same_text : (xs : List (Bor (List ℕ))) (i : ℕ) (d : Bor (List ℕ)) → i < length xs → get_or (seen xs) i d.now ≡ (get_or xs i d).now
same_text xs i d within = get_or-map (λ (x : Bor (List ℕ)). x.now) xs i d d.now within

pub duplicate_found : (xs : List (Bor (List ℕ))) (i at : ℕ) (d : Bor (List ℕ)) (old : Option ℕ) (total : Option ℕ) → at ≡ i → i < length xs → is_some old ≡ has_text (take i (seen xs)) (get_or xs i d).now
    → is_some old ≡ true → rest_after xs i ≡ total → Some at ≡ total
duplicate_found xs i at d old total same within test passes so_far =
    let room : i < length (seen xs) = omega (arith, length-map xs (λ (x : Bor (List ℕ)). x.now)) in
    let here : has_text (take i (seen xs)) (get_or (seen xs) i d.now) ≡ true = ap (has_text (take i (seen xs))) (same_text xs i d within) ∙ sym test ∙ passes in
    ap Some same ∙ sym (found (seen xs) i d.now room here) ∙ so_far

pub duplicate_goes_on : (xs : List (Bor (List ℕ))) (i at : ℕ) (d : Bor (List ℕ)) (old : Option ℕ) (total : Option ℕ) → at ≡ i → i < length xs → is_some old ≡ has_text (take i (seen xs)) (get_or xs i d).now
    → is_some old ≡ false → rest_after xs i ≡ total → rest_after xs (i + 1) ≡ total
duplicate_goes_on xs i at d old total same within test fails so_far =
    let room : i < length (seen xs) = omega (arith, length-map xs (λ (x : Bor (List ℕ)). x.now)) in
    let other : has_text (take i (seen xs)) (get_or (seen xs) i d.now) ≡ false = ap (has_text (take i (seen xs))) (same_text xs i d within) ∙ sym test ∙ fails in
    sym (goes_on (seen xs) i d.now room other) ∙ so_far

pub no_duplicate : (xs : List (Bor (List ℕ))) (i : ℕ) (total : Option ℕ) → length xs ≤ i → rest_after xs i ≡ total → None ≡ total
no_duplicate xs i total past so_far =
    let beyond : length (seen xs) ≤ i = omega (arith, length-map xs (λ (x : Bor (List ℕ)). x.now)) in
    sym (none (seen xs) i beyond) ∙ so_far
