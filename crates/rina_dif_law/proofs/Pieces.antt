-- The pieces of SDUs, by their bytes and by their numbers.
use Rattle.std.proofs.Common.{◌≡◌, ℕ, suc, ◌+◌, ◌-◌, ◌/◌, ◌<◌, ◌≤◌, Bool, false, List, [], ◌∷◌, ◌++◌, append-nil, length, length-append, map, refl, sym, ◌∙◌, ap, arith, inl, inr}
use Rattle.std.proofs.Math.Nat.{add-div_left, div-eq_of_lt}
use Rattle.std.proofs.lemmas.List.Concat.{flat_map-append, flat_map-cons}
use Rattle.rina_law.specs.declared.entry.Entry.{Entry}
use Rattle.rina_law.specs.Constants.{Constants}
use Rattle.rina_law.specs.Direction.{entry_for}
use Rattle.rina_law.specs.Lists.{In}
use Rattle.rina_law.specs.Pieces.{IsCut, Part, Sdu, join}
use Rattle.rina_law.specs.Receiver.{numbers}
use Rattle.rina_law.specs.Sender.{Sender, pieces_for, sender_with}
use Rattle.rina_dif_law.specs.Accounted.{entry_numbers, journal_numbers, pieces_of}
use Rattle.rina_dif_law.specs.Counting.{numbers_from, times, whole_numbers}
use Rattle.rina_dif_law.proofs.Keys.{times_append}

-- How many an SDU has

cut_some : (size : ℕ) (parts : List Part) → 0 < size → IsCut size false parts → 1 ≤ length (join parts)
cut_some size [] some h = absurd h
cut_some size (p ∷ []) some h =
    let here = h.2.some h.0 h.1 in
    let all = length-append p.body [] in
    omega (arith, here, all)
cut_some size (p ∷ q ∷ ps) some h =
    let here = h.2.full h.1 in
    let all = length-append p.body (join (q ∷ ps)) in
    omega (arith, here, all)

pub cut_pieces : (size : ℕ) (begins : Bool) (parts : List Part) → 0 < size → IsCut size begins parts → length parts ≡ pieces_of size (length (join parts))
cut_pieces size begins [] some h = absurd h
cut_pieces size begins (p ∷ []) some h =
    let fits = h.2.fits in
    let all = length-append p.body [] in
    let low : length (join (p ∷ [])) - 1 < size = omega (arith, fits, all) in
    let none : (length (join (p ∷ [])) - 1) / size ≡ 0 = div-eq_of_lt low in
    let goal : 1 ≡ 1 + (length (join (p ∷ [])) - 1) / size = omega (arith, none) in
    goal
cut_pieces size begins (p ∷ q ∷ ps) some h =
    let rest = cut_pieces size false (q ∷ ps) some h.3 in
    let low = cut_some size (q ∷ ps) some h.3 in
    let full = h.2.full h.1 in
    let all = length-append p.body (join (q ∷ ps)) in
    let r : ℕ = length (join (q ∷ ps)) - 1 in
    let is : length (join (p ∷ q ∷ ps)) - 1 ≡ size + r = omega (arith, low, full, all) in
    let step : (size + r) / size ≡ r / size + 1 = add-div_left r some in
    let whole : (length (join (p ∷ q ∷ ps)) - 1) / size ≡ r / size + 1 = ap (λ (n : ℕ). n / size) is ∙ step in
    let more : suc (length (q ∷ ps)) ≡ 1 + (length (join (p ∷ q ∷ ps)) - 1) / size = omega (arith, rest, whole) in
    more

-- What is made of them

pub journal_more : (size : ℕ) (xs ys : List Entry) (n : ℕ) → times n (journal_numbers size (xs ++ ys)) ≡ times n (journal_numbers size xs) + times n (journal_numbers size ys)
journal_more size xs ys n = ap (times n) (flat_map-append (entry_numbers size) xs ys) ∙ times_append n (journal_numbers size xs) (journal_numbers size ys)

pub journal_one : (size : ℕ) (x : Entry) → journal_numbers size (x ∷ []) ≡ entry_numbers size x
journal_one size x = flat_map-cons (entry_numbers size) x [] ∙ append-nil (entry_numbers size x)

-- SDUs that are whole become entries with their numbers
pub whole_journal : (size : ℕ) (c : Constants) (now : ℕ) (whole : List Sdu) → ((sdu : Sdu) → In sdu whole → sdu.pieces ≡ pieces_of size (length sdu.bytes)) → journal_numbers size (map (entry_for c now) whole) ≡ whole_numbers whole
whole_journal size c now [] each = refl
whole_journal size c now (s ∷ ss) each =
    flat_map-cons (entry_numbers size) (entry_for c now s) (map (entry_for c now) ss)
    ∙ ap (λ (n : ℕ). numbers_from s.first n ++ journal_numbers size (map (entry_for c now) ss)) (sym (each s (inl refl)))
    ∙ ap (λ (xs : List ℕ). numbers_from s.first s.pieces ++ xs) (whole_journal size c now ss (λ sdu i. each sdu (inr i)))

-- the pieces that a sender makes are numbered on
pub pieces_numbers : (c : Constants) (now : ℕ) (parts : List Part) (tx : Sender) → numbers (pieces_for c now parts tx) ≡ numbers_from (length tx.run) (length parts)
pieces_numbers c now [] tx = refl
pieces_numbers c now (part ∷ parts) tx =
    let more : length (sender_with c now part tx).run ≡ length tx.run + 1 = length-append tx.run _ in
    ap (λ (xs : List ℕ). length tx.run ∷ xs) (pieces_numbers c now parts (sender_with c now part tx) ∙ ap (λ (n : ℕ). numbers_from n (length parts)) more)
