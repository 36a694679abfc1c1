-- How many places of a shelf are used.
use Rattle.std.proofs.Common.{◌≡◌, ◌≢◌, ℕ, zero, suc, ◌+◌, ◌%◌, ◌≤◌, List, [], ◌∷◌, length, All, Bool, true, false, ◌&&◌, cond, eqb, get_or, Option, Some, None, is_some, refl, sym, ◌∙◌, ap, subst, arith}
use Rattle.std.specs.List.{count_by}
use Rattle.std.proofs.lemmas.List.Elements.{All-head, All-tail}
use Rattle.std.proofs.lemmas.List.Sums.{sum_by-cons}
use Rattle.rina_dtp.specs.Fetching.{FindsHeld, HasSome}
use Rattle.rina_dtp.specs.Receiving.{held_in}
use Rattle.rina_dtp.specs.Shelf.{IsUnused, Place, Shelved, is_used, no_place, place_at, without}
use Rattle.rina_dtp.proofs.Fetched.{none_held, takes_held}

abbrev one_when : Bool → ℕ
one_when b = cond b 1 0

abbrev one_if : Place → ℕ
one_if p = one_when p.used

one_first : (p : Place) (places : List Place) → count_by is_used (p ∷ places) ≡ one_if p + count_by is_used places
one_first p places = sum_by-cons one_if p places

pub none_used : (places : List Place) → All IsUnused places → count_by is_used places ≡ 0
none_used [] all = refl
none_used (p ∷ places) all =
    let is : p.used ≡ false = All-head IsUnused p places all in
    let none : one_if p ≡ 0 = ap (λ b. one_when b) is in
    let rest : count_by is_used places ≡ 0 = none_used places (All-tail IsUnused p places all) in
    let first = one_first p places in
    omega (arith, none, rest, first)

-- where none is used, no piece is held

not_used : (b : Bool) (rest : ℕ) → one_when b + rest ≡ 0 → b ≡ false
not_used true rest h = absurd (omega (arith, h))
not_used false rest h = refl

unused_at : (places : List Place) (i : ℕ) → count_by is_used places ≡ 0 → (get_or places i no_place).used ≡ false
unused_at [] i none = refl
unused_at (p ∷ places) zero none = not_used p.used (count_by is_used places) (sym (one_first p places) ∙ none)
unused_at (p ∷ places) (suc i) none = (let first = one_first p places in let rest : count_by is_used places ≡ 0 = omega (arith, none, first) in unused_at places i rest)

pub unheld : (s : Shelved) → count_by is_used s.places ≡ 0 → held_in s ≡ []
unheld s none = none_held s (λ i low high. ap (λ b. b && eqb (place_at s.places i).number i) (unused_at s.places (i % length s.places) none))

first_there : (k : ℕ) (ns : List ℕ) → k ∷ ns ≢ []
first_there k ns h = absurd (let l : suc (length ns) ≡ 0 = ap (λ (xs : List ℕ). length xs) h in omega (arith, l))

holds_one : (s t : Shelved) (k : ℕ) → 1 ≤ length s.places → FindsHeld (Some k) s → t ≡ record s { places = without k s.places } → held_in s ≢ []
holds_one s t k some finds is empty = first_there k (held_in t) (sym (takes_held s t k some finds is) ∙ empty)

pub found_any : (s : Shelved) (found : Option ℕ) (b : Bool) → 1 ≤ length s.places → FindsHeld found s → b ≡ is_some found → HasSome (held_in s) b
found_any s None b some finds is = subst (λ x. HasSome (held_in s) x) (sym is) (none_held s finds)
found_any s (Some k) b some finds is = subst (λ x. HasSome (held_in s) x) (sym is) (holds_one s (record s { places = without k s.places }) k some finds refl)
