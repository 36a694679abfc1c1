-- Copies: places that are the same under each key, and the index of the copied items.
use Rattle.std.proofs.Common.{◌≡◌, ℕ, List, [], ◌∷◌, Option, Result, Ok, Err, refl, sym, ap, ◌∙◌}
use Rattle.std.specs.Prelude.{IfOk, MatchResult}
use Rattle.std.specs.List.{AllZip}
use Rattle.std.specs.Vec.{vec_len}
use Rattle.std.specs.Global.{Vec}
use Rattle.std.specs.Map.{lookup}
use Rattle.std.specs.Ordering.{nat_cmp}
use Rattle.std.specs.Cmp.Lexicographic.{slice_cmp}
use Rattle.std.specs.BTreeMap.{is_at}
use Rattle.rina_newest.specs.Newest.{IsIndexed}
use Rattle.rina_newest.proofs.Index.{Numbered, Placed}
use Rattle.rina_newest.proofs.Places.{Places, place_in}

-- ---- places, copied key by key
same_bytes : (xs ys : List ℕ) → AllZip (λ x y. y ≡ x) xs ys → ys ≡ xs
same_bytes [] [] h = refl
same_bytes [] (y ∷ ys) h = absurd h
same_bytes (x ∷ xs) [] h = absurd h
same_bytes (x ∷ xs) (y ∷ ys) h = ap (λ (b : ℕ). b ∷ ys) h.0 ∙ ap (λ (bs : List ℕ). x ∷ bs) (same_bytes xs ys h.1)

-- a key with its place, and their copy
abbrev pub IsCopy : Vec ℕ × ℕ → Vec ℕ × ℕ → Type 0
IsCopy p q = (AllZip (λ x y. y ≡ x) p.0.items q.0.items × (vec_len q.0 ≡ vec_len p.0)) × (q.1 ≡ p.1)

same_place : (q : List ℕ) (es fs : List (Vec ℕ × ℕ)) → AllZip IsCopy es fs → lookup (is_at (λ k. slice_cmp nat_cmp q k.items)) fs ≡ lookup (is_at (λ k. slice_cmp nat_cmp q k.items)) es
same_place q [] [] h = refl
same_place q [] (f ∷ fs) h = absurd h
same_place q (e ∷ es) [] h = absurd h
same_place q (e ∷ es) (f ∷ fs) h = rw (same_bytes e.0.items f.0.items h.0.0.0, h.0.1, same_place q es fs h.1) refl

pub if_copied : {E : Type 0} (r : Result Places E) (m : Places) (Q : E → Type 0) → MatchResult r (λ n. AllZip IsCopy m.entries n.entries) Q → IfOk r (λ n. (q : List ℕ) → place_in n q ≡ place_in m q)
if_copied (Ok n) m Q h = λ q. same_place q m.entries n.entries h
if_copied (Err e) m Q h = tt

-- ---- the index of the copies
all_placed : (place place' : List ℕ → Option ℕ) → ((q : List ℕ) → place' q ≡ place q) → (es : List Numbered) → Placed place es → Placed place' es
all_placed place place' same [] h = tt
all_placed place place' same (e ∷ es) h = (same e.1.key ∙ h.0, all_placed place place' same es h.1)

pub indexed_again : (place place' : List ℕ → Option ℕ) (es es' : List Numbered) (next : ℕ) → ((q : List ℕ) → place' q ≡ place q) → es' ≡ es → IsIndexed place es next → IsIndexed place' es' next
indexed_again place place' es es' next same is ix = rw is record {
  placed = all_placed place place' same es ix.placed;
  found = λ key s here. ix.found key s (sym (same key) ∙ here);
  below = ix.below;
  rising = ix.rising;
}
