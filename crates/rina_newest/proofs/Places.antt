-- The places of the keys, read by their bytes, after one was given another place.
use Rattle.std.proofs.Common.{◌≡◌, ℕ, true, false, List, Option, Some, Vec, Global, sym, ap, ◌∙◌, subst}
use Rattle.std.specs.Str.{bytes_eq}
use Rattle.std.specs.Map.{lookup, KeepsOthers}
use Rattle.std.specs.Ordering.{nat_cmp, is_eq}
use Rattle.std.specs.Cmp.Lexicographic.{slice_cmp}
use Rattle.std.specs.BTreeMap.{BTreeMap, get_by, is_at, UpdatesBy}
use Rattle.std.proofs.lemmas.Bool.{both_ways}
use Rattle.std.proofs.lemmas.Map.Text.{is_eq-slice_cmp}
use Rattle.rina_newest.specs.Newest.{IsIndexed}
use Rattle.rina_newest.proofs.Index.{Numbered, split, key_same, key_itself}
use Rattle.rina_newest.proofs.Put.{Moves}

abbrev pub Places : Type 0
Places = BTreeMap (Vec ℕ Global) ℕ

abbrev pub place_in : Places → List ℕ → Option ℕ
place_in m q = get_by (λ k. slice_cmp nat_cmp q k.items) m

tests : (q : List ℕ) (k : Vec ℕ Global) → is_at (λ (x : Vec ℕ Global). slice_cmp nat_cmp q x.items) k ≡ bytes_eq q k.items
tests q k = is_eq-slice_cmp q k.items

pub moved : (m n : Places) (key : List ℕ) (next : ℕ) → UpdatesBy (λ x y. slice_cmp nat_cmp x.items y.items) (λ k. slice_cmp nat_cmp key k.items) m n (Some next) → Moves (place_in m) (place_in n) key next
unfolding KeepsOthers
moved m n key next u q =
    split (bytes_eq key q) (λ yes.
    let here : place_in n q ≡ Some next = subst (λ (p : List ℕ). place_in n p ≡ Some next) (key_same key q yes) u.1 in
    rw yes here) (λ no.
    let test : (x : Vec ℕ Global) → is_eq (slice_cmp nat_cmp q x.items) ≡ true → q ≡ x.items = λ x h. key_same q x.items (sym (is_eq-slice_cmp q x.items) ∙ h) in
    let apart : (k : Vec ℕ Global) → is_eq (slice_cmp nat_cmp key k.items) ≡ true → is_eq (slice_cmp nat_cmp q k.items) ≡ false = λ k h.
    let is : key ≡ k.items = key_same key k.items (sym (is_eq-slice_cmp key k.items) ∙ h) in
    split (is_eq (slice_cmp nat_cmp q k.items)) (λ too. absurd (both_ways (bytes_eq key q) no (key_itself key q (is ∙ sym (test k too))))) (λ other. other) in
    let same : place_in n q ≡ place_in m q = u.3 (λ k. is_eq (slice_cmp nat_cmp q k.items)) (λ x y h. ap (λ (p : List ℕ). is_eq (slice_cmp nat_cmp p y.items)) (test x h)) apart in
    rw no same)

-- places that are as they were
pub indexed_same : (m n : Places) (entries : List Numbered) (next : ℕ) → n.entries ≡ m.entries → IsIndexed (place_in m) entries next → IsIndexed (place_in n) entries next
indexed_same m n entries next same ix = subst (λ (es : List (Vec ℕ Global × ℕ)). IsIndexed (λ q. lookup (is_at (λ k. slice_cmp nat_cmp q k.items)) es) entries next) (sym same) ix
