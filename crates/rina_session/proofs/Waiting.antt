-- The ids that wait, after one was added or taken away.
use Rattle.std.proofs.Common.{◌≡◌, ◌||◌, ◌&&◌, ◌++◌, ℕ, Bool, true, false, not, cond, List, [], ◌∷◌, refl, sym, ap, ◌∙◌, arith}
use Rattle.std.specs.Prelude.{nat_eq}
use Rattle.std.specs.List.{list_any}
use Rattle.std.proofs.lemmas.Bool.{or_parts}
use Rattle.std.proofs.lemmas.Bool.Decides.{nat_tests}
use Rattle.std.proofs.lemmas.List.Folds.{list_any-append}
use Rattle.indexmap.specs.IndexSet.{insert_key, remove_key}

-- no id stands twice
abbrev pub AreOnce : List ℕ → Type 0
AreOnce [] = Unit {0}
AreOnce (x ∷ xs) = (list_any (nat_eq x) xs ≡ false) × AreOnce xs

same : (a b : ℕ) → nat_eq a b ≡ true → a ≡ b
same a b h = grind (arith, nat_tests)

is_same : (a : ℕ) → nat_eq a a ≡ true
is_same a = grind (arith, nat_tests)

turned : (a b : ℕ) → nat_eq a b ≡ nat_eq b a
turned a b = grind (arith, nat_tests)

or_false : (b : Bool) → (b || false) ≡ b
or_false true = refl
or_false false = refl

or_turned : (a b : Bool) → (a || b) ≡ (b || a)
or_turned true true = refl
or_turned true false = refl
or_turned false true = refl
or_turned false false = refl

covered : (q k : ℕ) (ks : List ℕ) (b : Bool) → list_any (nat_eq k) ks ≡ true → nat_eq q k ≡ b → list_any (nat_eq q) ks ≡ (b || list_any (nat_eq q) ks)
covered q k ks true there is = (let one : q ≡ k = same q k is in ap (λ (z : ℕ). list_any (nat_eq z) ks) one ∙ there)
covered q k ks false there is = refl

any_added : (q k : ℕ) (ks : List ℕ) (b : Bool) → list_any (nat_eq k) ks ≡ b → list_any (nat_eq q) (cond b ks (ks ++ k ∷ [])) ≡ (nat_eq q k || list_any (nat_eq q) ks)
any_added q k ks true is = covered q k ks (nat_eq q k) is refl
any_added q k ks false is = list_any-append (nat_eq q) ks (k ∷ []) ∙ ap (λ (b : Bool). list_any (nat_eq q) ks || b) (or_false (nat_eq q k)) ∙ or_turned (list_any (nat_eq q) ks) (nat_eq q k)

-- an id that was added waits, and the others wait as before
pub any_inserted : (q k : ℕ) (ks : List ℕ) → list_any (nat_eq q) (insert_key nat_eq ks k) ≡ (nat_eq q k || list_any (nat_eq q) ks)
any_inserted q k ks = any_added q k ks (list_any (nat_eq k) ks) refl

parts_of : (a b : Bool) → (a || b) ≡ false → (a ≡ false) × (b ≡ false)
parts_of a b h = or_parts a b h

both_false : (a b : Bool) → a ≡ false → b ≡ false → (a || b) ≡ false
both_false a b h g = (ap (λ (c : Bool). c || b) h ∙ g)

once_last : (k : ℕ) (ks : List ℕ) → AreOnce ks → list_any (nat_eq k) ks ≡ false → AreOnce (ks ++ k ∷ [])
once_last k [] h none = (refl, tt)
once_last k (x ∷ xs) h none =
    let (other, rest) = parts_of (nat_eq k x) (list_any (nat_eq k) xs) none in
    let apart : nat_eq x k ≡ false = turned x k ∙ other in
    (list_any-append (nat_eq x) xs (k ∷ []) ∙ both_false (list_any (nat_eq x) xs) (list_any (nat_eq x) (k ∷ [])) h.0 (or_false (nat_eq x k) ∙ apart), once_last k xs h.1 rest)

once_added : (k : ℕ) (ks : List ℕ) (b : Bool) → AreOnce ks → list_any (nat_eq k) ks ≡ b → AreOnce (cond b ks (ks ++ k ∷ []))
once_added k ks true h is = h
once_added k ks false h is = once_last k ks h is

pub once_inserted : (k : ℕ) (ks : List ℕ) → AreOnce ks → AreOnce (insert_key nat_eq ks k)
once_inserted k ks h = once_added k ks (list_any (nat_eq k) ks) h refl

taken_first : (q k x : ℕ) (xs : List ℕ) (b : Bool) → list_any (nat_eq x) xs ≡ false → nat_eq k x ≡ true → nat_eq q x ≡ b → list_any (nat_eq q) xs ≡ ((b || list_any (nat_eq q) xs) && not (nat_eq k q))
taken_first q k x xs true none here is =
    let one : q ≡ x = same q x is in
    let it : k ≡ x = same k x here in
    let gone : list_any (nat_eq q) xs ≡ false = ap (λ (z : ℕ). list_any (nat_eq z) xs) one ∙ none in
    let all : not (nat_eq k q) ≡ false = ap (λ (z : ℕ). not (nat_eq z q)) (it ∙ sym one) ∙ ap not (is_same q) in
    gone ∙ sym all
taken_first q k x xs false none here is =
    let it : k ≡ x = same k x here in
    let other : nat_eq k q ≡ false = ap (λ (z : ℕ). nat_eq z q) it ∙ turned x q ∙ is in
    stays (list_any (nat_eq q) xs) (nat_eq k q) other
  where
    stays : (a b : Bool) → b ≡ false → a ≡ (a && not b)
    stays true b h = sym (ap not h)
    stays false b h = refl

taken_later : (q k x : ℕ) (rest before : Bool) → nat_eq k x ≡ false → rest ≡ (before && not (nat_eq k q)) → (nat_eq q x || rest) ≡ ((nat_eq q x || before) && not (nat_eq k q))
taken_later q k x rest before other h = by_test (nat_eq q x) refl
  where
    by_test : (b : Bool) → nat_eq q x ≡ b → (b || rest) ≡ ((b || before) && not (nat_eq k q))
    by_test true is =
        let one : q ≡ x = same q x is in
        let apart : nat_eq k q ≡ false = ap (nat_eq k) one ∙ other in
        sym (ap not apart)
    by_test false is = h

taken_by : (q k x : ℕ) (xs : List ℕ) (b : Bool) → list_any (nat_eq x) xs ≡ false → nat_eq k x ≡ b → list_any (nat_eq q) (remove_key (nat_eq k) xs) ≡ (list_any (nat_eq q) xs && not (nat_eq k q)) → list_any (nat_eq q) (cond b xs (x ∷ remove_key (nat_eq k) xs)) ≡ ((nat_eq q x || list_any (nat_eq q) xs) && not (nat_eq k q))
taken_by q k x xs true none is rest = taken_first q k x xs (nat_eq q x) none is refl
taken_by q k x xs false none is rest = taken_later q k x (list_any (nat_eq q) (remove_key (nat_eq k) xs)) (list_any (nat_eq q) xs) is rest

-- an id that was taken away waits no more, and the others wait as before
pub any_removed : (q k : ℕ) (ks : List ℕ) → AreOnce ks → list_any (nat_eq q) (remove_key (nat_eq k) ks) ≡ (list_any (nat_eq q) ks && not (nat_eq k q))
any_removed q k [] h = refl
any_removed q k (x ∷ xs) h = taken_by q k x xs (nat_eq k x) h.0 refl (any_removed q k xs h.1)

left_out : (x k : ℕ) (xs : List ℕ) → AreOnce xs → list_any (nat_eq x) xs ≡ false → list_any (nat_eq x) (remove_key (nat_eq k) xs) ≡ false
left_out x k xs h none = any_removed x k xs h ∙ ap (λ (b : Bool). b && not (nat_eq k x)) none

once_by : (k x : ℕ) (xs : List ℕ) (b : Bool) → list_any (nat_eq x) xs ≡ false → AreOnce xs → AreOnce (remove_key (nat_eq k) xs) → AreOnce (cond b xs (x ∷ remove_key (nat_eq k) xs))
once_by k x xs true none h rest = h
once_by k x xs false none h rest = (left_out x k xs h none, rest)

pub once_removed : (k : ℕ) (ks : List ℕ) → AreOnce ks → AreOnce (remove_key (nat_eq k) ks)
once_removed k [] h = tt
once_removed k (x ∷ xs) h = once_by k x xs (nat_eq k x) h.0 h.1 (once_removed k xs h.1)
