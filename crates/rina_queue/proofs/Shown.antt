-- What is shown of the elements that pass a test, of which a row shows as many as it has room for.
use Rattle.std.proofs.Common.{◌≡◌, ◌∙◌, ℕ, ◌+◌, ◌<◌, ◌≤◌, Bool, true, false, List, [], ◌∷◌, ◌++◌, length, min, map, filter, take, get_or, set, refl, sym, ap, arith}
use Rattle.std.proofs.lemmas.List.Elements.{filter_more}
use Rattle.std.proofs.lemmas.Grind.{common_steps}

-- what is shown of so many of the elements
pub record IsShown {Q H : Type 0} (test : Q → Bool) (view : Q → H) (xs : List Q) (shown : List H) (most n i : ℕ) : Type 0 where
  pub count : n ≡ min (length (filter test (take i xs))) most
  pub heads : take n shown ≡ take most (map view (filter test (take i xs)))
  pub room : length shown ≡ most

map_push : {Q H : Type 0} (view : Q → H) (xs : List Q) (x : Q) → map view (xs ++ x ∷ []) ≡ map view xs ++ view x ∷ []
map_push view [] x = refl
map_push view (y ∷ xs) x = ap (λ ys. view y ∷ ys) (map_push view xs x)

length_push : {Q : Type 0} (xs : List Q) (x : Q) → length (xs ++ x ∷ []) ≡ length xs + 1
length_push xs x = grind (arith, common_steps)

take_short : {H : Type 0} (n : ℕ) (xs : List H) → length xs ≤ n → take n xs ≡ xs
take_short n xs le = grind (arith, common_steps, le)

take_set : {H : Type 0} (n : ℕ) (xs : List H) (x : H) → n < length xs → take (n + 1) (set xs n x) ≡ take n xs ++ x ∷ []
take_set n xs x lt = grind (arith, common_steps, lt)

length_map : {Q H : Type 0} (view : Q → H) (xs : List Q) → length (map view xs) ≡ length xs
length_map view xs = grind (arith, common_steps)

take_full : {H : Type 0} (n : ℕ) (xs : List H) (x : H) → n ≤ length xs → take n (xs ++ x ∷ []) ≡ take n xs
take_full n xs x le = grind (arith, common_steps, le)

-- the test fails at the next element
pub shown_skips : {Q H : Type 0} (test : Q → Bool) (view : Q → H) (xs : List Q) (heads : List H) (most count i : ℕ) (d : Q) → i < length xs → test (get_or xs i d) ≡ false → IsShown test view xs heads most count i → IsShown test view xs heads most count (i + 1)
shown_skips test view xs heads most count i d lt fails s =
    let same : filter test (take (i + 1) xs) ≡ filter test (take i xs) = filter_more test xs i d lt ∙ grind (arith, common_steps, fails) in
    record {
      count = rw same s.count;
      heads = rw same s.heads;
      room = s.room;
    }

-- the next element passes the test
passes_one : {Q : Type 0} (test : Q → Bool) (xs : List Q) (i : ℕ) (d : Q) → i < length xs → test (get_or xs i d) ≡ true → filter test (take (i + 1) xs) ≡ filter test (take i xs) ++ get_or xs i d ∷ []
passes_one test xs i d lt passes = filter_more test xs i d lt ∙ rw passes refl

pub shown_more : {Q H : Type 0} (test : Q → Bool) (view : Q → H) (xs : List Q) (heads : List H) (most count i : ℕ) (d : Q) → i < length xs → test (get_or xs i d) ≡ true → count < most → IsShown test view xs heads most count i → IsShown test view xs (set heads count (view (get_or xs i d))) most (count + 1) (i + 1)
shown_more test view xs heads most count i d lt passes few s =
    let old : List _ = filter test (take i xs) in
    let one : filter test (take (i + 1) xs) ≡ old ++ get_or xs i d ∷ [] = passes_one test xs i d lt passes in
    let many : length old ≡ count = omega (arith, s.count) in
    let seen : length (map view old) ≡ count = length_map view old ∙ many in
    let heads_old : take count heads ≡ map view old = s.heads ∙ take_short most (map view old) (omega (arith, seen)) in
    let whole : length (map view old ++ view (get_or xs i d) ∷ []) ≡ count + 1 = length_push (map view old) (view (get_or xs i d)) ∙ ap (λ n. n + 1) seen in
    record {
      count = rw one (omega (arith, length_push old (get_or xs i d), many));
      heads = rw (one, map_push view old (get_or xs i d)) (take_set count heads (view (get_or xs i d)) (omega (arith, s.room)) ∙ ap (λ hs. hs ++ view (get_or xs i d) ∷ []) heads_old ∙ sym (take_short most _ (omega (arith, whole))));
      room = grind (arith, common_steps, s.room);
    }

full_passes : {Q H : Type 0} (test : Q → Bool) (view : Q → H) (xs : List Q) (heads : List H) (most count i : ℕ) (d : Q) → i < length xs → test (get_or xs i d) ≡ true → most ≤ count → IsShown test view xs heads most count i → IsShown test view xs heads most count (i + 1)
full_passes test view xs heads most count i d lt passes full s =
    let old : List _ = filter test (take i xs) in
    let one : filter test (take (i + 1) xs) ≡ old ++ get_or xs i d ∷ [] = passes_one test xs i d lt passes in
    let many : most ≤ length (map view old) = omega (arith, s.count, length_map view old) in
    record {
      count = rw one (omega (arith, length_push old (get_or xs i d), s.count));
      heads = rw (one, map_push view old (get_or xs i d)) (s.heads ∙ sym (take_full most (map view old) (view (get_or xs i d)) many));
      room = s.room;
    }

full_by : {Q H : Type 0} (test : Q → Bool) (view : Q → H) (xs : List Q) (heads : List H) (most count i : ℕ) (d : Q) (b : Bool) → test (get_or xs i d) ≡ b → i < length xs → most ≤ count → IsShown test view xs heads most count i → IsShown test view xs heads most count (i + 1)
full_by test view xs heads most count i d true is lt full s = full_passes test view xs heads most count i d lt is full s
full_by test view xs heads most count i d false is lt full s = shown_skips test view xs heads most count i d lt is s

-- as many as there may be are shown
pub shown_full : {Q H : Type 0} (test : Q → Bool) (view : Q → H) (xs : List Q) (heads : List H) (most count i : ℕ) (d : Q) → i < length xs → most ≤ count → IsShown test view xs heads most count i → IsShown test view xs heads most count (i + 1)
shown_full test view xs heads most count i d lt full s = full_by test view xs heads most count i d (test (get_or xs i d)) refl lt full s

-- the next element is shown
pub put_more : {Q H : Type 0} (test : Q → Bool) (view : Q → H) (xs : List Q) (old new : List H) (most count many i : ℕ) (x : Q) (seen : H) → i < length xs → x ≡ get_or xs i x → test x ≡ true → count < most → seen ≡ view x → new ≡ set old count seen → many ≡ count + 1 → IsShown test view xs old most count i → IsShown test view xs new most many (i + 1)
put_more test view xs old new most count many i x seen lt read passes few is put next s =
    let here : test (get_or xs i x) ≡ true = ap test (sym read) ∙ passes in
    let written : new ≡ set old count (view (get_or xs i x)) = put ∙ ap (set old count) (is ∙ ap view read) in
    rw (written, next) (shown_more test view xs old most count i x lt here few s)

-- the next element is not shown
pub put_none : {Q H : Type 0} (test : Q → Bool) (view : Q → H) (xs : List Q) (old new : List H) (most count many i : ℕ) (x : Q) → i < length xs → x ≡ get_or xs i x → test x ≡ false → new ≡ old → many ≡ count → IsShown test view xs old most count i → IsShown test view xs new most many (i + 1)
put_none test view xs old new most count many i x lt read fails same next s =
    let here : test (get_or xs i x) ≡ false = ap test (sym read) ∙ fails in
    rw (same, next) (shown_skips test view xs old most count i x lt here s)

pub put_full : {Q H : Type 0} (test : Q → Bool) (view : Q → H) (xs : List Q) (old new : List H) (most count many i : ℕ) (x : Q) → i < length xs → most ≤ count → new ≡ old → many ≡ count → IsShown test view xs old most count i → IsShown test view xs new most many (i + 1)
put_full test view xs old new most count many i x lt full same next s = rw (same, next) (shown_full test view xs old most count i x lt full s)
