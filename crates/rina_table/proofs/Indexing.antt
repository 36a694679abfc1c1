-- Texts that are found by a tree: their first places.
use Rattle.std.proofs.Common.{◌≡◌, ℕ, suc, ◌+◌, ◌-◌, ◌<◌, ◌≤◌, nat_lt, Bool, true, false, not, cond, List, [], ◌∷◌, length, map, drop, get_or, Bor, Option, Some, None, refl, sym, ap, ◌∙◌, arith}
use Rattle.std.specs.Prelude.{option_map}
use Rattle.std.specs.Str.{bytes_eq}
use Rattle.std.specs.List.{position, prefix_len}
use Rattle.std.proofs.lemmas.Bool.Decides.{nat_tests}
use Rattle.std.proofs.lemmas.List.{drop_more, drop_all, length-map, get_or-map}
use Rattle.std.proofs.lemmas.List.Quantifiers.{position-Some}
use Rattle.rina_table.specs.Names.{place_in}

abbrev pub seen : List (Bor (List ℕ)) → List (List ℕ)
seen xs = map (λ x. x.now) xs

-- ---- first places

later_by : (b : Bool) (m n : ℕ) → nat_lt m n ≡ b → cond {A = Option ℕ} (nat_lt (1 + m) (suc n)) (Some (1 + m)) None ≡ option_map (λ i. i + 1) (cond (nat_lt m n) (Some m) None)
later_by true m n h =
    let more : nat_lt (1 + m) (suc n) ≡ true = grind (arith, nat_tests) in
    rw (h, more) (ap Some (omega arith))
later_by false m n h =
    let more : nat_lt (1 + m) (suc n) ≡ false = grind (arith, nat_tests) in
    rw (h, more) refl

first_by : (n : ℕ) → cond {A = Option ℕ} (nat_lt 0 (suc n)) (Some 0) None ≡ Some 0
first_by n =
    let some : nat_lt 0 (suc n) ≡ true = grind (arith, nat_tests) in
    rw some refl

position_cons : {A : Type 0} (b : Bool) (p : A → Bool) (x : A) (xs : List A) → p x ≡ b → position p (x ∷ xs) ≡ cond b (Some 0) (option_map (λ i. i + 1) (position p xs))
position_cons true p x xs h = rw h (first_by (length xs))
position_cons false p x xs h = rw h (later_by (nat_lt (prefix_len (λ y. not (p y)) xs) (length xs)) (prefix_len (λ y. not (p y)) xs) (length xs) refl)

shifted : (b : Bool) (at : ℕ) (o : Option ℕ) → cond b (Some at) (option_map (λ i. i + (at + 1)) o) ≡ option_map (λ i. i + at) (cond b (Some 0) (option_map (λ i. i + 1) o))
shifted true at o = ap Some (omega arith)
shifted false at None = refl
shifted false at (Some j) = ap Some (omega arith)

-- a text more before those that are indexed
pub index_step : (xs : List (Bor (List ℕ))) (at next : ℕ) (d : Bor (List ℕ)) (q : List ℕ) (old new : Option ℕ) → at < length xs → next ≡ at + 1 → old ≡ option_map (λ i. i + next) (place_in (drop next (seen xs)) q)
    → new ≡ cond (bytes_eq (get_or xs at d).now q) (Some at) old → new ≡ option_map (λ i. i + at) (place_in (drop at (seen xs)) q)
index_step xs at next d q old new within following before is =
    let ts = seen xs in
    let room : at < length ts = omega (arith, length-map xs (λ (x : Bor (List ℕ)). x.now)) in
    let t = get_or ts at d.now in
    let rest = drop (at + 1) ts in
    let same : t ≡ (get_or xs at d).now = get_or-map (λ (x : Bor (List ℕ)). x.now) xs at d d.now within in
    let whole : place_in (drop at ts) q ≡ cond (bytes_eq t q) (Some 0) (option_map (λ i. i + 1) (place_in rest q)) = ap (λ us. place_in us q) (drop_more ts at d.now room) ∙ position_cons (bytes_eq t q) (λ u. bytes_eq u q) t rest refl in
    let was : old ≡ option_map (λ i. i + (at + 1)) (place_in rest q) = before ∙ ap (λ n. option_map (λ i. i + n) (place_in (drop n ts) q)) following in
    let one : cond (bytes_eq (get_or xs at d).now q) (Some at) old ≡ cond (bytes_eq t q) (Some at) old = ap (λ (u : List ℕ). cond (bytes_eq u q) (Some at) old) (sym same) in
    let two : cond (bytes_eq t q) (Some at) old ≡ cond (bytes_eq t q) (Some at) (option_map (λ i. i + (at + 1)) (place_in rest q)) = ap (cond (bytes_eq t q) (Some at)) was in
    is ∙ one ∙ two ∙ shifted (bytes_eq t q) at (place_in rest q) ∙ ap (option_map (λ i. i + at)) (sym whole)

pub index_none : (xs : List (Bor (List ℕ))) (at : ℕ) (q : List ℕ) → length xs ≤ at → None ≡ option_map (λ i. i + at) (place_in (drop at (seen xs)) q)
index_none xs at q past =
    let beyond : length (seen xs) ≤ at = omega (arith, length-map xs (λ (x : Bor (List ℕ)). x.now)) in
    rw (drop_all at (seen xs) beyond) refl

plus_none : (o : Option ℕ) → option_map (λ i. i + 0) o ≡ o
plus_none None = refl
plus_none (Some i) = ap Some (omega arith)

pub index_whole : (xs : List (Bor (List ℕ))) (at : ℕ) (q : List ℕ) (found : Option ℕ) → at ≡ 0 → found ≡ option_map (λ i. i + at) (place_in (drop at (seen xs)) q) → found ≡ place_in (seen xs) q
index_whole xs at q found none h = h ∙ ap (λ n. option_map (λ i. i + n) (place_in (drop n (seen xs)) q)) none ∙ plus_none (place_in (seen xs) q)

pub place_within : (ts : List (List ℕ)) (t : List ℕ) (i : ℕ) → place_in ts t ≡ Some i → i < length ts
place_within ts t i h = (position-Some (λ u. bytes_eq u t) ts i [] h).0
