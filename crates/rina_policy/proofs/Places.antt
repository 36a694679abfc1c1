-- The place of a name among the places of a shelf, and a shelf with another place there.
use Rattle.std.proofs.Common.{◌≡◌, ◌∙◌, ℕ, ◌<◌, List, [], ◌∷◌, Bool, true, false, length, map, option_map, option_and_then, get_or, find, position, Option, Some, None, IfSome, suc, IfNone, slice_get, slice_set, arith, refl, ap, sym, zero}
use Rattle.std.specs.List.{position_or_len}
use Rattle.std.specs.Option.{is_some}
use Rattle.std.specs.Str.{bytes_eq}
use Rattle.std.proofs.lemmas.List.{map-set, length-map}
use Rattle.std.proofs.lemmas.List.Sums.{position_or_len_is}
use Rattle.std.proofs.lemmas.Option.{slice_get_within, slice_get-get_or, get_or_from_slice_get, slice_get-map}
use Rattle.std.proofs.lemmas.Grind.{common_steps}
use Rattle.rina_policy.specs.declared.count.Count.{Count}
use Rattle.rina_policy.specs.Slots.{slot, slots_of, place_of, count_of, put_at, asked, retired, policy_of}
use Rattle.rina_policy.specs.Count.{counted}

-- what stands at a place of a list seen through view
seen_at : {P S : Type 0} (view : P → S) (xs : List P) (k : ℕ) (p : P) (d : S) → slice_get xs k ≡ Some p → get_or (map view xs) k d ≡ view p
seen_at view xs k p d e = get_or_from_slice_get (map view xs) k (view p) d (slice_get-map view xs k ∙ ap (option_map view) e)

-- the position of a test in a list seen through view
position_first : {P S : Type 0} (view : P → S) (test : S → Bool) (xs : List P) (k : ℕ) (p : P) → slice_get xs k ≡ Some p → test (view p) ≡ true → ((j : ℕ) (q : P) → j < k → slice_get xs j ≡ Some q → test (view q) ≡ false) → position test (map view xs) ≡ Some k
position_first view test xs k p at passes held =
    let lt : k < length xs = slice_get_within xs k p at in
    let len : length (map view xs) ≡ length xs = length-map xs view in
    let e : position_or_len test (map view xs) ≡ k =
    position_or_len_is test (map view xs) k (view p) (omega (arith, len))
    (λ j lt_j. let read : slice_get xs j ≡ Some (get_or xs j p) = slice_get-get_or xs j p (omega arith) in
    rw (seen_at view xs j (get_or xs j p) (view p) read) (held j (get_or xs j p) lt_j read))
    (λ _. rw (seen_at view xs k p (view p) at) passes) in
    rw e (grind (arith, common_steps, lt, len))

position_none : {P S : Type 0} (view : P → S) (test : S → Bool) (xs : List P) → ((j : ℕ) (q : P) → slice_get xs j ≡ Some q → test (view q) ≡ false) → position test (map view xs) ≡ None
position_none view test [] held = refl
position_none view test (x ∷ xs) held =
    let first : test (view x) ≡ false = held 0 x refl in
    let rest : position test (map view xs) ≡ None = position_none view test xs (λ j q e. held (suc j) q e) in
    grind (arith, common_steps, first, rest)

-- where a name stands first, as its position among the slots
find_in : {P B : Type 0} (name : P → List ℕ) (policy : P → Option B) (count : B → Count) (places : List P) (n : List ℕ) (r : Option ℕ)
    → IfSome r (λ k. (p : P) × (slice_get places k ≡ Some p) × (bytes_eq (name p) n ≡ true))
    → IfSome r (λ k. (j : ℕ) (p : P) → j < k → slice_get places j ≡ Some p → bytes_eq (name p) n ≡ false)
    → IfNone r ((j : ℕ) (p : P) → slice_get places j ≡ Some p → bytes_eq (name p) n ≡ false)
    → r ≡ place_of n (slots_of name policy count places)
find_in name policy count places n (Some k) found first none = sym (position_first (λ p. slot (name p) (option_map count (policy p))) (λ s. bytes_eq s.name n) places k found.0 found.1 found.2 first)
find_in name policy count places n None found first none = sym (position_none (λ p. slot (name p) (option_map count (policy p))) (λ s. bytes_eq s.name n) places none)

pub find_is : {P B : Type 0} (name : P → List ℕ) (policy : P → Option B) (count : B → Count) (places seen : List P) (n : List ℕ) (r : Option ℕ)
    → seen ≡ places
    → IfSome r (λ k. (p : P) × (slice_get seen k ≡ Some p) × (bytes_eq (name p) n ≡ true))
    → IfSome r (λ k. (j : ℕ) (p : P) → j < k → slice_get seen j ≡ Some p → bytes_eq (name p) n ≡ false)
    → IfNone r ((j : ℕ) (p : P) → slice_get seen j ≡ Some p → bytes_eq (name p) n ≡ false)
    → r ≡ place_of n (slots_of name policy count places)
find_is name policy count places seen n r same found first none =
    find_in name policy count seen n r found first none ∙ ap (λ ps. place_of n (slots_of name policy count ps)) same

-- a name stands at a place, which holds p
abbrev pub IsAt : {P : Type 0} → (P → List ℕ) → List P → List ℕ → ℕ → Type 0
IsAt {P} name places n k = (p : P) × (slice_get places k ≡ Some p) × (name p ≡ n)

-- the count of a name, by the place where the name stands
pub count_is : {P B : Type 0} (name : P → List ℕ) (policy : P → Option B) (count : B → Count) (places : List P) (n : List ℕ) (k : ℕ) (x : P)
    → Some k ≡ place_of n (slots_of name policy count places) → IsAt name places n k → x ≡ get_or places k x
    → count_of n (slots_of name policy count places) ≡ option_map count (policy x)
count_is name policy count places n k x at here read =
    let same : x ≡ here.0 = read ∙ get_or_from_slice_get places k here.0 x here.1 in
    let seen : slice_get (slots_of name policy count places) k ≡ Some (slot (name here.0) (option_map count (policy here.0))) = slice_get-map (λ q. slot (name q) (option_map count (policy q))) places k ∙ ap (option_map (λ q. slot (name q) (option_map count (policy q)))) here.1 in
    rw (sym at, seen, same) refl

-- the slots after another policy was put at the place of a name
pub put_is : {P B : Type 0} (name : P → List ℕ) (policy : P → Option B) (count : B → Count) (places : List P) (n : List ℕ) (k : ℕ) (x q : P)
    → Some k ≡ place_of n (slots_of name policy count places) → IsAt name places n k → x ≡ get_or places k x → name q ≡ name x
    → slots_of name policy count (slice_set places k q) ≡ put_at (place_of n (slots_of name policy count places)) n (option_map count (policy q)) (slots_of name policy count places)
put_is name policy count places n k x q at here read kept =
    let same : x ≡ here.0 = read ∙ get_or_from_slice_get places k here.0 x here.1 in
    let named : name q ≡ n = kept ∙ ap name same ∙ here.2 in
    rw (sym at, map-set (λ q. slot (name q) (option_map count (policy q))) places k q, named) refl

-- the slots after the policy at the place of a name was asked
pub asked_is : {P B : Type 0} (name : P → List ℕ) (policy : P → Option B) (count : B → Count) (places : List P) (n : List ℕ) (k : ℕ) (x q : P) (place : ℕ)
    → Some k ≡ place_of n (slots_of name policy count places) → IsAt name places n k → x ≡ get_or places k x → name q ≡ name x
    → option_map count (policy q) ≡ option_map (λ c. counted c place) (option_map count (policy x))
    → slots_of name policy count (slice_set places k q) ≡ asked n place (slots_of name policy count places)
asked_is name policy count places n k x q place at here read kept counts =
    let is_count : count_of n (slots_of name policy count places) ≡ option_map count (policy x) = count_is name policy count places n k x at here read in
    put_is name policy count places n k x q at here read kept
    ∙ ap (λ live. put_at (place_of n (slots_of name policy count places)) n live (slots_of name policy count places)) (counts ∙ ap (option_map (λ c. counted c place)) (sym is_count))

none_from : {B C : Type 0} (f : B → C) (o : Option B) → option_map f o ≡ None → o ≡ None
none_from f None e = refl
none_from f (Some b) e = cc

-- where a name has no live policy, none stands at its place
pub dead_is : {P B : Type 0} (name : P → List ℕ) (policy : P → Option B) (count : B → Count) (places : List P) (n : List ℕ) (k : ℕ) (x : P)
    → Some k ≡ place_of n (slots_of name policy count places) → IsAt name places n k → x ≡ get_or places k x
    → count_of n (slots_of name policy count places) ≡ None → policy x ≡ None
dead_is name policy count places n k x at here read none =
    none_from count (policy x) (sym (count_is name policy count places n k x at here read) ∙ none)

-- the slots after the policy at the place of a name was given up
pub retired_is : {P B : Type 0} (name : P → List ℕ) (policy : P → Option B) (count : B → Count) (places : List P) (n : List ℕ) (k : ℕ) (x q : P)
    → Some k ≡ place_of n (slots_of name policy count places) → IsAt name places n k → x ≡ get_or places k x → name q ≡ name x → policy q ≡ None
    → slots_of name policy count (slice_set places k q) ≡ retired n (slots_of name policy count places)
retired_is name policy count places n k x q at here read kept gone =
    put_is name policy count places n k x q at here read kept
    ∙ ap (λ live. put_at (place_of n (slots_of name policy count places)) n live (slots_of name policy count places)) (ap (option_map count) gone)

some_is_not_none : {B : Type 0} (o : Option B) → o ≡ None → is_some o ≡ true → false ≡ true
some_is_not_none None e live = live
some_is_not_none (Some b) e live = cc

-- where a policy stands at the place of a name, the name has a live policy
pub live_is : {P B : Type 0} (name : P → List ℕ) (policy : P → Option B) (count : B → Count) (places : List P) (n : List ℕ) (k : ℕ) (x : P)
    → Some k ≡ place_of n (slots_of name policy count places) → IsAt name places n k → x ≡ get_or places k x → is_some (policy x) ≡ true
    → count_of n (slots_of name policy count places) ≡ None → false ≡ true
live_is name policy count places n k x at here read live none =
    some_is_not_none (policy x) (dead_is name policy count places n k x at here read none) live

-- the first element that passes a test
find_first : {P : Type 0} (test : P → Bool) (xs : List P) (k : ℕ) (p : P) → slice_get xs k ≡ Some p → test p ≡ true → ((j : ℕ) (q : P) → j < k → slice_get xs j ≡ Some q → test q ≡ false) → find test xs ≡ Some p
find_first test [] k p at passes held = cc
find_first test (x ∷ xs) zero p at passes held =
    let same : x ≡ p = cc in
    rw (same, passes) refl
find_first test (x ∷ xs) (suc k) p at passes held =
    let first : test x ≡ false = held 0 x (omega arith) refl in
    let rest : find test xs ≡ Some p = find_first test xs k p at passes (λ j q lt e. held (suc j) q (omega arith) e) in
    rw first rest

find_none : {P : Type 0} (test : P → Bool) (xs : List P) → ((j : ℕ) (q : P) → slice_get xs j ≡ Some q → test q ≡ false) → find test xs ≡ None
find_none test [] held = refl
find_none test (x ∷ xs) held =
    let first : test x ≡ false = held 0 x refl in
    rw first (find_none test xs (λ j q e. held (suc j) q e))

-- the live policy of a name is the one at the place where the name stands first
pub policy_is : {P B : Type 0} (name : P → List ℕ) (policy : P → Option B) (places seen : List P) (n : List ℕ) (r : Option ℕ)
    → seen ≡ places
    → IfSome r (λ k. (p : P) × (slice_get seen k ≡ Some p) × (bytes_eq (name p) n ≡ true))
    → IfSome r (λ k. (j : ℕ) (p : P) → j < k → slice_get seen j ≡ Some p → bytes_eq (name p) n ≡ false)
    → IfSome r (λ k. (p : P) × (slice_get places k ≡ Some p) × (policy_of name policy n places ≡ policy p))
policy_is name policy places seen n (Some k) same found first =
    let at : slice_get places k ≡ Some found.0 = ap (λ ps. slice_get ps k) (sym same) ∙ found.1 in
    let one : find (λ p. bytes_eq (name p) n) places ≡ Some found.0 =
    find_first (λ p. bytes_eq (name p) n) places k found.0 at found.2 (λ j q lt e. first j q lt (ap (λ ps. slice_get ps j) same ∙ e)) in
    (found.0, at, ap (option_and_then policy) one)
policy_is name policy places seen n None same found first = tt

pub no_policy_is : {P B : Type 0} (name : P → List ℕ) (policy : P → Option B) (places seen : List P) (n : List ℕ) (r : Option ℕ)
    → seen ≡ places
    → IfNone r ((j : ℕ) (p : P) → slice_get seen j ≡ Some p → bytes_eq (name p) n ≡ false)
    → IfNone r (policy_of name policy n places ≡ None)
no_policy_is name policy places seen n None same none =
    ap (option_and_then policy) (find_none (λ p. bytes_eq (name p) n) places (λ j q e. none j q (ap (λ ps. slice_get ps j) same ∙ e)))
no_policy_is name policy places seen n (Some k) same none = tt
