-- Numbers that are known by a tree, and those that stand twice.
use Rattle.std.proofs.Common.{◌≡◌, ◌==◌, ◌||◌, ℕ, ◌+◌, ◌<◌, ◌≤◌, nat_lt, Bool, true, false, cond, List, [], length, drop, get_or, Option, Some, refl, sym, ap, ◌∙◌, arith}
use Rattle.std.specs.Prelude.{is_some}
use Rattle.std.specs.BTreeMap.{BTreeMap, get_by}
use Rattle.std.specs.Ordering.{is_eq, nat_cmp}
use Rattle.std.specs.declared.cmp.Ordering.TheVariants.{Less, Equal, Greater}
use Rattle.std.specs.List.{list_any}
use Rattle.std.proofs.lemmas.Bool.Decides.{nat_tests}
use Rattle.std.proofs.lemmas.List.{drop_more, drop_all}
use Rattle.rina_plan.specs.Difs.{has_twice}

tied : (below same : Bool) → (below ≡ true → same ≡ false) → is_eq (cond below Less (cond same Equal Greater)) ≡ same
tied true same h = sym (h refl)
tied false true h = refl
tied false false h = refl

apart : (x q : ℕ) → nat_lt x q ≡ true → (x == q) ≡ false
apart x q below = grind (arith, nat_tests)

same_number : (x q : ℕ) → is_eq (nat_cmp x q) ≡ (x == q)
same_number x q = tied (nat_lt x q) (x == q) (apart x q)

if_some : {V : Type 0} (b : Bool) (v : V) (o : Option V) → is_some (cond b (Some v) o) ≡ (b || is_some o)
if_some true v o = refl
if_some false v o = refl

-- a number more is known
pub known_step : {V : Type 0} (xs : List ℕ) (at next x q : ℕ) (v : V) (old new : Option V) → at < length xs → next ≡ at + 1 → x ≡ get_or xs at 0 → is_some old ≡ list_any (λ y. y == q) (drop next xs)
    → new ≡ cond (is_eq (nat_cmp x q)) (Some v) old → is_some new ≡ list_any (λ y. y == q) (drop at xs)
known_step xs at next x q v old new within following x_is before is =
    let one : is_some new ≡ ((x == q) || is_some old) = ap is_some is ∙ if_some (is_eq (nat_cmp x q)) v old ∙ ap (λ b. b || is_some old) (same_number x q) in
    let two : is_some old ≡ list_any (λ y. y == q) (drop (at + 1) xs) = before ∙ ap (λ n. list_any (λ y. y == q) (drop n xs)) following in
    let whole : list_any (λ y. y == q) (drop at xs) ≡ ((get_or xs at 0 == q) || list_any (λ y. y == q) (drop (at + 1) xs)) = ap (list_any (λ y. y == q)) (drop_more xs at 0 within) in
    one ∙ ap (λ z. (z == q) || is_some old) x_is ∙ ap (λ b. (get_or xs at 0 == q) || b) two ∙ sym whole

-- the number at a place stands behind it
again : (xs : List ℕ) (at next x : ℕ) (b : Bool) → next ≡ at + 1 → x ≡ get_or xs at 0 → b ≡ list_any (λ y. y == x) (drop next xs) → list_any (λ y. y == get_or xs at 0) (drop (at + 1) xs) ≡ b
again xs at next x b following is test = ap (λ z. list_any (λ y. y == z) (drop (at + 1) xs)) (sym is) ∙ ap (λ n. list_any (λ y. y == x) (drop n xs)) (sym following) ∙ sym test

pub twice_found : (xs : List ℕ) (at next x : ℕ) (b : Bool) → at < length xs → next ≡ at + 1 → x ≡ get_or xs at 0 → b ≡ list_any (λ y. y == x) (drop next xs) → b ≡ true → b ≡ has_twice (drop at xs)
unfolding has_twice
twice_found xs at next x b within following is test here =
    let there : list_any (λ y. y == get_or xs at 0) (drop (at + 1) xs) ≡ true = again xs at next x b following is test ∙ here in
    here ∙ sym (rw (drop_more xs at 0 within, there) refl)

pub twice_not : (xs : List ℕ) (at next x : ℕ) (b twice : Bool) → at < length xs → next ≡ at + 1 → x ≡ get_or xs at 0 → b ≡ list_any (λ y. y == x) (drop next xs) → b ≡ false → twice ≡ has_twice (drop next xs) → twice ≡ has_twice (drop at xs)
unfolding has_twice
twice_not xs at next x b twice within following is test not_here so_far =
    let there : list_any (λ y. y == get_or xs at 0) (drop (at + 1) xs) ≡ false = again xs at next x b following is test ∙ not_here in
    let whole : has_twice (drop at xs) ≡ has_twice (drop (at + 1) xs) = rw (drop_more xs at 0 within, there) refl in
    so_far ∙ ap (λ n. has_twice (drop n xs)) following ∙ sym whole

pub none_twice : (xs : List ℕ) (at : ℕ) → length xs ≤ at → false ≡ has_twice (drop at xs)
unfolding has_twice
none_twice xs at past = sym (rw (drop_all at xs past) refl)

-- of no numbers none is known
pub known_none : (xs : List ℕ) (at q : ℕ) (seen : BTreeMap ℕ (Unit {0})) → length xs ≤ at → seen.entries ≡ [] → is_some (get_by (λ k. nat_cmp q k) seen) ≡ list_any (λ y. y == q) (drop at xs)
known_none xs at q seen past none = rw (drop_all at xs past, none) refl
