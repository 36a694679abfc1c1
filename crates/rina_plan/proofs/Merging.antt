-- The parts that links join nodes to.
use Rattle.std.proofs.Common.{◌≡◌, ◌==◌, ◌||◌, ◌&&◌, ◌⊎◌, inl, inr, ℕ, zero, suc, ◌+◌, ◌<◌, ◌≤◌, nat_lt, Bool, true, false, List, [], ◌∷◌, ◌++◌, length, map, drop, take, get_or, Option, Some, None, refl, sym, ap, ◌∙◌, subst, arith}
use Rattle.std.specs.Prelude.{IsSome, option_map, slice_index}
use Rattle.std.proofs.lemmas.Bool.{false≢true, eqb-true}
use Rattle.std.proofs.lemmas.Bool.Decides.{nat_tests}
use Rattle.std.proofs.lemmas.List.{drop_more, drop_all, take_more, get_or-map}
use Rattle.std.proofs.lemmas.List.Sums.{fails_before_first}
use Rattle.std.proofs.lemmas.List.Quantifiers.{position-Some}
use Rattle.std.specs.List.{position, position_or_len}
use Rattle.rina_plan.specs.declared.dif.LinkPlan.{LinkPlan}
use Rattle.rina_plan.specs.Parts.{ends_of, part_in, is_same, is_one_part, ArePartsOf, Merges, merged}
use Rattle.rina_plan.specs.Walks.{is_joined}

-- ---- the ends of links

ends_push : (ls : List LinkPlan) (l : LinkPlan) → ends_of (ls ++ l ∷ []) ≡ (ends_of ls ++ l.a ∷ []) ++ l.b ∷ []
ends_push [] l = refl
ends_push (k ∷ ls) l = ap (λ ns. k.a ∷ k.b ∷ ns) (ends_push ls l)

pub ends_step : (ls : List LinkPlan) (i : ℕ) (d : LinkPlan) → i < length ls → (ends_of (take i ls) ++ (get_or ls i d).a ∷ []) ++ (get_or ls i d).b ∷ [] ≡ ends_of (take (i + 1) ls)
ends_step ls i d within = sym (rw (take_more ls i d within) (ends_push (take i ls) (get_or ls i d)))

-- where the ends of a link stand
first_end : (ls : List LinkPlan) (i : ℕ) (d : LinkPlan) → i < length ls → (k : ℕ) × (k < length (ends_of ls)) × (get_or (ends_of ls) k 0 ≡ (get_or ls i d).a)
first_end [] i d within = absurd (omega arith)
first_end (l ∷ ls) zero d within = (0, omega arith, refl)
first_end (l ∷ ls) (suc i) d within =
    let (k, room, is) = first_end ls i d (omega arith) in
    (suc (suc k), omega arith, is)

second_end : (ls : List LinkPlan) (i : ℕ) (d : LinkPlan) → i < length ls → (k : ℕ) × (k < length (ends_of ls)) × (get_or (ends_of ls) k 0 ≡ (get_or ls i d).b)
second_end [] i d within = absurd (omega arith)
second_end (l ∷ ls) zero d within = (1, omega arith, refl)
second_end (l ∷ ls) (suc i) d within =
    let (k, room, is) = second_end ls i d (omega arith) in
    (suc (suc k), omega arith, is)

not_below : (a b : ℕ) → (a < b → ⊥) → b ≤ a
not_below a b h = elim (nat_lt a b) as (λ t. nat_lt a b ≡ t → b ≤ a) [ true ↦ λ e. absurd (h (grind (arith, nat_tests))) | false ↦ λ e. grind (arith, nat_tests) ] refl

-- a number that stands in a list has a place
position_there : (ns : List ℕ) (n k : ℕ) → k < length ns → get_or ns k 0 ≡ n → IsSome (position (λ m. m == n) ns)
position_there ns n k within is =
    let here : (get_or ns k 0 == n) ≡ true = grind (arith, nat_tests) in
    let first : position_or_len (λ m. m == n) ns ≤ k = not_below k _ (λ later. false≢true (sym (fails_before_first (λ m. m == n) ns k 0 later) ∙ here)) in
    let test : nat_lt (position_or_len (λ m. m == n) ns) (length ns) ≡ true = grind (arith, nat_tests) in
    rw test refl

part_there : (parts : List ℕ) (o : Option ℕ) → IsSome o → IsSome (option_map (λ i. slice_index parts i) o)
part_there parts (Some i) h = refl
part_there parts None h = h

pub first_part : (links : List LinkPlan) (nodes parts : List ℕ) (i : ℕ) (d : LinkPlan) → nodes ≡ ends_of links → i < length links → IsSome (part_in nodes parts (get_or links i d).a)
first_part links nodes parts i d are within =
    let (k, room, is) = first_end links i d within in
    part_there parts _ (rw are (position_there (ends_of links) (get_or links i d).a k room is))

pub second_part : (links : List LinkPlan) (nodes parts : List ℕ) (i : ℕ) (d : LinkPlan) → nodes ≡ ends_of links → i < length links → IsSome (part_in nodes parts (get_or links i d).b)
second_part links nodes parts i d are within =
    let (k, room, is) = second_end links i d within in
    part_there parts _ (rw are (position_there (ends_of links) (get_or links i d).b k room is))

-- ---- merging

place_merged : (parts : List ℕ) (f : ℕ → ℕ) (o : Option ℕ) → ((i : ℕ) → o ≡ Some i → i < length parts) → option_map (λ i. slice_index (map f parts) i) o ≡ option_map f (option_map (λ i. slice_index parts i) o)
place_merged parts f None within = refl
place_merged parts f (Some i) within = ap Some (get_or-map f parts i 0 0 (within i refl))

part_merged : (nodes parts : List ℕ) (f : ℕ → ℕ) (n : ℕ) → length nodes ≡ length parts → part_in nodes (map f parts) n ≡ option_map f (part_in nodes parts n)
part_merged nodes parts f n size = place_merged parts f (position (λ m. m == n) nodes) (λ i h. omega (arith, size, (position-Some (λ m. m == n) nodes i 0 h).0))

same_merged : (e : Bool) (p q : ℕ) (x y : Option ℕ) → (e || is_same (option_map (merged p q) x) (option_map (merged p q) y)) ≡ ((e || is_same x y) || (is_same x (Some p) && is_same (Some q) y) || (is_same x (Some q) && is_same (Some p) y))
same_merged true p q x y = refl
same_merged false p q None y = refl
same_merged false p q (Some u) None = grind (arith, nat_tests)
same_merged false p q (Some u) (Some v) = grind (arith, nat_tests)

one_is : (nodes parts : List ℕ) (m n : ℕ) → is_one_part nodes parts m n ≡ ((m == n) || is_same (part_in nodes parts m) (part_in nodes parts n))
unfolding is_one_part
one_is nodes parts m n = refl

same_self : (p : ℕ) → (p == p) ≡ true
same_self p = grind (arith, nat_tests)

to_part : (b : Bool) (nodes parts : List ℕ) (m a p : ℕ) → (m == a) ≡ b → part_in nodes parts a ≡ Some p → (b || is_same (part_in nodes parts m) (part_in nodes parts a)) ≡ is_same (part_in nodes parts m) (Some p)
to_part true nodes parts m a p h is =
    let same : m ≡ a = eqb-true m a h in
    let both : part_in nodes parts m ≡ Some p = ap (part_in nodes parts) same ∙ is in
    rw both (sym (same_self p))
to_part false nodes parts m a p h is = rw is refl

of_part : (b : Bool) (nodes parts : List ℕ) (a n p : ℕ) → (a == n) ≡ b → part_in nodes parts a ≡ Some p → (b || is_same (part_in nodes parts a) (part_in nodes parts n)) ≡ is_same (Some p) (part_in nodes parts n)
of_part true nodes parts a n p h is =
    let same : a ≡ n = eqb-true a n h in
    let both : part_in nodes parts n ≡ Some p = ap (part_in nodes parts) (sym same) ∙ is in
    rw both (sym (same_self p))
of_part false nodes parts a n p h is = rw is refl

pub merges_is : (nodes parts after : List ℕ) (l : LinkPlan) (p q : ℕ) → length nodes ≡ length parts → part_in nodes parts l.a ≡ Some p → part_in nodes parts l.b ≡ Some q → after ≡ map (merged p q) parts → Merges nodes parts after l
merges_is nodes parts after l p q size is_p is_q is = λ m n.
    let x = part_in nodes parts m in
    let y = part_in nodes parts n in
    let first : part_in nodes after m ≡ option_map (merged p q) x = ap (λ ps. part_in nodes ps m) is ∙ part_merged nodes parts (merged p q) m size in
    let second : part_in nodes after n ≡ option_map (merged p q) y = ap (λ ps. part_in nodes ps n) is ∙ part_merged nodes parts (merged p q) n size in
    let whole : is_one_part nodes after m n ≡ ((m == n) || is_same (option_map (merged p q) x) (option_map (merged p q) y)) = one_is nodes after m n ∙ rw (first, second) refl in
    let ma : is_one_part nodes parts m l.a ≡ is_same x (Some p) = one_is nodes parts m l.a ∙ to_part (m == l.a) nodes parts m l.a p refl is_p in
    let bn : is_one_part nodes parts l.b n ≡ is_same (Some q) y = one_is nodes parts l.b n ∙ of_part (l.b == n) nodes parts l.b n q refl is_q in
    let mb : is_one_part nodes parts m l.b ≡ is_same x (Some q) = one_is nodes parts m l.b ∙ to_part (m == l.b) nodes parts m l.b q refl is_q in
    let an : is_one_part nodes parts l.a n ≡ is_same (Some p) y = one_is nodes parts l.a n ∙ of_part (l.a == n) nodes parts l.a n p refl is_p in
    whole ∙ same_merged (m == n) p q x y ∙ sym (rw (one_is nodes parts m n, ma, bn, mb, an) refl)

-- ---- the loop over links

own_part : (nodes : List ℕ) (n : ℕ) (o : Option ℕ) → position (λ m. m == n) nodes ≡ o → (option_map (λ i. slice_index nodes i) o ≡ None) ⊎ (option_map (λ i. slice_index nodes i) o ≡ Some n)
own_part nodes n None h = inl refl
own_part nodes n (Some i) h = inr (ap Some (eqb-true (get_or nodes i 0) n (position-Some (λ m. m == n) nodes i 0 h).1))

or_false : (b : Bool) → (b || false) ≡ b
or_false true = refl
or_false false = refl

or_self : (b : Bool) → (b || b) ≡ b
or_self true = refl
or_self false = refl

apart : (m n : ℕ) (x y : Option ℕ) → (x ≡ None) ⊎ (x ≡ Some m) → (y ≡ None) ⊎ (y ≡ Some n) → ((m == n) || is_same x y) ≡ (m == n)
apart m n x y (inl e) k = rw e (or_false (m == n))
apart m n x y (inr e) (inl g) = rw (e, g) (or_false (m == n))
apart m n x y (inr e) (inr g) = rw (e, g) (or_self (m == n))

pub each_apart : (links : List LinkPlan) (nodes parts : List ℕ) (i : ℕ) → parts ≡ nodes → length links ≤ i → ArePartsOf (drop i links) nodes parts
unfolding is_joined
each_apart links nodes parts i are past = λ m n.
    let none : is_joined (drop i links) m n ≡ (m == n) = rw (drop_all i links past) refl in
    let alone : is_one_part nodes nodes m n ≡ (m == n) = one_is nodes nodes m n ∙ apart m n (part_in nodes nodes m) (part_in nodes nodes n) (own_part nodes m _ refl) (own_part nodes n _ refl) in
    ap (λ ps. is_one_part nodes ps m n) are ∙ alone ∙ sym none

pub merge_step : (links : List LinkPlan) (nodes parts after : List ℕ) (i : ℕ) (d : LinkPlan) → i < length links → Merges nodes parts after (get_or links i d) → ArePartsOf (drop (i + 1) links) nodes parts → ArePartsOf (drop i links) nodes after
unfolding is_joined
merge_step links nodes parts after i d within step so_far = λ m n.
    let l = get_or links i d in
    let rest = drop (i + 1) links in
    let whole : is_joined (drop i links) m n ≡ (is_joined rest m n || (is_joined rest m l.a && is_joined rest l.b n) || (is_joined rest m l.b && is_joined rest l.a n)) = ap (λ ls. is_joined ls m n) (drop_more links i d within) in
    step m n ∙ rw (so_far m n, so_far m l.a, so_far l.b n, so_far m l.b, so_far l.a n) (sym whole)

pub whole_list : (links : List LinkPlan) (nodes parts : List ℕ) (i : ℕ) → i ≡ 0 → ArePartsOf (drop i links) nodes parts → ArePartsOf links nodes parts
whole_list links nodes parts i none h = subst (λ j. ArePartsOf (drop j links) nodes parts) none h
