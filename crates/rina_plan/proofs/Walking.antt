-- The test of walks says exactly whether there is one.
use Rattle.std.proofs.Common.{◌≡◌, ◌||◌, ◌&&◌, ◌⊎◌, inl, inr, ℕ, zero, suc, ◌<◌, Bool, true, false, List, [], ◌∷◌, ◌++◌, length, get_or, refl, sym, ◌∙◌, subst, arith}
use Rattle.std.specs.Prelude.{Contains, IsTrue, ◌↔◌}
use Rattle.std.proofs.lemmas.Bool.{and_parts, or_cases, eqb-true}
use Rattle.std.proofs.lemmas.Bool.Decides.{nat_tests}
use Rattle.rina_plan.specs.declared.dif.LinkPlan.{LinkPlan}
use Rattle.rina_plan.specs.Walks.{Joins, IsWalk, AreJoined, is_joined}

-- ---- one link more

Step : Bool → Bool → Bool → Bool → Bool → Type 0
Step x a b c d = (x ≡ true) ⊎ (((a ≡ true) × (b ≡ true)) ⊎ ((c ≡ true) × (d ≡ true)))

step_cases : (x a b c d : Bool) → (x || (a && b) || (c && d)) ≡ true → Step x a b c d
unfolding Step
step_cases x a b c d h =
    elim (or_cases (x || (a && b)) (c && d) h) as (λ _. Step x a b c d) [
      | inl g ↦ elim (or_cases x (a && b) g) as (λ _. Step x a b c d) [ inl e ↦ inl e | inr e ↦ inr (inl (and_parts a b e)) ]
      | inr e ↦ inr (inr (and_parts c d e))
    ]

without : (x a b c d : Bool) → x ≡ true → (x || (a && b) || (c && d)) ≡ true
without true a b c d h = refl
without false a b c d h = cc

along : (x a b c d : Bool) → a ≡ true → b ≡ true → (x || (a && b) || (c && d)) ≡ true
along true a b c d h g = refl
along false true true c d h g = refl
along false false b c d h g = cc
along false true false c d h g = cc

against : (x a b c d : Bool) → c ≡ true → d ≡ true → (x || (a && b) || (c && d)) ≡ true
against true a b c d h g = refl
against false true true c d h g = refl
against false true false true true h g = refl
against false false b true true h g = refl
against false true false false d h g = cc
against false true false true false h g = cc
against false false b false d h g = cc
against false false b true false h g = cc

-- ---- what is joined

pub joined_self : (ls : List LinkPlan) (m : ℕ) → is_joined ls m m ≡ true
unfolding is_joined
joined_self [] m = grind (arith, nat_tests)
joined_self (l ∷ ls) m = without (is_joined ls m m) (is_joined ls m l.a) (is_joined ls l.b m) (is_joined ls m l.b) (is_joined ls l.a m) (joined_self ls m)

joined_more : (l : LinkPlan) (ls : List LinkPlan) (m n : ℕ) → is_joined ls m n ≡ true → is_joined (l ∷ ls) m n ≡ true
unfolding is_joined
joined_more l ls m n h = without (is_joined ls m n) (is_joined ls m l.a) (is_joined ls l.b n) (is_joined ls m l.b) (is_joined ls l.a n) h

joined_along : (l : LinkPlan) (ls : List LinkPlan) (m n : ℕ) → is_joined ls m l.a ≡ true → is_joined ls l.b n ≡ true → is_joined (l ∷ ls) m n ≡ true
unfolding is_joined
joined_along l ls m n h g = along (is_joined ls m n) (is_joined ls m l.a) (is_joined ls l.b n) (is_joined ls m l.b) (is_joined ls l.a n) h g

joined_against : (l : LinkPlan) (ls : List LinkPlan) (m n : ℕ) → is_joined ls m l.b ≡ true → is_joined ls l.a n ≡ true → is_joined (l ∷ ls) m n ≡ true
unfolding is_joined
joined_against l ls m n h g = against (is_joined ls m n) (is_joined ls m l.a) (is_joined ls l.b n) (is_joined ls m l.b) (is_joined ls l.a n) h g

joined_cases : (l : LinkPlan) (ls : List LinkPlan) (m n : ℕ) → is_joined (l ∷ ls) m n ≡ true → Step (is_joined ls m n) (is_joined ls m l.a) (is_joined ls l.b n) (is_joined ls m l.b) (is_joined ls l.a n)
unfolding is_joined
joined_cases l ls m n h = step_cases (is_joined ls m n) (is_joined ls m l.a) (is_joined ls l.b n) (is_joined ls m l.b) (is_joined ls l.a n) h

none_joined : (m n : ℕ) → is_joined [] m n ≡ true → m ≡ n
unfolding is_joined
none_joined m n h = eqb-true m n h

joined_trans : (ls : List LinkPlan) (m k n : ℕ) → is_joined ls m k ≡ true → is_joined ls k n ≡ true → is_joined ls m n ≡ true
unfolding Step
joined_trans [] m k n h g =
    let same : m ≡ n = none_joined m k h ∙ none_joined k n g in
    subst (λ j. is_joined [] m j ≡ true) same (joined_self [] m)
joined_trans (l ∷ ls) m k n h g =
    let Goal = is_joined (l ∷ ls) m n ≡ true in
    elim (joined_cases l ls m k h) as (λ _. Goal) [
      | inl x ↦ elim (joined_cases l ls k n g) as (λ _. Goal) [
        | inl y ↦ joined_more l ls m n (joined_trans ls m k n x y)
        | inr y ↦ elim y as (λ _. Goal) [ inl (ka, bn) ↦ joined_along l ls m n (joined_trans ls m k l.a x ka) bn | inr (kb, an) ↦ joined_against l ls m n (joined_trans ls m k l.b x kb) an ]
      ]
      | inr x ↦ elim x as (λ _. Goal) [
        | inl (ma, bk) ↦ elim (joined_cases l ls k n g) as (λ _. Goal) [
          | inl y ↦ joined_along l ls m n ma (joined_trans ls l.b k n bk y)
          | inr y ↦ elim y as (λ _. Goal) [ inl (ka, bn) ↦ joined_along l ls m n ma bn | inr (kb, an) ↦ joined_more l ls m n (joined_trans ls m l.a n ma an) ]
        ]
        | inr (mb, ak) ↦ elim (joined_cases l ls k n g) as (λ _. Goal) [
          | inl y ↦ joined_against l ls m n mb (joined_trans ls l.a k n ak y)
          | inr y ↦ elim y as (λ _. Goal) [ inl (ka, bn) ↦ joined_more l ls m n (joined_trans ls m l.b n mb bn) | inr (kb, an) ↦ joined_against l ls m n mb an ]
        ]
      ]
    ]

link_joins : (ls : List LinkPlan) (l : LinkPlan) (k : ℕ) → k < length ls → get_or ls k l ≡ l → (is_joined ls l.a l.b ≡ true) × (is_joined ls l.b l.a ≡ true)
link_joins [] l k within is = absurd (omega arith)
link_joins (x ∷ ls) l zero within is =
    let both : (is_joined (x ∷ ls) x.a x.b ≡ true) × (is_joined (x ∷ ls) x.b x.a ≡ true) = (joined_along x ls x.a x.b (joined_self ls x.a) (joined_self ls x.b), joined_against x ls x.b x.a (joined_self ls x.b) (joined_self ls x.a)) in
    subst (λ (y : LinkPlan). (is_joined (x ∷ ls) y.a y.b ≡ true) × (is_joined (x ∷ ls) y.b y.a ≡ true)) is both
link_joins (x ∷ ls) l (suc k) within is =
    let (there, back) = link_joins ls l k (omega arith) is in
    (joined_more x ls l.a l.b there, joined_more x ls l.b l.a back)

-- ---- walks

walk_joins : (links walk : List LinkPlan) (m n : ℕ) → IsWalk links m walk n → is_joined links m n ≡ true
walk_joins links [] m n same = subst (λ j. is_joined links m j ≡ true) same (joined_self links m)
walk_joins links (l ∷ walk) m n h =
    let (has, way) = h in
    let (k, joins, rest) = way in
    let (there, back) = link_joins links l has.0 has.1 has.2 in
    let first : is_joined links m k ≡ true = elim joins as (λ _. is_joined links m k ≡ true) [
      | inl (a, b) ↦ subst (λ j. is_joined links j k ≡ true) a (subst (λ j. is_joined links l.a j ≡ true) b there)
      | inr (b, a) ↦ subst (λ j. is_joined links j k ≡ true) b (subst (λ j. is_joined links l.b j ≡ true) a back)
    ] in
    joined_trans links m k n first (walk_joins links walk k n rest)

longer : (l : LinkPlan) (links walk : List LinkPlan) (m n : ℕ) → IsWalk links m walk n → IsWalk (l ∷ links) m walk n
longer l links [] m n same = same
longer l links (x ∷ walk) m n h =
    let (has, way) = h in
    let (k, joins, rest) = way in
    let there : Contains (l ∷ links) x = (suc has.0, omega (arith, has.1), has.2) in
    (there, (k, joins, longer l links walk k n rest))

joined_up : (links one other : List LinkPlan) (m k n : ℕ) → IsWalk links m one k → IsWalk links k other n → IsWalk links m (one ++ other) n
joined_up links [] other m k n same h = subst (λ j. IsWalk links j other n) (sym same) h
joined_up links (x ∷ one) other m k n h g =
    let (has, way) = h in
    let (j, joins, rest) = way in
    (has, (j, joins, joined_up links one other j k n rest g))

-- a walk here, then over the link, then a walk there
over : (l : LinkPlan) (ls : List LinkPlan) (m j k n : ℕ) → Joins l j k → AreJoined ls m j → AreJoined ls k n → AreJoined (l ∷ ls) m n
over l ls m j k n joins (one, first) (other, second) =
    let has : Contains (l ∷ ls) l = (0, omega arith, refl) in
    let on : IsWalk (l ∷ ls) j (l ∷ other) n = (has, (k, joins, longer l ls other k n second)) in
    (one ++ l ∷ other, joined_up (l ∷ ls) one (l ∷ other) m j n (longer l ls one m j first) on)

pub joined_walk : (ls : List LinkPlan) (m n : ℕ) → is_joined ls m n ≡ true → AreJoined ls m n
unfolding Step
joined_walk [] m n h = ([], none_joined m n h)
joined_walk (l ∷ ls) m n h =
    elim (joined_cases l ls m n h) as (λ _. AreJoined (l ∷ ls) m n) [
      | inl x ↦ let (walk, is) = joined_walk ls m n x in (walk, longer l ls walk m n is)
      | inr x ↦ elim x as (λ _. AreJoined (l ∷ ls) m n) [
        | inl (ma, bn) ↦ over l ls m l.a l.b n (inl (refl, refl)) (joined_walk ls m l.a ma) (joined_walk ls l.b n bn)
        | inr (mb, an) ↦ over l ls m l.b l.a n (inr (refl, refl)) (joined_walk ls m l.b mb) (joined_walk ls l.a n an)
      ]
    ]

pub joined_exactly : (b : Bool) (ls : List LinkPlan) (m n : ℕ) → b ≡ is_joined ls m n → IsTrue b ↔ AreJoined ls m n
joined_exactly b ls m n same = (λ t. joined_walk ls m n (sym same ∙ t), λ w. same ∙ walk_joins ls w.0 m n w.1)
