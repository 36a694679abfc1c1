-- The folder in which a name stands is the name without its last part.
use Rattle.std.proofs.Common.{◌≡◌, ℕ, ◌+◌, ◌<◌, max, ◌⊎◌, inl, inr, ⊎_elim, true, false, ◌||◌, ◌&&◌, cond, List, [], ◌∷◌, ◌++◌, length, take, codes, Option, Some, None, refl, sym, ap, subst, ◌∙◌, arith, length-append}
use Rattle.std.specs.Prelude.{nat_lt, nat_le, ◌==◌}
use Rattle.std.specs.List.{AllByRecursion}
use Rattle.std.proofs.lemmas.Bool.{both_ways, and_parts, eqb-true, ne_eqb, lt-leb}
use Rattle.std.proofs.lemmas.Slice.Eq.{bytes_eq-Decides}
use Rattle.std.proofs.lemmas.Grind.{common_steps}
use Rattle.rina_base.specs.ObjectNames.{IsObjectName, is_object_name, are_parts, is_object_byte}
use Rattle.rina_rib.specs.Names.{last_slash, parent_of, is_child}
use Rattle.rina_rib.specs.Laws.{IsPart, StandsIn}
use Rattle.rina_rib.proofs.Lookups.{split}

abbrev pub NoSlash : List ℕ → Type 0
NoSlash part = AllByRecursion (λ (b : ℕ). b ≡ 47 → ⊥) part

-- without a slash the one so far is the last
pub none_behind : (part : List ℕ) (last at : ℕ) → NoSlash part → last_slash last at part ≡ last
unfolding last_slash
none_behind [] last at h = refl
none_behind (b ∷ part) last at h =
    let other : (b == 47) ≡ false = ne_eqb b 47 h.0 in
    rw other (none_behind part last (at + 1) h.1)

-- the last slash is the one behind which no other stands
pub slash_behind : (front part : List ℕ) (last at : ℕ) → NoSlash part → last_slash last at (front ++ 47 ∷ part) ≡ at + length front
unfolding last_slash
slash_behind [] part last at h = none_behind part at (at + 1) h ∙ omega arith
slash_behind (b ∷ front) part last at h =
    let rest : last_slash (cond (b == 47) at last) (at + 1) (front ++ 47 ∷ part) ≡ (at + 1) + length front = slash_behind front part (cond (b == 47) at last) (at + 1) h in
    rest ∙ omega arith

-- bytes have no slash, or one is the last
pub record HasLast (bytes : List ℕ) : Type 0 where
  pub front : List ℕ
  pub part : List ℕ
  pub no_slash : NoSlash part
  pub is : bytes ≡ front ++ 47 ∷ part

pub last_cases : (bytes : List ℕ) → NoSlash bytes ⊎ HasLast bytes
last_cases [] = inl tt
last_cases (b ∷ bytes) =
    ⊎_elim (λ none. split (b == 47) (λ yes.
    inr (record { front = []; part = bytes; no_slash = none; is = ap (λ (x : ℕ). x ∷ bytes) (eqb-true b 47 yes) })) (λ no.
    inl ((λ is. both_ways (b == 47) no (subst (λ (x : ℕ). (x == 47) ≡ true) (sym is) refl)), none))) (λ one.
    inr (record { front = b ∷ one.front; part = one.part; no_slash = one.no_slash; is = ap (λ (xs : List ℕ). b ∷ xs) one.is })) (last_cases bytes)

-- no name ends with a slash
no_end : (front : List ℕ) (before : ℕ) → are_parts before (front ++ 47 ∷ []) ≡ true → ⊥
unfolding are_parts
no_end [] before h = both_ways false refl (and_parts (nat_le 1 before) false h).1
no_end (b ∷ front) before h =
    split (b == 47) (λ yes.
    no_end front 0 (and_parts (nat_le 1 before) (are_parts 0 (front ++ 47 ∷ [])) (rw yes at h)).1) (λ no.
    no_end front (before + 1) (and_parts (is_object_byte b && nat_lt before 130) (are_parts (before + 1) (front ++ 47 ∷ [])) (rw no at h)).1)

some_part : (front part : List ℕ) → are_parts 0 (front ++ 47 ∷ part) ≡ true → 0 < length part
some_part front [] h = absurd (no_end front 0 h)
some_part front (b ∷ part) h = omega arith

-- ---- from the name without its last part to the folder
lt_from : (n m : ℕ) → nat_le n m ≡ false → m < n
lt_from n m k = grind (arith, common_steps, k)

abbrev a_name : List ℕ → Option (List ℕ)
a_name name = Some name

some_same : (xs ys : List ℕ) → a_name xs ≡ a_name ys → xs ≡ ys
some_same xs ys k = grind (arith, k)

no_name : {G : Type 0} (folder : List ℕ) → None ≡ a_name folder → G
no_name folder h = absurd (grind (arith, h))

parent_is : (name folder : List ℕ) → parent_of name ≡ Some folder → (1 < length name) × (take (max (last_slash 0 0 name) 1) name ≡ folder)
unfolding parent_of
parent_is name folder h =
    split (nat_le (length name) 1) (λ short. no_name folder (rw short at h)) (λ long.
    (lt_from (length name) 1 long, some_same (take (max (last_slash 0 0 name) 1) name) folder (rw long at h)))

pub take_front : (front rest : List ℕ) (n : ℕ) → n ≡ length front → take n (front ++ rest) ≡ front
take_front front rest n h = grind (arith, common_steps, h)

text_parts : (text : List ℕ) → 0 < length text → ((length text == 0) || are_parts 0 text) ≡ true → are_parts 0 text ≡ true
text_parts [] long k = absurd (omega (arith, long))
text_parts (x ∷ xs) long k = grind (arith, common_steps, k)

by_last : (b : ℕ) (text folder : List ℕ) → b ≡ 47 → are_parts 0 text ≡ true → 1 < length (b ∷ text) → take (max (last_slash 0 0 (b ∷ text)) 1) (b ∷ text) ≡ folder → NoSlash text ⊎ HasLast text → StandsIn folder (b ∷ text)
by_last b text folder root parts long is (inl none) =
    let name_is : b ∷ text ≡ 47 ∷ text = ap (λ (x : ℕ). x ∷ text) root in
    let last : last_slash 0 0 (47 ∷ text) ≡ 0 = slash_behind [] text 0 0 none in
    let above : codes "/" ≡ folder = sym (ap (λ (n : ℕ). take (max n 1) (47 ∷ text)) last) ∙ sym (ap (λ (xs : List ℕ). take (max (last_slash 0 0 xs) 1) xs) name_is) ∙ is in
    record { part = text; is_part = record { some = omega (arith, long); no_slash = none }; joined = inl (sym above, name_is ∙ ap (λ (xs : List ℕ). xs ++ text) above) }
by_last b text folder root parts long is (inr one) =
    let name_is : b ∷ text ≡ (47 ∷ one.front) ++ 47 ∷ one.part = ap (λ (x : ℕ). x ∷ text) root ∙ ap (λ (xs : List ℕ). 47 ∷ xs) one.is in
    let last : last_slash 0 0 ((47 ∷ one.front) ++ 47 ∷ one.part) ≡ 0 + length (47 ∷ one.front) = slash_behind (47 ∷ one.front) one.part 0 0 one.no_slash in
    let above : 47 ∷ one.front ≡ folder = sym (take_front (47 ∷ one.front) (47 ∷ one.part) (max (last_slash 0 0 ((47 ∷ one.front) ++ 47 ∷ one.part)) 1) (omega (arith, last))) ∙ sym (ap (λ (xs : List ℕ). take (max (last_slash 0 0 xs) 1) xs) name_is) ∙ is in
    record { part = one.part; is_part = record { some = some_part one.front one.part (subst (λ (xs : List ℕ). are_parts 0 xs ≡ true) one.is parts); no_slash = one.no_slash }; joined = inr (name_is ∙ ap (λ (xs : List ℕ). xs ++ 47 ∷ one.part) above) }

pub parent_stands : (name folder : List ℕ) → IsObjectName name → parent_of name ≡ Some folder → StandsIn folder name
unfolding is_object_name
parent_stands [] folder named h = absurd (both_ways false refl named)
parent_stands (b ∷ text) folder named h =
    let p = parent_is (b ∷ text) folder h in
    let r = and_parts (b == 47) ((length text == 0) || are_parts 0 text) named in
    by_last b text folder (eqb-true b 47 r.0) (text_parts text (omega (arith, p.0)) r.1) p.0 p.1 (last_cases text)

-- ---- and back
is_parent : (name folder : List ℕ) → 1 < length name → take (max (last_slash 0 0 name) 1) name ≡ folder → parent_of name ≡ Some folder
unfolding parent_of
is_parent name folder long is =
    let far : nat_le (length name) 1 ≡ false = lt-leb (length name) 1 long in
    rw far (ap a_name is)

parent_joined : (name folder part : List ℕ) → 0 < length folder → IsPart part → ((folder ≡ codes "/") × (name ≡ folder ++ part)) ⊎ (name ≡ folder ++ 47 ∷ part) → parent_of name ≡ Some folder
parent_joined name folder part some p (inl root) =
    let name_is : 47 ∷ part ≡ name = sym (root.1 ∙ ap (λ (xs : List ℕ). xs ++ part) root.0) in
    let last : last_slash 0 0 (47 ∷ part) ≡ 0 = slash_behind [] part 0 0 p.no_slash in
    let above : take (max (last_slash 0 0 (47 ∷ part)) 1) (47 ∷ part) ≡ folder = ap (λ (n : ℕ). take (max n 1) (47 ∷ part)) last ∙ sym root.0 in
    subst (λ (xs : List ℕ). parent_of xs ≡ Some folder) name_is (is_parent (47 ∷ part) folder (omega (arith, p.some)) above)
parent_joined name folder part some p (inr is) =
    let last : last_slash 0 0 (folder ++ 47 ∷ part) ≡ 0 + length folder = slash_behind folder part 0 0 p.no_slash in
    let above : take (max (last_slash 0 0 (folder ++ 47 ∷ part)) 1) (folder ++ 47 ∷ part) ≡ folder = take_front folder (47 ∷ part) (max (last_slash 0 0 (folder ++ 47 ∷ part)) 1) (omega (arith, last, some)) in
    subst (λ (xs : List ℕ). parent_of xs ≡ Some folder) (sym is) (is_parent (folder ++ 47 ∷ part) folder (omega (arith, length-append folder (47 ∷ part), some)) above)

name_long : (name : List ℕ) → IsObjectName name → 0 < length name
unfolding is_object_name
name_long [] h = absurd (both_ways false refl h)
name_long (b ∷ text) h = omega arith

pub stands_child : (name folder : List ℕ) → IsObjectName folder → StandsIn folder name → is_child folder name ≡ true
unfolding is_child
stands_child name folder named h =
    let above : parent_of name ≡ Some folder = parent_joined name folder h.part (name_long folder named) h.is_part h.joined in
    rw above ((bytes_eq-Decides folder folder).1 refl)
