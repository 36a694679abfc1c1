-- The numbers of objects are below the next one, and no two are the same.
use Rattle.std.proofs.Common.{◌≡◌, ℕ, ◌+◌, ◌-◌, ◌^◌, ◌<◌, min, Bool, true, false, List, [], None, Ok, refl, sym, ap, subst, ◌∙◌, arith}
use Rattle.std.specs.Prelude.{nat_lt, slice_index_or}
use Rattle.std.specs.List.{AllByRecursion}
use Rattle.std.specs.Map.{keys_of}
use Rattle.std.proofs.lemmas.Bool.{both_ways, ltb-true}
use Rattle.rina_base.specs.declared.class.Class.{Class}
use Rattle.rina_rib.specs.declared.caller.Caller.{Caller}
use Rattle.rina_rib.specs.Things.{Thing, thing, made_value}
use Rattle.rina_rib.specs.Objects.{Named, object_at}
use Rattle.rina_rib.specs.Rows.{Tree, first_tree, created, deleted, written, turned}
use Rattle.rina_rib.specs.Laws.{Has, StandInTree, AreNumbered}
use Rattle.rina_rib.proofs.Lookups.{split, at, at_same, at_itself, nothing, same_thing, with_other, with_same, without_other, without_same, changed_other, changed_same}
use Rattle.rina_rib.proofs.Changes.{IsCreated, is_created, with_one, IsDeleted, is_deleted, without_one, IsChanged, is_written, is_turned, with_other_one}
use Rattle.rina_rib.proofs.Growth.{each_of}

apart_from : (n name : List ℕ) → at n name ≡ false → n ≡ name → ⊥
apart_from n name lacks is = both_ways (at n name) lacks (subst (λ (m : List ℕ). at n m ≡ true) is (at_itself n))

-- ---- the start
abbrev IsSmall : Named → Type 0
IsSmall e = nat_lt e.1.instance 7 ≡ true

-- the name of an object of the start, by its number
abbrev name_of : ℕ → List ℕ
name_of n = slice_index_or (keys_of first_tree.objects) n []

abbrev IsNamedSo : Named → Type 0
IsNamedSo e = name_of e.1.instance ≡ e.0

first_small : AllByRecursion IsSmall first_tree.objects
first_small = (refl, (refl, (refl, (refl, (refl, (refl, (refl, tt)))))))

first_named_so : AllByRecursion IsNamedSo first_tree.objects
first_named_so = (refl, (refl, (refl, (refl, (refl, (refl, (refl, tt)))))))

pub first_numbered : AreNumbered first_tree
first_numbered = record {
  below = λ name o h. ltb-true o.instance 7 (each_of IsSmall first_tree.objects first_small name o h);
  apart = λ name other o p h k same. sym (each_of IsNamedSo first_tree.objects first_named_so name o h) ∙ ap (λ (n : ℕ). name_of n) same ∙ each_of IsNamedSo first_tree.objects first_named_so other p k;
}

-- ---- one more
next_up : (n : ℕ) → n < 2 ^ 64 - 1 → min (n + 1) (2 ^ 64 - 1) ≡ n + 1
next_up n low = omega (arith, low)

with_numbers : (t : Tree) (name : List ℕ) (x : Thing) → x.instance ≡ t.next → t.next < 2 ^ 64 - 1 → AreNumbered t → AreNumbered (with_one t name x)
with_numbers t name x new low numbers =
    let u : Tree = with_one t name x in
    let up : u.next ≡ t.next + 1 = next_up t.next low in
    let made : (n : List ℕ) (o : Thing) → at n name ≡ true → Has u n o → o.instance ≡ t.next = λ n o yes has.
    let here : Has u n x = subst (λ (m : List ℕ). Has u m x) (sym (at_same n name yes)) (with_same t.objects name x) in
    ap (λ (z : Thing). z.instance) (sym (same_thing x o (sym here ∙ has))) ∙ new in
    let before : (n : List ℕ) (o : Thing) → at n name ≡ false → Has u n o → Has t n o = λ n o no has. sym (with_other t.objects name n x (apart_from n name no)) ∙ has in
    record {
      below = λ n o has. split (at n name) (λ yes. omega (arith, made n o yes has, up)) (λ no. omega (arith, numbers.below n o (before n o no has), up));
      apart = λ n m o p has hat same. split (at n name) (λ yes. split (at m name) (λ too. at_same n name yes ∙ sym (at_same m name too)) (λ other.
          absurd (omega (arith, made n o yes has, numbers.below m p (before m p other hat), same)))) (λ no. split (at m name) (λ too.
          absurd (omega (arith, made m p too hat, numbers.below n o (before n o no has), same))) (λ other.
          numbers.apart n m o p (before n o no has) (before m p other hat) same));
    }

abbrev After : ℕ → Tree → Type 0
After n after = AreNumbered after × (after.next ≡ n)

pub created_numbers : (t after : Tree) (by : Caller) (name : List ℕ) (class : Class) (value : List ℕ) → AreNumbered t → t.next < 2 ^ 64 - 1 → created t by name class value ≡ Ok after → AreNumbered after × (after.next ≡ t.next + 1)
created_numbers t after by name class value numbers low h =
    let made : IsCreated t after by name class value = is_created t after by name class value h in
    subst (λ (u : Tree). After (t.next + 1) u) made.is (with_numbers t name (thing class t.next (made_value class value)) refl low numbers, next_up t.next low)

-- ---- one less
without_numbers : (t : Tree) (name : List ℕ) → StandInTree t → AreNumbered t → AreNumbered (without_one t name)
without_numbers t name tree numbers =
    let u : Tree = without_one t name in
    let before : (n : List ℕ) (o : Thing) → Has u n o → Has t n o = λ n o has. split (at n name) (λ yes.
    let gone : object_at u.objects n ≡ None = subst (λ (m : List ℕ). object_at u.objects m ≡ None) (sym (at_same n name yes)) (without_same t.objects name tree.ordered) in
    nothing o (sym gone ∙ has)) (λ no. sym (without_other t.objects name n (apart_from n name no)) ∙ has) in
    record {
      below = λ n o has. numbers.below n o (before n o has);
      apart = λ n m o p has hat same. numbers.apart n m o p (before n o has) (before m p hat) same;
    }

pub deleted_numbers : (t after : Tree) (by : Caller) (name : List ℕ) → StandInTree t → AreNumbered t → deleted t by name ≡ Ok after → AreNumbered after × (after.next ≡ t.next)
deleted_numbers t after by name tree numbers h =
    let gone : IsDeleted t after by name = is_deleted t after by name h in
    subst (λ (u : Tree). After t.next u) gone.is (without_numbers t name tree numbers, refl)

-- ---- another one of a name
changed_numbers : (t : Tree) (name : List ℕ) (o w : Thing) → Has t name o → w.instance ≡ o.instance → AreNumbered t → AreNumbered (with_other_one t name w)
changed_numbers t name o w was instance numbers =
    let u : Tree = with_other_one t name w in
    -- each object of now was there before, with the same number
    let before : (n : List ℕ) (x : Thing) → Has u n x → (y : Thing) × Has t n y × (x.instance ≡ y.instance) = λ n x has. split (at n name) (λ yes.
    let is : n ≡ name = at_same n name yes in
    let here : Has u n w = subst (λ (m : List ℕ). Has u m w) (sym is) (changed_same t.objects name w o was) in
    (o, subst (λ (m : List ℕ). Has t m o) (sym is) was, ap (λ (z : Thing). z.instance) (sym (same_thing w x (sym here ∙ has))) ∙ instance)) (λ no.
    (x, sym (changed_other t.objects name n w (apart_from n name no)) ∙ has, refl)) in
    record {
      below = λ n x has. let b = before n x has in omega (arith, numbers.below n b.0 b.1, b.2);
      apart = λ n m x y has hat same. let b = before n x has in let d = before m y hat in numbers.apart n m b.0 d.0 b.1 d.1 (sym b.2 ∙ same ∙ d.2);
    }

after_numbers : (t after : Tree) (by : Caller) (name : List ℕ) (o w : Thing) → IsChanged t after by name o w → AreNumbered t → AreNumbered after × (after.next ≡ t.next)
after_numbers t after by name o w h numbers = subst (λ (u : Tree). After t.next u) h.is (changed_numbers t name o w h.was h.instance numbers, refl)

pub written_numbers : (t after : Tree) (by : Caller) (name : List ℕ) (class : Class) (value : List ℕ) → AreNumbered t → written t by name class value ≡ Ok after → AreNumbered after × (after.next ≡ t.next)
written_numbers t after by name class value numbers h =
    let w = is_written t after by name class value h in
    after_numbers t after by name w.0 _ w.2 numbers

pub turned_numbers : (t after : Tree) (by : Caller) (op : ℕ) (name : List ℕ) (on : Bool) → AreNumbered t → turned t by op name on ≡ Ok after → AreNumbered after × (after.next ≡ t.next)
turned_numbers t after by op name on numbers h =
    let w = is_turned t after by op name on h in
    after_numbers t after by name w.0 _ w.2 numbers
