-- Objects that stand in a tree stay in one.
use Rattle.std.proofs.Common.{◌≡◌, ℕ, ◌⊎◌, inl, inr, ⊎_elim, Bool, true, false, ◌&&◌, List, [], ◌∷◌, ◌++◌, length, codes, Option, Some, None, Ok, refl, sym, ap, subst, ◌∙◌, arith}
use Rattle.std.specs.declared.cmp.Ordering.{Ordering}
use Rattle.std.specs.declared.cmp.Ordering.TheVariants.{Less, Greater}
use Rattle.std.specs.Ordering.{ordering_reverse}
use Rattle.std.specs.Prelude.{nat_lt}
use Rattle.std.specs.List.{AllByRecursion}
use Rattle.std.specs.List.Sorted.{IsStrictlySortedBy}
use Rattle.std.specs.Map.{keys_of}
use Rattle.std.proofs.lemmas.Bool.{both_ways, and_parts, or_parts, ltb-true}
use Rattle.std.proofs.lemmas.Cmp.{nat_list_cmp_total}
use Rattle.std.proofs.lemmas.Map.{keys-set_value}
use Rattle.rina_base.specs.declared.class.Class.{Class}
use Rattle.rina_base.specs.declared.class.Class.TheVariants.{Folder}
use Rattle.rina_base.specs.ObjectNames.{IsObjectName, is_object_name, are_parts, is_object_byte}
use Rattle.rina_base.specs.Names.{is_name_byte}
use Rattle.rina_rib.specs.declared.caller.Caller.{Caller}
use Rattle.rina_rib.specs.Names.{parent_of, is_child}
use Rattle.rina_rib.specs.Things.{Thing, thing, made_value}
use Rattle.rina_rib.specs.Objects.{Named, name_cmp, object_at, with_object, without_object, changed_object, has_child, has_folder, folder_at, is_folder_there, AreInOrder}
use Rattle.rina_rib.specs.Rows.{Tree, first_tree, folder, created, deleted, written, turned}
use Rattle.rina_rib.specs.Laws.{Has, IsPart, StandsIn, HasItsFolder, StandInTree}
use Rattle.rina_rib.proofs.Lookups.{split, by_order, at, at_same, at_itself, there, nothing, same_thing, with_other, without_other, without_same, changed_other, changed_same}
use Rattle.rina_rib.proofs.Changes.{IsCreated, is_created, with_one, IsDeleted, is_deleted, without_one, IsChanged, is_written, is_turned, with_other_one, folder_same}
use Rattle.rina_rib.proofs.Parents.{parent_stands, stands_child}

-- ---- what holds of each name
pub all_with : (P : List ℕ → Type 0) (es : List Named) (k : List ℕ) (t : Thing) → AllByRecursion P (keys_of es) → P k → AllByRecursion P (keys_of (with_object es k t))
all_with P [] k t h one = (one, tt)
all_with P (e ∷ es) k t h one =
    by_order (name_cmp k e.0) (λ less. rw less (one, h)) (λ same. rw same h) (λ more. rw more (h.0, all_with P es k t h.1 one))

pub all_without : (P : List ℕ → Type 0) (es : List Named) (k : List ℕ) → AllByRecursion P (keys_of es) → AllByRecursion P (keys_of (without_object es k))
all_without P [] k h = tt
all_without P (e ∷ es) k h = split (at k e.0) (λ yes. rw yes h.1) (λ no. rw no (h.0, all_without P es k h.1))

-- ---- the order of names
all_above : (es : List Named) (k l : List ℕ) → name_cmp k l ≡ Less → AllByRecursion (λ (y : List ℕ). name_cmp l y ≡ Less) (keys_of es) → AllByRecursion (λ (y : List ℕ). name_cmp k y ≡ Less) (keys_of es)
all_above [] k l less h = tt
all_above (e ∷ es) k l less h = (nat_list_cmp_total.trans k l e.0 less h.0, all_above es k l less h.1)

turned_round : (k l : List ℕ) → name_cmp k l ≡ Greater → name_cmp l k ≡ Less
turned_round k l more = nat_list_cmp_total.antisymm l k ∙ ap (λ (o : Ordering). ordering_reverse o) more

order_with : (es : List Named) (k : List ℕ) (t : Thing) → AreInOrder es → AreInOrder (with_object es k t)
unfolding IsStrictlySortedBy
order_with [] k t h = (tt, tt)
order_with (e ∷ es) k t h =
    by_order (name_cmp k e.0) (λ less. rw less ((less, all_above es k e.0 less h.0), h)) (λ same. rw same h) (λ more.
    rw more (all_with (λ (y : List ℕ). name_cmp e.0 y ≡ Less) es k t h.0 (turned_round k e.0 more), order_with es k t h.1))

order_without : (es : List Named) (k : List ℕ) → AreInOrder es → AreInOrder (without_object es k)
unfolding IsStrictlySortedBy
order_without [] k h = tt
order_without (e ∷ es) k h =
    split (at k e.0) (λ yes. rw yes h.1) (λ no. rw no (all_without (λ (y : List ℕ). name_cmp e.0 y ≡ Less) es k h.0, order_without es k h.1))

changed_keys : (es : List Named) (k : List ℕ) (t : Thing) → keys_of es ≡ keys_of (changed_object es k t)
changed_keys es k t = sym (keys-set_value (at k) es t)

-- ---- what holds of each object
abbrev pair : List ℕ → Thing → Named
pair name o = (name, o)

both : (k l : List ℕ) (x y : Thing) → k ≡ l → there x ≡ there y → pair k x ≡ pair l y
both k l x y is same = ap (λ (n : List ℕ). pair n x) is ∙ ap (λ (z : Thing). pair l z) (same_thing x y same)

class_of_same : (o x : Thing) → there x ≡ there o → o.class ≡ x.class
class_of_same o x h = ap (λ (z : Thing). z.class) (sym (same_thing x o h))

pub each_of : (P : Named → Type 0) (es : List Named) → AllByRecursion P es → (name : List ℕ) (o : Thing) → object_at es name ≡ Some o → P (name, o)
each_of P [] all name o h = nothing o h
each_of P (e ∷ es) all name o h =
    split (at name e.0) (λ yes.
    let is_it : there e.1 ≡ there o = rw yes at h in
    let here : pair (e.0) (e.1) ≡ pair name o = both (e.0) name (e.1) o (sym (at_same name e.0 yes)) is_it in
    subst P here all.0) (λ no. each_of P es all.1 name o (rw no at h))

named_at : (es : List Named) → AllByRecursion (λ (n : List ℕ). IsObjectName n) (keys_of es) → (name : List ℕ) (o : Thing) → object_at es name ≡ Some o → IsObjectName name
named_at [] all name o h = nothing o h
named_at (e ∷ es) all name o h = split (at name e.0) (λ yes. subst (λ (n : List ℕ). IsObjectName n) (sym (at_same name e.0 yes)) all.0) (λ no. named_at es all.1 name o (rw no at h))

childless_at : (es : List Named) (folder : List ℕ) → has_child es folder ≡ false → (name : List ℕ) (o : Thing) → object_at es name ≡ Some o → is_child folder name ≡ false
childless_at [] folder none name o h = nothing o h
childless_at (e ∷ es) folder none name o h =
    let p = or_parts (is_child folder e.0) (has_child es folder) none in
    split (at name e.0) (λ yes. subst (λ (n : List ℕ). is_child folder n ≡ false) (sym (at_same name e.0 yes)) p.0) (λ no. childless_at es folder p.1 name o (rw no at h))

-- ---- folders
by_object : (t : Tree) (name above : List ℕ) (found : Option Thing) → StandsIn above name → object_at t.objects above ≡ found → is_folder_there found ≡ true → HasItsFolder t name
by_object t name above None stands is h = absurd (both_ways false refl h)
by_object t name above (Some o) stands is h = record { folder = above; stands = stands; object = o; there = is; is_folder = folder_same o.class h }

by_parent : (t : Tree) (name : List ℕ) (above : Option (List ℕ)) → IsObjectName name → parent_of name ≡ above → folder_at t.objects above ≡ true → HasItsFolder t name
by_parent t name None named is h = absurd (both_ways false refl h)
by_parent t name (Some above) named is h = by_object t name above (object_at t.objects above) (parent_stands name above named is) refl h

pub its_folder : (t : Tree) (name : List ℕ) → IsObjectName name → has_folder t.objects name ≡ true → HasItsFolder t name
its_folder t name named h = by_parent t name (parent_of name) named refl h

-- the folder is there still
kept_folder : (t after : Tree) (name : List ℕ) (h : HasItsFolder t name) (o : Thing) → Has after h.folder o → o.class ≡ Folder → HasItsFolder after name
kept_folder t after name h o has is = record { folder = h.folder; stands = h.stands; object = o; there = has; is_folder = is }

abbrev Rooted : Tree → List ℕ → Type 0
Rooted t name = (name ≡ codes "/") ⊎ HasItsFolder t name

-- ---- one more
with_tree : (t : Tree) (name : List ℕ) (x : Thing) → IsObjectName name → object_at t.objects name ≡ None → has_folder t.objects name ≡ true → StandInTree t → StandInTree (with_one t name x)
with_tree t name x named new_name parent tree =
    let new : Tree = with_one t name x in
    let other : (n : List ℕ) (o : Thing) → Has t n o → n ≡ name → ⊥ = λ n o has is. nothing o (sym (subst (λ (m : List ℕ). object_at t.objects m ≡ None) (sym is) new_name) ∙ has) in
    let keeps : (n : List ℕ) → HasItsFolder t n → HasItsFolder new n = λ n h. kept_folder t new n h h.object (with_other t.objects name h.folder x (other h.folder h.object h.there) ∙ h.there) h.is_folder in
    record {
      ordered = order_with t.objects name x tree.ordered;
      named = all_with (λ (n : List ℕ). IsObjectName n) t.objects name x tree.named named;
      folders = λ n o has. split (at n name) (λ yes.
          inr (keeps n (subst (λ (m : List ℕ). HasItsFolder t m) (sym (at_same n name yes)) (its_folder t name named parent)))) (λ no.
          let apart : n ≡ name → ⊥ = λ is. both_ways (at n name) no (subst (λ (m : List ℕ). at n m ≡ true) is (at_itself n)) in
          let before : Has t n o = sym (with_other t.objects name n x apart) ∙ has in
          ⊎_elim (λ root. inl root) (λ h. inr (keeps n h)) (tree.folders n o before));
    }

pub created_tree : (t after : Tree) (by : Caller) (name : List ℕ) (class : Class) (value : List ℕ) → IsObjectName name → StandInTree t → created t by name class value ≡ Ok after → StandInTree after
created_tree t after by name class value named tree h =
    let made : IsCreated t after by name class value = is_created t after by name class value h in
    subst (λ (u : Tree). StandInTree u) made.is (with_tree t name (thing class t.next (made_value class value)) named made.new_name made.has_parent tree)

-- ---- one less
without_tree : (t : Tree) (name : List ℕ) (x : Thing) → Has t name x → has_child t.objects name ≡ false → StandInTree t → StandInTree (without_one t name)
without_tree t name x was childless tree =
    let new : Tree = without_one t name in
    let named : IsObjectName name = named_at t.objects tree.named name x was in
    let keeps : (n : List ℕ) (o : Thing) → Has t n o → HasItsFolder t n → HasItsFolder new n = λ n o has h.
    let apart : h.folder ≡ name → ⊥ = λ is. both_ways (is_child name n) (childless_at t.objects name childless n o has) (stands_child n name named (subst (λ (f : List ℕ). StandsIn f n) is h.stands)) in
    kept_folder t new n h h.object (without_other t.objects name h.folder apart ∙ h.there) h.is_folder in
    record {
      ordered = order_without t.objects name tree.ordered;
      named = all_without (λ (n : List ℕ). IsObjectName n) t.objects name tree.named;
      folders = λ n o has. split (at n name) (λ yes.
          let gone : object_at new.objects n ≡ None = subst (λ (m : List ℕ). object_at new.objects m ≡ None) (sym (at_same n name yes)) (without_same t.objects name tree.ordered) in
          nothing o (sym gone ∙ has)) (λ no.
          let apart : n ≡ name → ⊥ = λ is. both_ways (at n name) no (subst (λ (m : List ℕ). at n m ≡ true) is (at_itself n)) in
          let before : Has t n o = sym (without_other t.objects name n apart) ∙ has in
          ⊎_elim (λ root. inl root) (λ h. inr (keeps n o before h)) (tree.folders n o before));
    }

pub deleted_tree : (t after : Tree) (by : Caller) (name : List ℕ) → StandInTree t → deleted t by name ≡ Ok after → StandInTree after
deleted_tree t after by name tree h =
    let gone : IsDeleted t after by name = is_deleted t after by name h in
    subst (λ (u : Tree). StandInTree u) gone.is (without_tree t name gone.object gone.was gone.childless tree)

-- ---- another one of a name
changed_tree : (t : Tree) (name : List ℕ) (o w : Thing) → Has t name o → w.class ≡ o.class → StandInTree t → StandInTree (with_other_one t name w)
changed_tree t name o w was class tree =
    let new : Tree = with_other_one t name w in
    let keeps : (n : List ℕ) → HasItsFolder t n → HasItsFolder new n = λ n h. split (at h.folder name) (λ yes.
    let is : h.folder ≡ name = at_same h.folder name yes in
    let has : Has new h.folder w = subst (λ (f : List ℕ). Has new f w) (sym is) (changed_same t.objects name w o was) in
    let same : there h.object ≡ there o = sym h.there ∙ ap (λ (f : List ℕ). object_at t.objects f) is ∙ was in
    kept_folder t new n h w has (class ∙ class_of_same o h.object same ∙ h.is_folder)) (λ no.
    let apart : h.folder ≡ name → ⊥ = λ is. both_ways (at h.folder name) no (subst (λ (m : List ℕ). at h.folder m ≡ true) is (at_itself h.folder)) in
    kept_folder t new n h h.object (changed_other t.objects name h.folder w apart ∙ h.there) h.is_folder) in
    record {
      ordered = subst (λ (ks : List (List ℕ)). IsStrictlySortedBy name_cmp ks) (changed_keys t.objects name w) tree.ordered;
      named = subst (λ (ks : List (List ℕ)). AllByRecursion (λ (n : List ℕ). IsObjectName n) ks) (changed_keys t.objects name w) tree.named;
      folders = λ n x has. split (at n name) (λ yes.
          ⊎_elim (λ root. inl root) (λ h. inr (keeps n h)) (tree.folders n o (subst (λ (m : List ℕ). Has t m o) (sym (at_same n name yes)) was))) (λ no.
          let apart : n ≡ name → ⊥ = λ is. both_ways (at n name) no (subst (λ (m : List ℕ). at n m ≡ true) is (at_itself n)) in
          let before : Has t n x = sym (changed_other t.objects name n w apart) ∙ has in
          ⊎_elim (λ root. inl root) (λ h. inr (keeps n h)) (tree.folders n x before));
    }

after_changed : (t after : Tree) (by : Caller) (name : List ℕ) (o w : Thing) → IsChanged t after by name o w → StandInTree t → StandInTree after
after_changed t after by name o w h tree = subst (λ (u : Tree). StandInTree u) h.is (changed_tree t name o w h.was h.class tree)

pub written_tree : (t after : Tree) (by : Caller) (name : List ℕ) (class : Class) (value : List ℕ) → StandInTree t → written t by name class value ≡ Ok after → StandInTree after
written_tree t after by name class value tree h =
    let w = is_written t after by name class value h in
    after_changed t after by name w.0 _ w.2 tree

pub turned_tree : (t after : Tree) (by : Caller) (op : ℕ) (name : List ℕ) (on : Bool) → StandInTree t → turned t by op name on ≡ Ok after → StandInTree after
turned_tree t after by op name on tree h =
    let w = is_turned t after by op name on h in
    after_changed t after by name w.0 _ w.2 tree

-- ---- the start
first_folder : (part : List ℕ) → IsPart part → HasItsFolder first_tree (codes "/" ++ part)
first_folder part h = record { folder = codes "/"; stands = record { part = part; is_part = h; joined = inl (refl, refl) }; object = folder 0; there = refl; is_folder = refl }

abbrev FirstRooted : Named → Type 0
FirstRooted e = Rooted first_tree e.0

are_letters : List ℕ → Bool
are_letters [] = true
are_letters (b ∷ part) = nat_lt 47 b && are_letters part

no_slashes : (part : List ℕ) → are_letters part ≡ true → AllByRecursion (λ (b : ℕ). b ≡ 47 → ⊥) part
unfolding are_letters
no_slashes [] h = tt
no_slashes (b ∷ part) h =
    let p = and_parts (nat_lt 47 b) (are_letters part) h in
    (λ is. omega (arith, ltb-true 47 b p.0, is), no_slashes part p.1)

letters : (part : List ℕ) → nat_lt 0 (length part) ≡ true → are_letters part ≡ true → IsPart part
letters part some h = record { some = ltb-true 0 (length part) some; no_slash = no_slashes part h }

first_rooted : AllByRecursion FirstRooted first_tree.objects
unfolding are_letters
first_rooted = (
  inl refl,
  (
    inr (first_folder (codes "cube") (letters (codes "cube") refl refl)),
    (
      inr (first_folder (codes "dir") (letters (codes "dir") refl refl)),
      (
        inr (first_folder (codes "flow") (letters (codes "flow") refl refl)),
        (
          inr (first_folder (codes "link") (letters (codes "link") refl refl)),
          (
            inr (first_folder (codes "member") (letters (codes "member") refl refl)),
            (inr (first_folder (codes "user") (letters (codes "user") refl refl)), tt),
          ),
        ),
      ),
    ),
  ),
)

first_ordered : AreInOrder first_tree.objects
unfolding IsStrictlySortedBy
first_ordered = search

first_named : AllByRecursion (λ (name : List ℕ). IsObjectName name) (keys_of first_tree.objects)
unfolding is_object_name are_parts is_object_byte is_name_byte
first_named = search

pub first_in_tree : StandInTree first_tree
first_in_tree = record { ordered = first_ordered; named = first_named; folders = λ name o h. each_of FirstRooted first_tree.objects first_rooted name o h }
