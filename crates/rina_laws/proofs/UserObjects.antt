-- Nothing lies below `/user` at the members of a DIF that was made, and binding a flow puts nothing there.
use Rattle.std.proofs.Common.{◌≡◌, ◌∙◌, ◌⊎◌, inl, inr, ⊎_elim, ℕ, Bool, true, false, cond, not, nat_eq, List, [], ◌∷◌, ◌++◌, Option, Some, None, Result, Ok, Err, Contains, map, slice_get, option_map, if◌then◌else◌, refl, sym, ap, subst}
use Rattle.std.specs.Prelude.{codes, is_some}
use Rattle.std.specs.List.{fold, starts_with}
use Rattle.std.proofs.lemmas.Bool.{false≢true}
use Rattle.std.proofs.lemmas.List.Elements.{Contains-append_cases, Contains-push_cases}
use Rattle.std.proofs.lemmas.Option.{slice_get-map}
use Rattle.rina_base.specs.declared.class.Class.{Class}
use Rattle.rina_base.specs.declared.class.Class.TheVariants as classes
use Rattle.rina_base.specs.ObjectNames.{is_object_name}
use Rattle.rina_cube.specs.declared.Cube.{Cube}
use Rattle.rina_iface.proofs.Changed.{set_at}
use Rattle.rina_newest.specs.declared.item.Item.{Item}
use Rattle.rina_newest.specs.Newest.{has_key, is_newer, kept_at, taken, taken_all, without}
use Rattle.rina_dir.specs.Directory.{key_of}
use Rattle.rina_rib.specs.declared.caller.Caller.TheVariants.{Own}
use Rattle.rina_rib.specs.declared.error.RibError.{RibError}
use Rattle.rina_rib.specs.Laws.{LiesBelow}
use Rattle.rina_rib.specs.Objects.{object_at}
use Rattle.rina_rib.specs.Rows.{Tree, created, deleted, first_tree, written}
use Rattle.rina_rib.proofs.Changes.{created_changes, is_deleted, written_changes}
use Rattle.rina_rib.proofs.Lookups.{at_other, without_other}
use Rattle.rina_route.proofs.Lists.{contains_filter, contains_unmap, head, in_none, tail}
use Rattle.rina_plan.specs.declared.dif.LinkPlan.{LinkPlan}
use Rattle.rina_data.specs.declared.settings.Member.{Member}
use Rattle.rina_member.specs.declared.management.Management.{Management}
use Rattle.rina_member.specs.Managements.{entered, with_flow}
use Rattle.rina_member.specs.Objects.{cube_told, first_objects, flow_name, item_told, or_same, removed, shown_as, told}
use Rattle.rina_member.specs.Start.{first_enrolled, items_held, items_taken, member_item, start_items, starts_enrolled, state_item, state_items}
use Rattle.rina_dif.specs.Changing.{changed_if, with_flow_at}
use Rattle.rina_laws.specs.Starts.{NoneOfUser}

abbrev user : List ℕ
user = codes "/user"

-- Names

not_user : (key : List ℕ) → starts_with nat_eq key (codes "/user/") ≡ false → LiesBelow user key → ⊥
not_user key differs below = false≢true (sym differs ∙ ap (λ (k : List ℕ). starts_with nat_eq k (codes "/user/")) below.1)

entry_free : (app : List ℕ) → starts_with nat_eq (key_of app) (codes "/user/") ≡ false
unfolding key_of
entry_free app = refl

-- One object more or less

written_other : (t : Tree) (name value q : List ℕ) (class : Class) (r : Result Tree RibError) → written t Own name class value ≡ r → (q ≡ name → ⊥) → object_at (or_same t r).objects q ≡ object_at t.objects q
written_other t name value q class (Ok after) is other = (written_changes t after Own name class value is).2.others q other
written_other t name value q class (Err e) is other = refl

created_other : (t : Tree) (name value q : List ℕ) (class : Class) (r : Result Tree RibError) → created t Own name class value ≡ r → (q ≡ name → ⊥) → object_at (or_same t r).objects q ≡ object_at t.objects q
created_other t name value q class (Ok after) is other = (created_changes t after Own name class value is).others q other
created_other t name value q class (Err e) is other = refl

deleted_other : (t : Tree) (name q : List ℕ) (r : Result Tree RibError) → deleted t Own name ≡ r → (q ≡ name → ⊥) → object_at (or_same t r).objects q ≡ object_at t.objects q
deleted_other t name q (Ok after) is other = sym (ap (λ (z : Tree). object_at z.objects q) (is_deleted t after Own name is).is) ∙ without_other t.objects name q other
deleted_other t name q (Err e) is other = refl

told_by : (t : Tree) (name value q : List ℕ) (class : Class) (a b : Bool) → (q ≡ name → ⊥) → object_at (cond a (cond b (or_same t (written t Own name class value)) (or_same t (created t Own name class value))) t).objects q ≡ object_at t.objects q
told_by t name value q class true true other = written_other t name value q class (written t Own name class value) refl other
told_by t name value q class true false other = created_other t name value q class (created t Own name class value) refl other
told_by t name value q class false b other = refl

removed_by : (t : Tree) (name q : List ℕ) (a : Bool) → (q ≡ name → ⊥) → object_at (cond a (or_same t (deleted t Own name)) t).objects q ≡ object_at t.objects q
removed_by t name q true other = deleted_other t name q (deleted t Own name) refl other
removed_by t name q false other = refl

none_told : (t : Tree) (name value : List ℕ) (class : Class) → (LiesBelow user name → ⊥) → NoneOfUser t → NoneOfUser (told t name class value)
none_told t name value class free none q o below has =
    none q o below (sym (told_by t name value q class (is_object_name name) (is_some (object_at t.objects name)) (λ same. free (subst (λ (z : List ℕ). LiesBelow user z) same below))) ∙ has)

none_removed : (t : Tree) (name : List ℕ) → (LiesBelow user name → ⊥) → NoneOfUser t → NoneOfUser (removed t name)
none_removed t name free none q o below has =
    none q o below (sym (removed_by t name q (is_object_name name) (λ same. free (subst (λ (z : List ℕ). LiesBelow user z) same below))) ∙ has)

none_shown : (t : Tree) (key : List ℕ) (value : Option (List ℕ)) → (LiesBelow user key → ⊥) → NoneOfUser t → NoneOfUser (shown_as t key value)
none_shown t key (Some value) free none = none_told t key value classes.Value free none
none_shown t key None free none = none_removed t key free none

-- From the start

none_first : NoneOfUser first_tree
none_first q o below has =
    let other : (k : List ℕ) → starts_with nat_eq k (codes "/user/") ≡ false → q ≡ k → ⊥ = λ k differs same. not_user k differs (subst (λ (z : List ℕ). LiesBelow user z) same below) in
    let gone = rw (at_other q (codes "/") (other (codes "/") refl), at_other q (codes "/cube") (other (codes "/cube") refl), at_other q (codes "/dir") (other (codes "/dir") refl), at_other q (codes "/flow") (other (codes "/flow") refl), at_other q (codes "/link") (other (codes "/link") refl), at_other q (codes "/member") (other (codes "/member") refl), at_other q (codes "/user") (other (codes "/user") refl)) at has in
    absurd cc

none_cubes : (t : Tree) (cubes : List Cube) → NoneOfUser t → NoneOfUser (fold cube_told t cubes)
none_cubes t [] none = none
none_cubes t (c ∷ cubes) none = none_cubes (cube_told t c) cubes (none_told t _ _ classes.Cube (not_user _ refl) none)

none_items : (t : Tree) (items : List Item) → ((x : Item) → Contains items x → LiesBelow user x.key → ⊥) → NoneOfUser t → NoneOfUser (fold item_told t items)
none_items t [] free none = none
none_items t (x ∷ items) free none = none_items (item_told t x) items (λ y among. free y (tail x items y among)) (none_shown t x.key x.value (free x (head x items)) none)

taken_if : (b : Bool) (items : List Item) (x y : Item) → Contains (cond b (without x.key items ++ x ∷ []) items) y → Contains items y ⊎ (x ≡ y)
taken_if true items x y h = ⊎_elim (λ old. inl ((contains_filter (λ item. not (has_key x.key item)) items y old).0)) (λ same. inr same) (Contains-push_cases (without x.key items) x y h)
taken_if false items x y h = inl h

free_taken : (items : List Item) (x : Item) → (LiesBelow user x.key → ⊥) → ((y : Item) → Contains items y → LiesBelow user y.key → ⊥) → (y : Item) → Contains (taken items x) y → LiesBelow user y.key → ⊥
unfolding taken
free_taken items x free all y among = ⊎_elim (λ old. all y old) (λ same. subst (λ (z : Item). LiesBelow user z.key → ⊥) same free) (taken_if (is_newer x.version (kept_at items x.key)) items x y among)

free_all : (items new : List Item) → ((y : Item) → Contains items y → LiesBelow user y.key → ⊥) → ((y : Item) → Contains new y → LiesBelow user y.key → ⊥) → (y : Item) → Contains (taken_all items new) y → LiesBelow user y.key → ⊥
free_all items [] all free y among = all y among
free_all items (x ∷ new) all free y among = free_all (taken items x) new (free_taken items x (free x (head x new)) all) (λ z later. free z (tail x new z later)) y among

free_states : (is_static : Bool) (members : List Member) (plans : List LinkPlan) (y : Item) → Contains (state_items is_static members plans) y → LiesBelow user y.key → ⊥
free_states true members plans y among = (let r = contains_unmap (state_item members plans) members y among in subst (λ (z : Item). LiesBelow user z.key → ⊥) r.2 (not_user _ refl))
free_states false members plans y among = absurd (in_none y among)

free_start : (is_static : Bool) (members : List Member) (plans : List LinkPlan) (y : Item) → Contains (start_items is_static members plans) y → LiesBelow user y.key → ⊥
free_start is_static members plans y among = ⊎_elim
    (λ first. (let r = contains_unmap member_item (first_enrolled is_static members) y first in subst (λ (z : Item). LiesBelow user z.key → ⊥) r.2 (not_user _ refl)))
    (free_states is_static members plans y)
    (Contains-append_cases (map member_item (first_enrolled is_static members)) (state_items is_static members plans) y among)

-- what a member holds, be it enrolled or not
free_held : (enrolled is_static : Bool) (members : List Member) (plans : List LinkPlan) (y : Item) → Contains (if enrolled then items_taken is_static members plans else []) y → LiesBelow user y.key → ⊥
free_held true is_static members plans y among = free_all [] (start_items is_static members plans) (λ z none. absurd (in_none z none)) (free_start is_static members plans) y among
free_held false is_static members plans y among = absurd (in_none y among)

pub none_started : (cubes : List Cube) (is_static : Bool) (members : List Member) (plans : List LinkPlan) (m : Member) (t : Tree) → t ≡ first_objects cubes (items_held is_static members plans m) → NoneOfUser t
none_started cubes is_static members plans m t is = subst NoneOfUser (sym is)
    (none_items (fold cube_told first_tree cubes) (items_held is_static members plans m) (free_held (starts_enrolled is_static members m.addr) is_static members plans) (none_cubes first_tree cubes none_first))

-- A flow is bound

none_entered : (app : List ℕ) (address : ℕ) (m : Management) → NoneOfUser m.objects → NoneOfUser (entered app address m).objects
unfolding entered
none_entered app address m none = none_shown m.objects (key_of app) _ (not_user (key_of app) (entry_free app)) none

none_flow : (m : Management) (cep : ℕ) → NoneOfUser m.objects → NoneOfUser (with_flow m cep).objects
none_flow m cep none = none_told m.objects (flow_name cep) [] classes.Flow (not_user _ refl) none

-- so at the member of a place
abbrev pub NoneAt : List Management → ℕ → Type 0
NoneAt ms k = (m : Management) → slice_get ms k ≡ Some m → NoneOfUser m.objects

changed_none : (o : Option Management) (at cep k : ℕ) (ms : List Management) → slice_get ms at ≡ o → NoneAt ms k → NoneAt (changed_if o at (λ m. with_flow m cep) ms) k
changed_none None at cep k ms is none m here = none m here
changed_none (Some x) at cep k ms is none m here = elim (set_at ms at k x (with_flow x cep) m is here) [
  | inl s ↦ subst (λ (z : Management). NoneOfUser z.objects) (sym s.1) (none_flow x cep (none x (ap (slice_get ms) s.0 ∙ is)))
  | inr u ↦ none m u.1
]

flow_none : (at cep k : ℕ) (ms : List Management) → NoneAt ms k → NoneAt (with_flow_at at cep ms) k
flow_none at cep k ms none = changed_none (slice_get ms at) at cep k ms refl none

mapped_none : (app : List ℕ) (address k : ℕ) (ms : List Management) (o : Option Management) (m : Management) → slice_get ms k ≡ o → option_map (entered app address) o ≡ Some m → NoneAt ms k → NoneOfUser m.objects
mapped_none app address k ms None m is made none = absurd cc
mapped_none app address k ms (Some x) m is made none =
    let same : entered app address x ≡ m = cc in
    subst (λ (z : Management). NoneOfUser z.objects) same (none_entered app address x (none x is))

entered_none : (app : List ℕ) (address k : ℕ) (ms : List Management) → NoneAt ms k → NoneAt (map (entered app address) ms) k
entered_none app address k ms none m here = mapped_none app address k ms (slice_get ms k) m refl (sym (slice_get-map (entered app address) ms k) ∙ here) none

pub none_bound : (app : List ℕ) (address a cep_a b cep_b k : ℕ) (ms : List Management) → NoneAt ms k → NoneAt (with_flow_at b cep_b (with_flow_at a cep_a (map (entered app address) ms))) k
none_bound app address a cep_a b cep_b k ms none = flow_none b cep_b k (with_flow_at a cep_a (map (entered app address) ms)) (flow_none a cep_a k (map (entered app address) ms) (entered_none app address k ms none))
