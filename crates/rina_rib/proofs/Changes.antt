-- What each operation changes.
use Rattle.std.proofs.Common.{◌≡◌, ℕ, ◌+◌, ◌-◌, ◌^◌, min, Bool, true, false, not, ◌||◌, List, Option, Some, None, is_some, Result, Ok, Err, cond, refl, sym, ap, subst, ◌∙◌, arith}
use Rattle.std.proofs.lemmas.Bool.{both_ways, or_parts, not-false}
use Rattle.rina_base.specs.declared.class.Class.{Class}
use Rattle.rina_base.specs.declared.class.Class.TheVariants.{Folder, Value, Cube, Flow, Service}
use Rattle.rina_base.specs.Classes.{is_folder, is_service, same_class}
use Rattle.rina_rib.specs.declared.error.RibError.{RibError}
use Rattle.rina_rib.specs.declared.caller.Caller.{Caller}
use Rattle.rina_rib.specs.Things.{Thing, thing, made_value, switched, with_value, on_or_off}
use Rattle.rina_rib.specs.Objects.{object_at, with_object, without_object, changed_object, has_child, has_folder}
use Rattle.rina_rib.specs.Rows.{Tree, created, deleted, written, written_to, turned, turned_to, is_foreign, is_outside, is_own}
use Rattle.rina_rib.specs.Laws.{Has, StandInTree, Changes}
use Rattle.rina_rib.proofs.Lookups.{there, same_thing, with_other, with_same, without_other, without_same, changed_other, changed_same}

abbrev pub Outcome : Type 0
Outcome = Result Tree RibError

abbrev pub done : Tree → Outcome
done t = Ok t

abbrev pub refused : RibError → Outcome
refused e = Err e

no_error : {G : Type 0} (e : RibError) (t : Tree) → refused e ≡ done t → G
no_error e t h = absurd (grind (arith, h))

same_tree : (t u : Tree) → done t ≡ done u → t ≡ u
same_tree t u h = grind (arith, h)

-- what was not refused
unless : (b : Bool) (e : RibError) (r : Outcome) (after : Tree) → cond b (refused e) r ≡ done after → (b ≡ false) × (r ≡ done after)
unless true e r after h = no_error e after h
unless false e r after h = (refl, h)

-- the RIB with one object more
abbrev pub with_one : Tree → List ℕ → Thing → Tree
with_one t name o = record { objects = with_object t.objects name o; next = min (t.next + 1) (2 ^ 64 - 1) }

-- the RIB without one
abbrev pub without_one : Tree → List ℕ → Tree
without_one t name = record t { objects = without_object t.objects name }

-- the RIB where the object of a name is another one
abbrev pub with_other_one : Tree → List ℕ → Thing → Tree
with_other_one t name o = record t { objects = changed_object t.objects name o }

pub record IsCreated (t after : Tree) (by : Caller) (name : List ℕ) (class : Class) (value : List ℕ) : Type 0 where
  pub new_name : object_at t.objects name ≡ None
  pub has_parent : has_folder t.objects name ≡ true
  pub allowed : is_foreign by name ≡ false
  pub is : with_one t name (thing class t.next (made_value class value)) ≡ after

none_there : (o : Option Thing) → is_some o ≡ false → o ≡ None
none_there None h = refl
none_there (Some x) h = absurd (both_ways true h refl)

pub is_created : (t after : Tree) (by : Caller) (name : List ℕ) (class : Class) (value : List ℕ) → created t by name class value ≡ Ok after → IsCreated t after by name class value
unfolding created
is_created t after by name class value h =
    let a = unless (is_some (object_at t.objects name)) _ _ after h in
    let b = unless (not (has_folder t.objects name)) _ _ after a.1 in
    let d = unless (is_foreign by name || is_own by class) _ _ after b.1 in
    record {
      new_name = none_there (object_at t.objects name) a.0;
      has_parent = not-false (has_folder t.objects name) b.0;
      allowed = (or_parts (is_foreign by name) (is_own by class) d.0).0;
      is = same_tree (with_one t name (thing class t.next (made_value class value))) after d.1;
    }

pub record IsDeleted (t after : Tree) (by : Caller) (name : List ℕ) : Type 0 where
  pub object : Thing
  pub was : Has t name object
  pub childless : has_child t.objects name ≡ false
  pub allowed : is_foreign by name ≡ false
  pub is : without_one t name ≡ after

one_there : (o : Option Thing) → is_some o ≡ true → (x : Thing) × (o ≡ there x)
one_there None h = absurd (both_ways false refl h)
one_there (Some x) h = (x, refl)

pub is_deleted : (t after : Tree) (by : Caller) (name : List ℕ) → deleted t by name ≡ Ok after → IsDeleted t after by name
unfolding deleted
is_deleted t after by name h =
    let a = unless (not (is_some (object_at t.objects name))) _ _ after h in
    let b = unless (has_child t.objects name) _ _ after a.1 in
    let d = unless (is_foreign by name) _ _ after b.1 in
    let o = one_there (object_at t.objects name) (not-false (is_some (object_at t.objects name)) a.0) in
    record { object = o.0; was = o.1; childless = b.0; allowed = d.0; is = same_tree (without_one t name) after d.1 }

-- ---- classes
pub class_same : (a b : Class) → same_class a b ≡ true → a ≡ b
class_same Folder Folder h = refl
class_same Folder Value h = absurd (both_ways false refl h)
class_same Folder Cube h = absurd (both_ways false refl h)
class_same Folder Flow h = absurd (both_ways false refl h)
class_same Folder Service h = absurd (both_ways false refl h)
class_same Value Folder h = absurd (both_ways false refl h)
class_same Value Value h = refl
class_same Value Cube h = absurd (both_ways false refl h)
class_same Value Flow h = absurd (both_ways false refl h)
class_same Value Service h = absurd (both_ways false refl h)
class_same Cube Folder h = absurd (both_ways false refl h)
class_same Cube Value h = absurd (both_ways false refl h)
class_same Cube Cube h = refl
class_same Cube Flow h = absurd (both_ways false refl h)
class_same Cube Service h = absurd (both_ways false refl h)
class_same Flow Folder h = absurd (both_ways false refl h)
class_same Flow Value h = absurd (both_ways false refl h)
class_same Flow Cube h = absurd (both_ways false refl h)
class_same Flow Flow h = refl
class_same Flow Service h = absurd (both_ways false refl h)
class_same Service Folder h = absurd (both_ways false refl h)
class_same Service Value h = absurd (both_ways false refl h)
class_same Service Cube h = absurd (both_ways false refl h)
class_same Service Flow h = absurd (both_ways false refl h)
class_same Service Service h = refl

service_same : (a : Class) → is_service a ≡ true → a ≡ Service
service_same Service h = refl
service_same Folder h = absurd (both_ways false refl h)
service_same Value h = absurd (both_ways false refl h)
service_same Cube h = absurd (both_ways false refl h)
service_same Flow h = absurd (both_ways false refl h)

pub folder_same : (a : Class) → is_folder a ≡ true → a ≡ Folder
folder_same Folder h = refl
folder_same Service h = absurd (both_ways false refl h)
folder_same Value h = absurd (both_ways false refl h)
folder_same Cube h = absurd (both_ways false refl h)
folder_same Flow h = absurd (both_ways false refl h)

-- ---- another object of a name: what it was, what it is, and whether the caller may do so
pub record IsChanged (t after : Tree) (by : Caller) (name : List ℕ) (o w : Thing) : Type 0 where
  pub was : Has t name o
  pub class : w.class ≡ o.class
  pub instance : w.instance ≡ o.instance
  pub allowed : is_outside by name ≡ false
  pub is : with_other_one t name w ≡ after

abbrev pub valued : Thing → List ℕ → Thing
valued o value = record o { value = value }

valued_is : (o : Thing) (value : List ℕ) → is_service o.class ≡ false → with_value o value ≡ valued o value
valued_is o value h = rw h refl

switched_is : (o : Thing) (on : Bool) → is_service o.class ≡ true → switched o on ≡ valued o (on_or_off on)
switched_is o on h = rw h refl

written_is : (t after : Tree) (by : Caller) (name : List ℕ) (class : Class) (value : List ℕ) (found : Option Thing) → object_at t.objects name ≡ found → written_to t by name class value found ≡ Ok after
    → (o : Thing) × (o.class ≡ class) × IsChanged t after by name o (valued o value)
written_is t after by name class value None at h = no_error _ after h
written_is t after by name class value (Some o) at h =
    let a = unless (not (same_class o.class class)) _ _ after h in
    let b = unless (is_folder o.class || is_service o.class || is_outside by name) _ _ after a.1 in
    let p = or_parts (is_folder o.class || is_service o.class) (is_outside by name) b.0 in
    let q = or_parts (is_folder o.class) (is_service o.class) p.0 in (
      o,
      class_same o.class class (not-false (same_class o.class class) a.0),
      record {
        was = at;
        class = refl;
        instance = refl;
        allowed = p.1;
        is = ap (λ (w : Thing). with_other_one t name w) (sym (valued_is o value q.1)) ∙ same_tree (with_other_one t name (with_value o value)) after b.1;
      },
    )

pub is_written : (t after : Tree) (by : Caller) (name : List ℕ) (class : Class) (value : List ℕ) → written t by name class value ≡ Ok after → (o : Thing) × (o.class ≡ class) × IsChanged t after by name o (valued o value)
unfolding written
is_written t after by name class value h = written_is t after by name class value (object_at t.objects name) refl h

shown_is : (t after : Tree) (by : Caller) (name : List ℕ) (class : Class) (value : List ℕ) (found : Option Thing) (o : Thing) → found ≡ there o → written_to t by name class value found ≡ Ok after → with_value o value ≡ valued o value
shown_is t after by name class value None o at h = no_error _ after h
shown_is t after by name class value (Some x) o at h =
    let a = unless (not (same_class x.class class)) _ _ after h in
    let b = unless (is_folder x.class || is_service x.class || is_outside by name) _ _ after a.1 in
    let p = or_parts (is_folder x.class || is_service x.class) (is_outside by name) b.0 in
    let q = or_parts (is_folder x.class) (is_service x.class) p.0 in
    subst (λ (z : Thing). with_value z value ≡ valued z value) (same_thing x o at) (valued_is x value q.1)

-- what is written is not a service
pub written_shown : (t after : Tree) (by : Caller) (name : List ℕ) (class : Class) (value : List ℕ) (o : Thing) → Has t name o → written t by name class value ≡ Ok after → with_value o value ≡ valued o value
unfolding written
written_shown t after by name class value o at h = shown_is t after by name class value (object_at t.objects name) o at h

turned_is : (t after : Tree) (by : Caller) (op : ℕ) (name : List ℕ) (on : Bool) (found : Option Thing) → object_at t.objects name ≡ found → turned_to t by op name on found ≡ Ok after
    → (o : Thing) × (o.class ≡ Service) × IsChanged t after by name o (valued o (on_or_off on))
turned_is t after by op name on None at h = no_error _ after h
turned_is t after by op name on (Some o) at h =
    let a = unless (not (is_service o.class) || is_outside by name) _ _ after h in
    let p = or_parts (not (is_service o.class)) (is_outside by name) a.0 in
    let service : is_service o.class ≡ true = not-false (is_service o.class) p.0 in (
      o,
      service_same o.class service,
      record {
        was = at;
        class = refl;
        instance = refl;
        allowed = p.1;
        is = ap (λ (w : Thing). with_other_one t name w) (sym (switched_is o on service)) ∙ same_tree (with_other_one t name (switched o on)) after a.1;
      },
    )

pub is_turned : (t after : Tree) (by : Caller) (op : ℕ) (name : List ℕ) (on : Bool) → turned t by op name on ≡ Ok after → (o : Thing) × (o.class ≡ Service) × IsChanged t after by name o (valued o (on_or_off on))
unfolding turned
is_turned t after by op name on h = turned_is t after by op name on (object_at t.objects name) refl h

-- ---- one object changes
abbrev ChangesTo : List ℕ → Tree → Option Thing → Option Thing → Tree → Type 0
ChangesTo name t was is after = Changes name t after was is

pub created_changes : (t after : Tree) (by : Caller) (name : List ℕ) (class : Class) (value : List ℕ) → created t by name class value ≡ Ok after → Changes name t after None (Some (thing class t.next (made_value class value)))
created_changes t after by name class value h =
    let made : IsCreated t after by name class value = is_created t after by name class value h in
    let o : Thing = thing class t.next (made_value class value) in
    let one : Changes name t (with_one t name o) None (Some o) = record {
      before = made.new_name;
      after = with_same t.objects name o;
      others = λ other apart. with_other t.objects name other o apart;
    } in
    subst (λ (u : Tree). ChangesTo name t None (Some o) u) made.is one

pub deleted_changes : (t after : Tree) (by : Caller) (name : List ℕ) → StandInTree t → deleted t by name ≡ Ok after → (o : Thing) × Changes name t after (Some o) None
deleted_changes t after by name tree h =
    let gone : IsDeleted t after by name = is_deleted t after by name h in
    let one : Changes name t (without_one t name) (Some (gone.object)) None = record {
      before = gone.was;
      after = without_same t.objects name tree.ordered;
      others = λ other apart. without_other t.objects name other apart;
    } in
    (gone.object, subst (λ (u : Tree). ChangesTo name t (Some (gone.object)) None u) gone.is one)

pub changed_changes : (t after : Tree) (by : Caller) (name : List ℕ) (o w : Thing) → IsChanged t after by name o w → Changes name t after (Some o) (Some w)
changed_changes t after by name o w h =
    let one : Changes name t (with_other_one t name w) (Some o) (Some w) = record {
      before = h.was;
      after = changed_same t.objects name w o h.was;
      others = λ other apart. changed_other t.objects name other w apart;
    } in
    subst (λ (u : Tree). ChangesTo name t (Some o) (Some w) u) h.is one

pub written_changes : (t after : Tree) (by : Caller) (name : List ℕ) (class : Class) (value : List ℕ) → written t by name class value ≡ Ok after → (o : Thing) × (o.class ≡ class) × Changes name t after (Some o) (Some (valued o value))
written_changes t after by name class value h =
    let w = is_written t after by name class value h in
    (w.0, w.1, changed_changes t after by name w.0 (valued w.0 value) w.2)

pub turned_changes : (t after : Tree) (by : Caller) (op : ℕ) (name : List ℕ) (on : Bool) → turned t by op name on ≡ Ok after → (o : Thing) × (o.class ≡ Service) × Changes name t after (Some o) (Some (valued o (on_or_off on)))
turned_changes t after by op name on h =
    let w = is_turned t after by op name on h in
    (w.0, w.1, changed_changes t after by name w.0 (valued w.0 (on_or_off on)) w.2)
