-- Which objects stay as they were where some are told or deleted.
use Rattle.std.proofs.Common.{◌≡◌, ◌∙◌, ℕ, Bool, true, false, cond, List, [], ◌∷◌, Option, Some, None, is_some, Result, Ok, Err, Contains, refl, sym, ap, subst}
use Rattle.rina_base.specs.declared.class.Class.{Class}
use Rattle.rina_base.specs.declared.class.Class.TheVariants as classes
use Rattle.rina_base.specs.ObjectNames.{is_object_name}
use Rattle.rina_newest.specs.declared.item.Item.{Item}
use Rattle.rina_newest.specs.Newest.{value_at}
use Rattle.rina_rib.specs.declared.caller.Caller.TheVariants.{Own}
use Rattle.rina_rib.specs.declared.error.RibError.{RibError}
use Rattle.rina_rib.specs.Objects.{object_at}
use Rattle.rina_rib.specs.Rows.{Tree, created, deleted, written}
use Rattle.rina_rib.proofs.Changes.{created_changes, is_deleted, written_changes}
use Rattle.rina_rib.proofs.Lookups.{without_other}
use Rattle.rina_route.proofs.Lists.{head, tail}
use Rattle.rina_member.specs.Managements.{all_live, with_live}
use Rattle.rina_member.specs.Objects.{or_same, shown_as}

written_other : (t : Tree) (name value q : List ℕ) (class : Class) (r : Result Tree RibError) → written t Own name class value ≡ r → (q ≡ name → ⊥) → object_at (or_same t r).objects q ≡ object_at t.objects q
written_other t name value q class (Ok after) is other = (written_changes t after Own name class value is).2.others q other
written_other t name value q class (Err e) is other = refl

created_other : (t : Tree) (name value q : List ℕ) (class : Class) (r : Result Tree RibError) → created t Own name class value ≡ r → (q ≡ name → ⊥) → object_at (or_same t r).objects q ≡ object_at t.objects q
created_other t name value q class (Ok after) is other = (created_changes t after Own name class value is).others q other
created_other t name value q class (Err e) is other = refl

deleted_other : (t : Tree) (name q : List ℕ) (r : Result Tree RibError) → deleted t Own name ≡ r → (q ≡ name → ⊥) → object_at (or_same t r).objects q ≡ object_at t.objects q
deleted_other t name q (Ok after) is other = sym (ap (λ (z : Tree). object_at z.objects q) (is_deleted t after Own name is).is) ∙ without_other t.objects name q other
deleted_other t name q (Err e) is other = refl

told_by : (t : Tree) (name value q : List ℕ) (class : Class) (a b : Bool) → (q ≡ name → ⊥) → object_at (cond a (cond b (or_same t (written t Own name class value)) (or_same t (created t Own name class value))) t).objects q ≡ object_at t.objects q
told_by t name value q class true true other = written_other t name value q class (written t Own name class value) refl other
told_by t name value q class true false other = created_other t name value q class (created t Own name class value) refl other
told_by t name value q class false b other = refl

removed_by : (t : Tree) (name q : List ℕ) (a : Bool) → (q ≡ name → ⊥) → object_at (cond a (or_same t (deleted t Own name)) t).objects q ≡ object_at t.objects q
removed_by t name q true other = deleted_other t name q (deleted t Own name) refl other
removed_by t name q false other = refl

shown_other : (t : Tree) (key : List ℕ) (value : Option (List ℕ)) (q : List ℕ) → (q ≡ key → ⊥) → object_at (shown_as t key value).objects q ≡ object_at t.objects q
shown_other t key (Some value) q other = told_by t key value q classes.Value (is_object_name key) (is_some (object_at t.objects key)) other
shown_other t key None q other = removed_by t key q (is_object_name key) other

-- where the objects of some keys show what is live, those of other names are as before
pub live_others : (t : Tree) (items : List Item) (keys : List (List ℕ)) (q : List ℕ) → (Contains keys q → ⊥) → object_at (all_live t items keys).objects q ≡ object_at t.objects q
live_others t items [] q other = refl
live_others t items (key ∷ keys) q other =
    live_others (with_live t items key) items keys q (λ later. other (tail key keys q later))
    ∙ shown_other t key (value_at items key) q (λ same. other (subst (λ (k : List ℕ). Contains (key ∷ keys) k) (sym same) (head key keys)))
