-- What CDAP leaves as it was.
use Rattle.std.proofs.Common.{◌≡◌, ℕ, Bool, List, Ok, codes, sym, subst}
use Rattle.rina_base.specs.declared.class.Class.{Class}
use Rattle.rina_rib.specs.declared.caller.Caller.TheVariants.{Cdap}
use Rattle.rina_rib.specs.Things.{Thing}
use Rattle.rina_rib.specs.Rows.{Tree, created, deleted, written, turned}
use Rattle.rina_rib.specs.Objects.{object_at}
use Rattle.rina_rib.specs.Laws.{LiesBelow, LiesAt, KeepsOutside, KeepsAround}
use Rattle.rina_rib.proofs.Lookups.{without_other}
use Rattle.rina_rib.proofs.Changes.{IsCreated, is_created, created_changes, IsDeleted, is_deleted, IsChanged, is_written, is_turned, changed_changes}
use Rattle.rina_rib.proofs.Under.{made_below_user, changed_at_user}

not_below : (under name other : List ℕ) → LiesBelow under name → (LiesBelow under other → ⊥) → other ≡ name → ⊥
not_below under name other below out is = out (subst (λ (n : List ℕ). LiesBelow under n) (sym is) below)

not_at : (under name other : List ℕ) → LiesAt under name → (LiesAt under other → ⊥) → other ≡ name → ⊥
not_at under name other below out is = out (subst (λ (n : List ℕ). LiesAt under n) (sym is) below)

pub user_created : (t after : Tree) (name : List ℕ) (class : Class) (value : List ℕ) → created t Cdap name class value ≡ Ok after → KeepsOutside (codes "/user") t after
user_created t after name class value h other out =
    let made : IsCreated t after Cdap name class value = is_created t after Cdap name class value h in
    (created_changes t after Cdap name class value h).others other (not_below (codes "/user") name other (made_below_user name made.allowed) out)

pub user_deleted : (t after : Tree) (name : List ℕ) → deleted t Cdap name ≡ Ok after → KeepsOutside (codes "/user") t after
user_deleted t after name h other out =
    let gone : IsDeleted t after Cdap name = is_deleted t after Cdap name h in
    subst (λ (u : Tree). object_at u.objects other ≡ object_at t.objects other) gone.is (without_other t.objects name other (not_below (codes "/user") name other (made_below_user name gone.allowed) out))

changed_around : (t after : Tree) (name : List ℕ) (o w : Thing) → IsChanged t after Cdap name o w → KeepsAround (codes "/user") t after
changed_around t after name o w h other out = (changed_changes t after Cdap name o w h).others other (not_at (codes "/user") name other (changed_at_user name h.allowed) out)

pub user_written : (t after : Tree) (name : List ℕ) (class : Class) (value : List ℕ) → written t Cdap name class value ≡ Ok after → KeepsAround (codes "/user") t after
user_written t after name class value h =
    let w = is_written t after Cdap name class value h in
    changed_around t after name w.0 _ w.2

pub user_turned : (t after : Tree) (op : ℕ) (name : List ℕ) (on : Bool) → turned t Cdap op name on ≡ Ok after → KeepsAround (codes "/user") t after
user_turned t after op name on h =
    let w = is_turned t after Cdap op name on h in
    changed_around t after name w.0 _ w.2
