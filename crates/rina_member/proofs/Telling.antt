-- What an operation on objects did, whatever it was refused for.
use Rattle.std.proofs.Common.{◌≡◌, ◌∙◌, Option, Some, None, is_some, Result, Ok, Err, refl, sym, ap}
use Rattle.std.specs.Prelude.{MatchResult, OnErr, OnOk, is_ok}
use Rattle.rina_base.specs.declared.memory.Memory.{Memory as NoneFound}
use Rattle.rina_rib.specs.declared.error.RibError.{RibError}
use Rattle.rina_rib.specs.declared.error.RibError.TheVariants.{Memory, NoObject, Exists, NoParent, HasChildren, WrongClass, NotAllowed}
use Rattle.rina_rib.specs.declared.object.Object.{Object}
use Rattle.rina_rib.specs.Rows.{Does, Tree}
use Rattle.rina_rib.specs.Things.{Thing, thing_of}
use Rattle.rina_member.specs.Objects.{or_same}

-- an operation did what is told of it, or was refused and changed nothing
done_same : {X : Type 0} (r : Result X RibError) (old new : Tree) (told : Result Tree RibError) → Does r old new told → (r ≡ Err Memory → ⊥) → new ≡ or_same old told
done_same (Ok x) old new told d found = sym (ap (or_same old) d)
done_same (Err Memory) old new told d found = absurd (found refl)
done_same (Err NoObject) old new told d found = d.1 ∙ sym (ap (or_same old) d.0)
done_same (Err Exists) old new told d found = d.1 ∙ sym (ap (or_same old) d.0)
done_same (Err NoParent) old new told d found = d.1 ∙ sym (ap (or_same old) d.0)
done_same (Err HasChildren) old new told d found = d.1 ∙ sym (ap (or_same old) d.0)
done_same (Err (WrongClass kept)) old new told d found = d.1 ∙ sym (ap (or_same old) d.0)
done_same (Err (NotAllowed op)) old new told d found = d.1 ∙ sym (ap (or_same old) d.0)

pub if_done : {X : Type 0} (r : Result X RibError) (found : Result (Unit {0}) NoneFound) (old new : Tree) (told : Result Tree RibError) → Does r old new told → OnOk found (r ≡ Err Memory → ⊥) → OnOk found (new ≡ or_same old told)
if_done r (Ok x) old new told d h = done_same r old new told d h
if_done r (Err e) old new told d h = tt

-- where an allocation failed nothing changed
failed_same : {X : Type 0} (r : Result X RibError) (old new : Tree) (told : Result Tree RibError) → Does r old new told → r ≡ Err Memory → new ≡ old
failed_same (Ok x) old new told d is = absurd cc
failed_same (Err Memory) old new told d is = d
failed_same (Err NoObject) old new told d is = d.1
failed_same (Err Exists) old new told d is = d.1
failed_same (Err NoParent) old new told d is = d.1
failed_same (Err HasChildren) old new told d is = d.1
failed_same (Err (WrongClass kept)) old new told d is = d.1
failed_same (Err (NotAllowed op)) old new told d is = d.1

pub if_failed : {X : Type 0} (r : Result X RibError) (found : Result (Unit {0}) NoneFound) (old new : Tree) (told : Result Tree RibError) → Does r old new told → OnErr found (r ≡ Err Memory) → OnErr found (new ≡ old)
if_failed r (Ok x) old new told d h = tt
if_failed r (Err e) old new told d h = failed_same r old new told d h

-- an object is found exactly where it is there
pub found_there : (r : Result Object RibError) (o : Option Thing) → MatchResult r (λ x. o ≡ Some (thing_of x)) (λ e. (e ≡ NoObject) × (o ≡ None)) → is_some o ≡ is_ok r
found_there (Ok x) o h = ap is_some h
found_there (Err e) o h = ap is_some h.1
