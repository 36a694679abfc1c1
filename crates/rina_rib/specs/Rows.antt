-- What each operation on objects does, and when it is refused. Refusals are tried in the order of their numbers.
use Rattle.std.specs.Prelude.{◌≡◌, ℕ, ◌+◌, ◌-◌, ◌^◌, Bool, true, false, not, ◌||◌, ◌&&◌, min, List, [], ◌∷◌, Option, Some, None, is_some, Result, Ok, Err, codes, if◌then◌else◌}
use Rattle.rina_base.specs.declared.class.Class.{Class}
use Rattle.rina_base.specs.declared.class.Class.TheVariants.{Folder}
use Rattle.rina_rib.specs.declared.error.RibError.{RibError}
use Rattle.rina_rib.specs.declared.error.RibError.TheVariants.{Memory, NoObject, Exists, NoParent, HasChildren, WrongClass, NotAllowed}
use Rattle.rina_rib.specs.declared.caller.Caller.{Caller}
use Rattle.rina_rib.specs.declared.caller.Caller.TheVariants.{Own, Cdap}
use Rattle.rina_base.specs.Classes.{is_folder, is_cube, is_flow, is_service, same_class}
use Rattle.rina_rib.specs.Names.{is_below, is_within}
use Rattle.rina_rib.specs.Things.{Thing, thing, made_value, switched, with_value}
use Rattle.rina_rib.specs.Objects.{Named, object_at, with_object, without_object, changed_object, has_child, has_folder}

-- a RIB: its objects in the byte order of their names, and the number of the next one
pub record Tree : Type 0 where
  pub objects : List Named
  pub next : ℕ

abbrev pub folder : ℕ → Thing
folder instance = thing Folder instance []

-- the RIB at the start: seven folders
abbrev pub first_tree : Tree
first_tree = record {
  objects = (codes "/", folder 0) ∷ (codes "/cube", folder 1) ∷ (codes "/dir", folder 2) ∷ (codes "/flow", folder 3) ∷ (codes "/link", folder 4) ∷ (codes "/member", folder 5) ∷ (codes "/user", folder 6) ∷ [];
  next = 7;
}

abbrev pub is_cdap : Caller → Bool
is_cdap Own = false
is_cdap Cdap = true

-- `cdap` may make and delete under `/user` alone
unfoldable pub is_foreign : Caller → List ℕ → Bool
is_foreign by name = is_cdap by && not (is_below (codes "/user") name)

-- `cdap` may write, start and stop at and under `/user` alone
unfoldable pub is_outside : Caller → List ℕ → Bool
is_outside by name = is_cdap by && not (is_within (codes "/user") name)

-- `cdap` makes no cubes and no flows
unfoldable pub is_own : Caller → Class → Bool
is_own by class = is_cdap by && (is_cube class || is_flow class)

-- the RIB after an object was made
unfoldable pub created : Tree → Caller → List ℕ → Class → List ℕ → Result Tree RibError
created t by name class value =
    if is_some (object_at t.objects name) then Err Exists
    else (if not (has_folder t.objects name) then Err NoParent
    else (if is_foreign by name || is_own by class then Err (NotAllowed 4)
    else Ok (record { objects = with_object t.objects name (thing class t.next (made_value class value)); next = min (t.next + 1) (2 ^ 64 - 1) })))

-- the RIB after an object was deleted
unfoldable pub deleted : Tree → Caller → List ℕ → Result Tree RibError
deleted t by name =
    if not (is_some (object_at t.objects name)) then Err NoObject
    else (if has_child t.objects name then Err HasChildren
    else (if is_foreign by name then Err (NotAllowed 6)
    else Ok (record t { objects = without_object t.objects name })))

abbrev pub written_to : Tree → Caller → List ℕ → Class → List ℕ → Option Thing → Result Tree RibError
written_to t by name class value None = Err NoObject
written_to t by name class value (Some o) =
    if not (same_class o.class class) then Err (WrongClass o.class)
    else (if is_folder o.class || is_service o.class || is_outside by name then Err (NotAllowed 12)
    else Ok (record t { objects = changed_object t.objects name (with_value o value) }))

-- the RIB after an object was given another value
unfoldable pub written : Tree → Caller → List ℕ → Class → List ℕ → Result Tree RibError
written t by name class value = written_to t by name class value (object_at t.objects name)

abbrev pub turned_to : Tree → Caller → ℕ → List ℕ → Bool → Option Thing → Result Tree RibError
turned_to t by op name on None = Err NoObject
turned_to t by op name on (Some o) =
    if not (is_service o.class) || is_outside by name then Err (NotAllowed op)
    else Ok (record t { objects = changed_object t.objects name (switched o on) })

-- the RIB after a service was started or stopped, by an operation of this number
unfoldable pub turned : Tree → Caller → ℕ → List ℕ → Bool → Result Tree RibError
turned t by op name on = turned_to t by op name on (object_at t.objects name)

-- a call did what is told of it; after a refusal, and where memory ran out, all is as before
abbrev pub Does : {X : Type 0} → Result X RibError → Tree → Tree → Result Tree RibError → Type 0
Does (Ok _) old new told = told ≡ Ok new
Does (Err Memory) old new told = new ≡ old
Does (Err NoObject) old new told = (told ≡ Err NoObject) × (new ≡ old)
Does (Err Exists) old new told = (told ≡ Err Exists) × (new ≡ old)
Does (Err NoParent) old new told = (told ≡ Err NoParent) × (new ≡ old)
Does (Err HasChildren) old new told = (told ≡ Err HasChildren) × (new ≡ old)
Does (Err (WrongClass kept)) old new told = (told ≡ Err (WrongClass kept)) × (new ≡ old)
Does (Err (NotAllowed op)) old new told = (told ≡ Err (NotAllowed op)) × (new ≡ old)
