-- The objects of a member: what it shows of its cubes and items from the start, and how one object becomes another.
use Rattle.std.specs.Prelude.{ℕ, List, ◌++◌, codes, Option, Some, None, is_some, Result, Ok, Err, if◌then◌else◌}
use Rattle.std.specs.List.{fold}
use Rattle.std.specs.Fmt.{decimal}
use Rattle.rina_base.specs.declared.class.Class.{Class}
use Rattle.rina_base.specs.declared.class.Class.TheVariants as classes
use Rattle.rina_base.specs.ObjectNames.{is_object_name}
use Rattle.rina_cube.specs.declared.Cube.{Cube}
use Rattle.rina_cube.specs.declared.Kind.{Kind}
use Rattle.rina_cube.specs.declared.Kind.TheVariants.{Datagram, Loose, Reliable}
use Rattle.rina_newest.specs.declared.item.Item.{Item}
use Rattle.rina_rib.specs.declared.caller.Caller.TheVariants.{Own}
use Rattle.rina_rib.specs.declared.error.RibError.{RibError}
use Rattle.rina_rib.specs.Objects.{object_at}
use Rattle.rina_rib.specs.Rows.{Tree, created, deleted, first_tree, written}

-- One object

-- after an operation the objects are these; a refused one changes nothing
abbrev pub or_same : Tree → Result Tree RibError → Tree
or_same t (Ok new) = new
or_same t (Err e) = t

-- the member tells an object: it is made, or has another value from now on
abbrev pub told : Tree → List ℕ → Class → List ℕ → Tree
told t name class value =
    if is_object_name name
    then (if is_some (object_at t.objects name) then or_same t (written t Own name class value) else or_same t (created t Own name class value))
    else t

-- the member deletes an object, where it is there
abbrev pub removed : Tree → List ℕ → Tree
removed t name = if is_object_name name then or_same t (deleted t Own name) else t

-- Items

-- the object of a key shows the value that is live under the key; where none is, there is no such object
abbrev pub shown_as : Tree → List ℕ → Option (List ℕ) → Tree
shown_as t key (Some value) = told t key classes.Value value
shown_as t key None = removed t key

abbrev pub item_told : Tree → Item → Tree
item_told t item = shown_as t item.key item.value

-- Cubes

abbrev pub kind_text : Kind → List ℕ
kind_text Datagram = codes "datagram"
kind_text Loose = codes "loose"
kind_text Reliable = codes "reliable"

-- a cube: its kind
abbrev pub cube_told : Tree → Cube → Tree
cube_told t c = told t (codes "/cube/" ++ decimal c.id) classes.Cube (kind_text c.kind)

-- From the start

-- the seven folders, the cubes, and then the items that a member holds, in the order in which it took them
abbrev pub first_objects : List Cube → List Item → Tree
first_objects cubes items = fold item_told (fold cube_told first_tree cubes) items

-- Flows

-- the object of a flow is named by its CEP-id
abbrev pub flow_name : ℕ → List ℕ
flow_name cep = codes "/flow/" ++ decimal cep
