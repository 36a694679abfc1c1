-- Objects by name, and what each operation does.
use Rattle.std.specs.Prelude.{ℕ, Bool, false, List, map, Option, Some, None}
use Rattle.std.specs.List.{list_any}
use Rattle.std.specs.Global.{Vec}
use Rattle.std.specs.declared.cmp.Ordering.{Ordering}
use Rattle.std.specs.Ordering.{nat_cmp}
use Rattle.std.specs.Cmp.Lexicographic.{slice_cmp}
use Rattle.std.specs.Map.{lookup, remove_entry, set_value, keys_of}
use Rattle.std.specs.List.Sorted.{IsStrictlySortedBy}
use Rattle.std.specs.BTreeMap.{is_at, insert_entry}
use Rattle.rina_base.specs.Classes.{is_folder}
use Rattle.rina_rib.specs.Names.{parent_of, is_child}
use Rattle.rina_rib.specs.Things.{Thing, switched, with_value}

-- a name and its object
abbrev pub Named : Type 0
Named = List ℕ × Thing

-- the order of names: byte by byte
abbrev pub name_cmp : List ℕ → List ℕ → Ordering
name_cmp = slice_cmp nat_cmp

-- what a map shows: names and objects, in the order of names
abbrev pub seen : List (Vec ℕ × Thing) → List Named
seen entries = map (λ e. (e.0.items, e.1)) entries

-- the names ascend, byte by byte
abbrev pub AreInOrder : List Named → Type 0
AreInOrder objects = IsStrictlySortedBy name_cmp (keys_of objects)

-- the object of a name
abbrev pub object_at : List Named → List ℕ → Option Thing
object_at objects name = lookup (is_at (name_cmp name)) objects

-- the objects with one more, or another one of that name
abbrev pub with_object : List Named → List ℕ → Thing → List Named
with_object objects name t = insert_entry name_cmp objects name t

-- the objects without that of a name
abbrev pub without_object : List Named → List ℕ → List Named
without_object objects name = remove_entry (is_at (name_cmp name)) objects

-- the objects where that of a name is another one
abbrev pub changed_object : List Named → List ℕ → Thing → List Named
changed_object objects name t = set_value (is_at (name_cmp name)) objects t

-- some object's name is the name with one part more
abbrev pub has_child : List Named → List ℕ → Bool
has_child objects name = list_any (λ e. is_child name e.0) objects

abbrev pub is_folder_there : Option Thing → Bool
is_folder_there None = false
is_folder_there (Some t) = is_folder t.class

abbrev pub folder_at : List Named → Option (List ℕ) → Bool
folder_at objects None = false
folder_at objects (Some name) = is_folder_there (object_at objects name)

-- the name without its last part is a folder
abbrev pub has_folder : List Named → List ℕ → Bool
has_folder objects name = folder_at objects (parent_of name)

abbrev pub switched_to : List Named → List ℕ → Bool → Option Thing → List Named
switched_to objects name on None = objects
switched_to objects name on (Some t) = changed_object objects name (switched t on)

-- the objects where the service of a name was started or stopped
abbrev pub switched_at : List Named → List ℕ → Bool → List Named
switched_at objects name on = switched_to objects name on (object_at objects name)

abbrev pub rewritten_to : List Named → List ℕ → List ℕ → Option Thing → List Named
rewritten_to objects name value None = objects
rewritten_to objects name value (Some t) = changed_object objects name (with_value t value)

-- the objects where that of a name has another value
abbrev pub rewritten_at : List Named → List ℕ → List ℕ → List Named
rewritten_at objects name value = rewritten_to objects name value (object_at objects name)
