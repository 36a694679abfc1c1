-- Classes of objects, and their names.
use Rattle.std.specs.Prelude.{ℕ, Bool, true, false, List, Option, Some, None, codes, if◌then◌else◌}
use Rattle.std.specs.Str.{bytes_eq}
use Rattle.rina_base.specs.declared.class.Class.{Class}
use Rattle.rina_base.specs.declared.class.Class.TheVariants.{Folder, Value, Cube, Flow, Service}

abbrev pub class_text : Class → List ℕ
class_text Folder = codes "folder"
class_text Value = codes "value"
class_text Cube = codes "cube"
class_text Flow = codes "flow"
class_text Service = codes "service"

-- the class of a name
unfoldable pub class_of : List ℕ → Option Class
class_of name =
    if bytes_eq name (codes "folder") then Some Folder
    else (if bytes_eq name (codes "value") then Some Value
    else (if bytes_eq name (codes "cube") then Some Cube
    else (if bytes_eq name (codes "flow") then Some Flow
    else (if bytes_eq name (codes "service") then Some Service else None))))

abbrev pub is_folder : Class → Bool
is_folder Folder = true
is_folder _ = false

abbrev pub is_value : Class → Bool
is_value Value = true
is_value _ = false

abbrev pub is_cube : Class → Bool
is_cube Cube = true
is_cube _ = false

abbrev pub is_flow : Class → Bool
is_flow Flow = true
is_flow _ = false

abbrev pub is_service : Class → Bool
is_service Service = true
is_service _ = false

abbrev pub same_class : Class → Class → Bool
same_class Folder other = is_folder other
same_class Value other = is_value other
same_class Cube other = is_cube other
same_class Flow other = is_flow other
same_class Service other = is_service other
