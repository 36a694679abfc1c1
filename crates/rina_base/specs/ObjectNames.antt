-- The names of the objects of a RIB.
use Rattle.std.specs.Prelude.{◌≡◌, ℕ, ◌+◌, ◌==◌, ◌&&◌, ◌||◌, Bool, true, false, nat_lt, nat_le, List, [], ◌∷◌, length, Option, Some, None, if◌then◌else◌}
use Rattle.rina_base.specs.Names.{is_name_byte}

-- a to z, 0 to 9, '-', '.', '_' and '!'
unfoldable pub is_object_byte : ℕ → Bool
is_object_byte b = is_name_byte b || (b == 33)

-- parts of 1 to 130 bytes with a slash between them, where so many bytes of the first part stand before these
unfoldable pub are_parts : ℕ → List ℕ → Bool
are_parts before [] = nat_le 1 before
are_parts before (b ∷ text) =
    if b == 47 then nat_le 1 before && are_parts 0 text
    else (is_object_byte b && nat_lt before 130) && are_parts (before + 1) text

-- a slash, or parts with a slash before each
unfoldable pub is_object_name : List ℕ → Bool
is_object_name [] = false
is_object_name (b ∷ text) = (b == 47) && ((length text == 0) || are_parts 0 text)

abbrev pub IsObjectName : List ℕ → Type 0
IsObjectName name = is_object_name name ≡ true

-- the name that a text is
unfoldable pub object_name_of : List ℕ → Option (List ℕ)
object_name_of text = if is_object_name text then Some text else None
