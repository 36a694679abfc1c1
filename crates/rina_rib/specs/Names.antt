-- Names above and below each other.
use Rattle.std.specs.Prelude.{ℕ, ◌+◌, Bool, false, ◌||◌, ◌&&◌, ◌==◌, nat_lt, nat_le, max, List, [], ◌∷◌, length, take, slice_index, Option, Some, None, if◌then◌else◌}
use Rattle.std.specs.Prelude.{nat_eq}
use Rattle.std.specs.Str.{bytes_eq}
use Rattle.std.specs.List.{starts_with}

-- the place of the last slash of bytes that begin at a place, or `last` where they have none
unfoldable pub last_slash : ℕ → ℕ → List ℕ → ℕ
last_slash last at [] = last
last_slash last at (b ∷ bytes) = last_slash (if b == 47 then at else last) (at + 1) bytes

-- the name without its last part; the root has none
unfoldable pub parent_of : List ℕ → Option (List ℕ)
parent_of name = if nat_le (length name) 1 then None else Some (take (max (last_slash 0 0 name) 1) name)

abbrev pub is_the : List ℕ → Option (List ℕ) → Bool
is_the folder None = false
is_the folder (Some above) = bytes_eq above folder

-- the second name has one part more than the first
unfoldable pub is_child : List ℕ → List ℕ → Bool
is_child folder name = is_the folder (parent_of name)

-- the second name has parts behind the first: under the root is all else
unfoldable pub is_below : List ℕ → List ℕ → Bool
is_below folder name =
    if nat_le (length folder) 1 then nat_lt 1 (length name)
    else nat_lt (length folder) (length name) && starts_with nat_eq name folder && (slice_index name (length folder) == 47)

-- the second name is the first, or under it
unfoldable pub is_within : List ℕ → List ℕ → Bool
is_within folder name = bytes_eq name folder || is_below folder name
