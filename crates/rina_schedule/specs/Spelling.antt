-- The printed spelling of bytes and fields.
use Rattle.std.specs.Prelude.{ℕ, ◌+◌, ◌/◌, ◌%◌, List, [], ◌∷◌, ◌++◌, nat_le, Result, Ok, Err, ◌≡◌, if◌then◌else◌}
use Rattle.std.specs.List.{flat_map}
use Rattle.rina_schedule.specs.Bytes.{are_plain}

-- a lower-case hexadecimal digit
unfoldable pub hex_glyph : ℕ → ℕ
hex_glyph d = if nat_le d 9 then 48 + d else 87 + d

-- the two hexadecimal digits of a byte
unfoldable pub hex_pair : ℕ → List ℕ
hex_pair b = hex_glyph (b / 16) ∷ hex_glyph (b % 16) ∷ []

-- ' and the bytes as text, where there is at least one and each is from '!' to '~'; otherwise x and hexadecimal digits
unfoldable pub spelling : List ℕ → List ℕ
spelling bytes = if are_plain bytes then 39 ∷ bytes else 120 ∷ flat_map hex_pair bytes

-- fields with a space before each
abbrev pub spaced : List (List ℕ) → List ℕ
spaced [] = []
spaced (f ∷ fs) = 32 ∷ f ++ spaced fs

-- a call appended this to a text, unless an allocation failed
abbrev pub Adds : {E : Type 0} → Result (Unit {0}) E → List ℕ → List ℕ → List ℕ → Type 0
Adds (Ok _) old new added = new ≡ old ++ added
Adds (Err _) old new added = Unit {0}
