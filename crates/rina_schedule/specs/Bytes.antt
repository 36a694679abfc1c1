-- The three spellings of bytes: ' and text, x and pairs of hexadecimal digits, z and a count of zeros.
use Rattle.std.specs.Prelude.{◌≡◌, ℕ, ◌+◌, ◌-◌, ◌*◌, ◌<◌, ◌==◌, ◌&&◌, Bool, not, nat_le, List, [], ◌∷◌, length, replicate, slice_index, Option, Some, None, if◌then◌else◌}
use Rattle.std.specs.List.{list_all}
use Rattle.std.specs.Option.{option_and_then, option_map}
use Rattle.rina_base.specs.Decimals.{number_of}

-- a byte from '!' to '~'
unfoldable pub is_plain : ℕ → Bool
is_plain b = nat_le 33 b && nat_le b 126

-- bytes that are spelled as text: at least one, and each from '!' to '~'
unfoldable pub are_plain : List ℕ → Bool
are_plain bytes = not (length bytes == 0) && list_all is_plain bytes

-- the value of a hexadecimal digit, of either case
unfoldable pub hex_digit : ℕ → Option ℕ
hex_digit b = if nat_le 48 b && nat_le b 57 then Some (b - 48) else (if nat_le 97 b && nat_le b 102 then Some (b - 87) else (if nat_le 65 b && nat_le b 70 then Some (b - 55) else None))

-- the value of two hexadecimal digits
unfoldable pub hex_pair_of : ℕ → ℕ → Option ℕ
hex_pair_of high low = option_and_then (λ x. option_map (λ y. x * 16 + y) (hex_digit low)) (hex_digit high)

-- the bytes whose pairs of hexadecimal digits these are
unfoldable pub hex_of : List ℕ → Option (List ℕ)
hex_of [] = Some []
hex_of (_ ∷ []) = None
hex_of (high ∷ low ∷ rest) = option_and_then (λ x. option_map (λ bytes. x ∷ bytes) (hex_of rest)) (hex_pair_of high low)

-- the bytes of a text
unfoldable pub plain_of : List ℕ → Option (List ℕ)
plain_of text = if are_plain text then Some text else None

-- as many zero bytes as a number says, up to 65,535
unfoldable pub zeros_of : List ℕ → Option (List ℕ)
zeros_of text = option_and_then (λ n. if nat_le n 65535 then Some (replicate n 0) else None) (number_of text)

-- the bytes that a text spells
unfoldable pub bytes_of : List ℕ → Option (List ℕ)
bytes_of [] = None
bytes_of (b ∷ text) = if b == 39 then plain_of text else (if b == 120 then hex_of text else (if b == 122 then zeros_of text else None))

-- no upper-case hexadecimal digit
unfoldable pub is_lower : ℕ → Bool
is_lower b = not (nat_le 65 b && nat_le b 70)

-- the bytes whose pairs of lower-case hexadecimal digits these are, where they can't be spelled as text
unfoldable pub lower_hex_of : List ℕ → Option (List ℕ)
lower_hex_of text = if list_all is_lower text then option_and_then (λ bytes. if are_plain bytes then None else Some bytes) (hex_of text) else None

-- the bytes that a text spells as they are printed
unfoldable pub printed_of : List ℕ → Option (List ℕ)
printed_of [] = None
printed_of (b ∷ text) = if b == 39 then plain_of text else (if b == 120 then lower_hex_of text else None)

-- an x stands in front, and behind it at least one pair of bytes
abbrev pub BeginsHex : List ℕ → Type 0
BeginsHex text = (slice_index text 0 ≡ 120) × (2 < length text)
