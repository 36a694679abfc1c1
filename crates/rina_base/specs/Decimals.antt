-- Numbers in decimal, without a sign.
use Rattle.std.specs.Prelude.{ℕ, ◌+◌, ◌-◌, ◌*◌, ◌^◌, ◌==◌, ◌&&◌, Bool, nat_le, List, [], ◌∷◌, length, Option, Some, None, if◌then◌else◌}

-- 0 to 9
unfoldable pub is_digit : ℕ → Bool
is_digit b = nat_le 48 b && nat_le b 57

-- the number that the digits of a text write behind those of n, up to max
unfoldable pub decimal_from : ℕ → ℕ → List ℕ → Option ℕ
decimal_from max n [] = Some n
decimal_from max n (b ∷ text) = if is_digit b && nat_le (n * 10 + (b - 48)) max then decimal_from max (n * 10 + (b - 48)) text else None

-- the number that a text writes, up to max; zeros may stand before it
unfoldable pub decimal_of : ℕ → List ℕ → Option ℕ
decimal_of max text = if length text == 0 then None else decimal_from max 0 text

-- the number of 32 bits that a text writes
abbrev pub number_of : List ℕ → Option ℕ
number_of text = decimal_of (2 ^ 32 - 1) text
