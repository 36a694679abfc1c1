-- A PDU behind the lifetime that it has left.
use Rattle.std.specs.Prelude.{ℕ, nat_lt, List, ◌++◌, length, take, drop, Option, Some, None, if◌then◌else◌}
use Rattle.std.specs.Int.{w32, to_be_bytes, from_be_bytes}

-- four bytes of lifetime, big-endian, and then the bytes of the PDU
unfoldable pub protected : ℕ → List ℕ → List ℕ
protected life pdu = to_be_bytes w32 life ++ pdu

-- the lifetime and the PDU that the bytes are
unfoldable pub life_at : List ℕ → Option (ℕ × List ℕ)
life_at bytes = if nat_lt (length bytes) 4 then None else Some (from_be_bytes w32 (take 4 bytes), drop 4 bytes)
