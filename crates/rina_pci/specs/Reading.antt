-- Reading a PDU from left to right.
use Rattle.std.specs.Prelude.{ℕ, ◌/◌, ◌%◌, ◌==◌, ◌&&◌, false, nat_lt, List, [], ◌∷◌, length, take, drop, slice_index, Option, Some, None, if◌then◌else◌}
use Rattle.std.specs.Int.{w16, w32, from_be_bytes}
use Rattle.rina_base.specs.declared.pdu.PduKind.{PduKind}
use Rattle.rina_base.specs.declared.pdu.PduKind.TheVariants.{Piece, Ack}
use Rattle.rina_base.specs.declared.pdu.Pdu.{Pdu}
use Rattle.rina_pci.specs.declared.widths.Widths.{Widths}
use Rattle.rina_pci.specs.declared.reading.Head.{Head}
use Rattle.rina_pci.specs.declared.reading.Addresses.{Addresses}
use Rattle.rina_pci.specs.declared.reading.Numbers.{Numbers}

infixl 10 ◌>>=◌
abbrev pub ◌>>=◌ : {A B : Type 0} → Option A → (A → Option B) → Option B
(Some x) >>= f = f x
None >>= f = None

-- the number of 1, 2 or 4 bytes, big-endian
unfoldable pub from_be : ℕ → List ℕ → ℕ
from_be w bytes = if w == 1 then slice_index bytes 0 else (if w == 2 then from_be_bytes w16 bytes else from_be_bytes w32 bytes)

-- the number of a width, and the bytes after it
unfoldable pub number_at : ℕ → List ℕ → Option (ℕ × List ℕ)
number_at w bytes = if nat_lt (length bytes) w then None else Some (from_be w (take w bytes), drop w bytes)

-- a piece has three flags, an acknowledgement none
unfoldable pub head_of : ℕ → ℕ → ℕ → Option Head
head_of flags code qos =
    if nat_lt flags 8
    then (if code == 1
    then Some (record { kind = Piece; drf = flags % 2 == 1; first = flags / 2 % 2 == 1; last = flags / 4 == 1; qos = qos })
    else (if (code == 2) && (flags == 0)
    then Some (record { kind = Ack; drf = false; first = false; last = false; qos = qos })
    else None))
    else None

-- the first four bytes
unfoldable pub head_at : List ℕ → Option (Head × List ℕ)
head_at (version ∷ flags ∷ code ∷ qos ∷ rest) = if version == 1 then (head_of flags code qos >>= λ h. Some (h, rest)) else None
head_at _ = None

unfoldable pub addresses_at : Widths → List ℕ → Option (Addresses × List ℕ)
addresses_at w bytes = do
  dst ← number_at w.addr bytes
  src ← number_at w.addr dst.1
  dcep ← number_at w.cep src.1
  scep ← number_at w.cep dcep.1
  Some (record { dst = dst.0; src = src.0; dcep = dcep.0; scep = scep.0 }, scep.1)

-- the numbers, and the body
unfoldable pub numbers_at : Widths → PduKind → List ℕ → Option (Numbers × List ℕ)
numbers_at w Piece bytes = do
  seq ← number_at w.seq bytes
  Some (record { seq = seq.0; ack = 0; right = 0 }, seq.1)
numbers_at w Ack bytes = do
  ack ← number_at w.seq bytes
  right ← number_at w.seq ack.1
  if length right.1 == 0 then Some (record { seq = 0; ack = ack.0; right = right.0 }, []) else None

abbrev pub pdu_with : Head → Addresses → Numbers → List ℕ → Pdu
pdu_with h a n body = record { kind = h.kind; dst = a.dst; src = a.src; qos = h.qos; dcep = a.dcep; scep = a.scep; drf = h.drf; first = h.first; last = h.last; seq = n.seq; ack = n.ack; right = n.right; body = body }

-- the PDU that the bytes are; its length is that of all of them
unfoldable pub pdu_at : Widths → List ℕ → Option Pdu
pdu_at w bytes = do
  h ← head_at bytes
  a ← addresses_at w h.1
  len ← number_at w.len a.1
  n ← numbers_at w h.0.kind len.1
  if len.0 == length bytes then Some (pdu_with h.0 a.0 n.0 n.1) else None
