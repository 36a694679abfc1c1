-- Writing a PDU from left to right, up to the first field that does not fit.
use Rattle.std.specs.Prelude.{◌≡◌, ℕ, ◌*◌, ◌^◌, Bool, nat_lt, List, [], ◌∷◌, ◌++◌, Option, Some, None, Result, Ok, Err, if◌then◌else◌}
use Rattle.std.specs.Global.{Vec}
use Rattle.rina_base.specs.declared.pdu.PduKind.{PduKind}
use Rattle.rina_base.specs.declared.pdu.PduKind.TheVariants.{Piece, Ack}
use Rattle.rina_base.specs.declared.pdu.Pdu.{Pdu}
use Rattle.rina_base.specs.Traverse.{◌>>=◌}
use Rattle.rina_pci.specs.declared.widths.Widths.{Widths}
use Rattle.rina_pci.specs.declared.error.PciError.{PciError}
use Rattle.rina_pci.specs.declared.error.PciError.TheVariants.{Memory, TooWide}
use Rattle.rina_pci.specs.Spelling.{be, head, pdu_size}

-- a number fits so many bytes
unfoldable pub fits : ℕ → ℕ → Bool
fits w n = nat_lt n (2 ^ (8 * w))

-- the bytes of a field, where it fits
abbrev pub field : ℕ → ℕ → ℕ → Result (List ℕ) PciError
field number w n = if fits w n then Ok (be w n) else Err (TooWide number)

unfoldable pub addresses_written : Widths → Pdu → Result (List ℕ) PciError
addresses_written w p = do
  dst ← field 5 w.addr p.dst
  src ← field 6 w.addr p.src
  dcep ← field 7 w.cep p.dcep
  scep ← field 8 w.cep p.scep
  Ok (dst ++ src ++ dcep ++ scep)

unfoldable pub numbers_written : Widths → PduKind → Pdu → Result (List ℕ) PciError
numbers_written w Piece p = do
  seq ← field 10 w.seq p.seq
  Ok (seq ++ p.body)
numbers_written w Ack p = do
  ack ← field 10 w.seq p.ack
  right ← field 11 w.seq p.right
  Ok (ack ++ right)

-- the bytes of a PDU, or its first field that does not fit
unfoldable pub written : Widths → Pdu → Result (List ℕ) PciError
written w p = do
  addresses ← addresses_written w p
  len ← field 9 w.len (pdu_size w p)
  numbers ← numbers_written w p.kind p
  Ok (head p ++ addresses ++ len ++ numbers)

-- a field: its place in a PDU, its width, and its number
pub record Field : Type 0 where
  pub place : ℕ
  pub width : ℕ
  pub number : ℕ

abbrev pub entry : ℕ → ℕ → ℕ → Field
entry place width number = record { place = place; width = width; number = number }

abbrev pub number_fields : Widths → PduKind → Pdu → List Field
number_fields w Piece p = entry 10 w.seq p.seq ∷ []
number_fields w Ack p = entry 10 w.seq p.ack ∷ entry 11 w.seq p.right ∷ []

-- the fields whose width the DIF has, in their order
abbrev pub fields : Widths → Pdu → List Field
fields w p = entry 5 w.addr p.dst ∷ entry 6 w.addr p.src ∷ entry 7 w.cep p.dcep ∷ entry 8 w.cep p.scep ∷ entry 9 w.len (pdu_size w p) ∷ number_fields w p.kind p

-- the place of the first field that does not fit
abbrev pub first_wide : List Field → Option ℕ
first_wide [] = None
first_wide (f ∷ others) = if fits f.width f.number then first_wide others else Some f.place

-- a call added to a row of bytes what a definition gives, unless memory ran out
abbrev pub Adds : Result (Unit {0}) PciError → List ℕ → List ℕ → Result (List ℕ) PciError → Type 0
Adds (Ok _) old new made = (bytes : List ℕ) × (made ≡ Ok bytes) × (new ≡ old ++ bytes)
Adds (Err Memory) old new made = Unit {0}
Adds (Err (TooWide n)) old new made = made ≡ Err (TooWide n)

-- a call made what a definition gives, unless memory ran out
abbrev pub Gives : Result (Vec ℕ) PciError → Result (List ℕ) PciError → Type 0
Gives (Ok v) made = made ≡ Ok v.items
Gives (Err Memory) made = Unit {0}
Gives (Err (TooWide n)) made = made ≡ Err (TooWide n)
