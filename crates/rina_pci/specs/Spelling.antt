-- The bytes of a PDU: each field of the width that its DIF has for it, big-endian.
use Rattle.std.specs.Prelude.{◌≡◌, ℕ, ◌+◌, ◌*◌, ◌^◌, ◌<◌, ◌==◌, ◌⊎◌, Bool, List, [], ◌∷◌, ◌++◌, length, slice_index, if◌then◌else◌}
use Rattle.std.specs.Int.{w16, w32, to_be_bytes}
use Rattle.rina_base.specs.declared.pdu.PduKind.{PduKind}
use Rattle.rina_base.specs.declared.pdu.PduKind.TheVariants.{Piece, Ack}
use Rattle.rina_base.specs.declared.pdu.Pdu.{Pdu}
use Rattle.rina_base.specs.Pdus.{IsProper}
use Rattle.rina_pci.specs.declared.widths.Widths.{Widths}

abbrev pub IsWidth : ℕ → Type 0
IsWidth w = (w ≡ 1) ⊎ ((w ≡ 2) ⊎ (w ≡ 4))

pub record AreWidths (w : Widths) : Type 0 where
  pub addr : IsWidth w.addr
  pub cep : IsWidth w.cep
  pub len : IsWidth w.len
  pub seq : IsWidth w.seq

-- a number in 1, 2 or 4 bytes, big-endian
unfoldable pub be : ℕ → ℕ → List ℕ
be w n = if w == 1 then n ∷ [] else (if w == 2 then to_be_bytes w16 n else to_be_bytes w32 n)

abbrev pub bit : Bool → ℕ → ℕ
bit b k = if b then k else 0

unfoldable pub flags : Bool → Bool → Bool → ℕ
flags drf first last = bit drf 1 + bit first 2 + bit last 4

abbrev pub code : PduKind → ℕ
code Piece = 1
code Ack = 2

-- version, flags, type and QoS-id
unfoldable pub head : Pdu → List ℕ
head p = 1 ∷ flags p.drf p.first p.last ∷ code p.kind ∷ p.qos ∷ []

abbrev pub addresses : Widths → Pdu → List ℕ
addresses w p = be w.addr p.dst ++ be w.addr p.src ++ be w.cep p.dcep ++ be w.cep p.scep

-- how many bytes stand before the body
unfoldable pub pci_size : PduKind → Widths → ℕ
pci_size Piece w = 4 + 2 * w.addr + 2 * w.cep + w.len + w.seq
pci_size Ack w = 4 + 2 * w.addr + 2 * w.cep + w.len + 2 * w.seq

-- how many bytes the whole PDU has
abbrev pub pdu_size : Widths → Pdu → ℕ
pdu_size w p = pci_size p.kind w + length p.body

abbrev pub numbers_and_body : Widths → PduKind → Pdu → List ℕ
numbers_and_body w Piece p = be w.seq p.seq ++ p.body
numbers_and_body w Ack p = be w.seq p.ack ++ be w.seq p.right

-- the bytes of a PDU
unfoldable pub spelling : Widths → Pdu → List ℕ
spelling w p = head p ++ addresses w p ++ be w.len (pdu_size w p) ++ numbers_and_body w p.kind p

-- what has a spelling: each field fits its width
pub record Fits (w : Widths) (p : Pdu) : Type 0 where
  pub proper : IsProper p
  pub dst : p.dst < 2 ^ (8 * w.addr)
  pub src : p.src < 2 ^ (8 * w.addr)
  pub dcep : p.dcep < 2 ^ (8 * w.cep)
  pub scep : p.scep < 2 ^ (8 * w.cep)
  pub len : pdu_size w p < 2 ^ (8 * w.len)
  pub seq : p.seq < 2 ^ (8 * w.seq)
  pub ack : p.ack < 2 ^ (8 * w.seq)
  pub right : p.right < 2 ^ (8 * w.seq)

abbrev pub IsBytes : List ℕ → Type 0
IsBytes bytes = (i : ℕ) → slice_index bytes i < 256
