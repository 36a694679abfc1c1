-- A PDU behind the lifetime that it has left, as it crosses a hop.
use Rattle.std.specs.Prelude.{ℕ, List, Option, Some, None}
use Rattle.rina_base.specs.declared.pdu.Pdu.{Pdu}
use Rattle.rina_pci.specs.declared.widths.Widths.{Widths}
use Rattle.rina_pci.specs.Life.{life_at}
use Rattle.rina_pci.specs.Reading.{pdu_at}
use Rattle.rina_base.specs.Pdus.{pdu_of}
use Rattle.rina_data.specs.declared.hop.HopView.{HopView}

-- a protected SDU: a PDU behind the lifetime that it has left
pub record Hop : Type 0 where
  pub left : ℕ
  pub pdu : Pdu

abbrev pub hop_with : ℕ → Option Pdu → Option Hop
hop_with left None = None
hop_with left (Some pdu) = Some (record { left = left; pdu = pdu })

abbrev pub hop_after : Widths → Option (ℕ × List ℕ) → Option Hop
hop_after w None = None
hop_after w (Some split) = hop_with split.0 (pdu_at w split.1)

-- the protected SDU that the bytes are
abbrev pub opened : Widths → List ℕ → Option Hop
opened w bytes = hop_after w (life_at bytes)

-- one that is lent
abbrev pub hop_of : HopView → Hop
hop_of v = record { left = v.left; pdu = pdu_of v.pdu }
