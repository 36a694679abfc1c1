-- Protected SDUs are read as they were written.
use Rattle.std.proofs.Common.{◌≡◌, ℕ, ◌-◌, ◌^◌, ◌<◌, List, Some, Option, refl, sym, ◌∙◌, ap, subst, arith}
use Rattle.rina_base.specs.declared.pdu.Pdu.{Pdu}
use Rattle.rina_pci.specs.declared.widths.Widths.{Widths}
use Rattle.rina_pci.specs.Life.{protected}
use Rattle.rina_pci.specs.Spelling.{AreWidths, Fits, spelling}
use Rattle.rina_pci.proofs.Lifetimes.{life_again}
use Rattle.rina_pci.proofs.Pdus.{pdu_again}
use Rattle.rina_queue.specs.declared.queue.Queued.{Queued}
use Rattle.rina_data.specs.Hops.{Hop, hop_after, hop_with, opened}
use Rattle.rina_data.specs.Configs.{Config}
use Rattle.rina_dif_law.specs.Standing.{IsConfig, IsItem, IsSpelled}
use Rattle.rina_data.specs.Fitting.{IsFit}

pub opened_spelling : (w : Widths) (left : ℕ) (pdu : Pdu) → AreWidths w → Fits w pdu → left < 2 ^ 32 → opened w (protected left (spelling w pdu)) ≡ Some (record { left = left; pdu = pdu })
opened_spelling w left pdu widths fits bound = ap (hop_after w) (life_again left (spelling w pdu) bound) ∙ ap (hop_with left) (pdu_again w pdu widths fits)

-- what an SDU below holds is a PDU that may be sent on
pub record IsHopOf (g : Config) (hop : Hop) : Type 0 where
  pub fit : IsFit g hop.pdu
  pub left : hop.left < 2 ^ 32

hop_is : (g : Config) (a b : Hop) → a ≡ b → IsFit g b.pdu → b.left < 2 ^ 32 → IsHopOf g a
hop_is g a b is fit left = record { fit = subst (λ (h : Hop). IsFit g h.pdu) (sym is) fit; left = subst (λ (h : Hop). h.left < 2 ^ 32) (sym is) left }

some_same : (o : Option Hop) (a b : Hop) → o ≡ Some a → o ≡ Some b → a ≡ b
some_same o a b h g = cc

pub spelled_hop : (g : Config) (bytes : List ℕ) (hop : Hop) → IsConfig g → IsSpelled g bytes → opened g.widths bytes ≡ Some hop → IsHopOf g hop
spelled_hop g bytes hop config s opens =
    let again : opened g.widths bytes ≡ Some (record { left = s.left; pdu = s.pdu }) = ap (opened g.widths) s.is ∙ opened_spelling g.widths s.left s.pdu config.widths s.fit.fits s.bound in
    hop_is g hop (record { left = s.left; pdu = s.pdu }) (some_same (opened g.widths bytes) hop (record { left = s.left; pdu = s.pdu }) opens again) s.fit s.bound

-- a PDU that waits is spelled behind what is left of its lifetime
pub item_spelled : (g : Config) (now less : ℕ) (item : Queued) → IsItem g now item → IsSpelled g (protected (item.left - less) (spelling g.widths item.pdu))
item_spelled g now less item h = (let left : item.left < 2 ^ 32 = h.left in record { pdu = item.pdu; left = item.left - less; fit = h.fit; bound = omega arith; is = refl })
