-- The connections of links are within the limits of a DIF's connections.
use Rattle.std.proofs.Common.{◌≡◌, ℕ, zero, suc, ◌+◌, ◌*◌, ◌≤◌, [], ◌∷◌, slice_get, Some, refl, sym, subst, arith, inl, inr}
use Rattle.rina_base.specs.declared.pdu.PduKind.TheVariants.{Piece, Ack}
use Rattle.rina_cube.specs.declared.Cube.{Cube}
use Rattle.rina_cube.specs.Cubes.{IsCube}
use Rattle.rina_pci.specs.declared.widths.Widths.{Widths}
use Rattle.rina_pci.specs.Spelling.{IsWidth, pci_size}
use Rattle.rina_data.specs.Configs.{Config, piece_size}
use Rattle.rina_dif_law.specs.Standing.{IsConfig}
use Rattle.rina_channel.specs.Names.{link_config, wide}
use Rattle.rina_channel.specs.Standing.{IsManaged}

at_most_four : (w : ℕ) → IsWidth w → w ≤ 4
at_most_four w (inl e) = omega arith
at_most_four w (inr (inl e)) = omega arith
at_most_four w (inr (inr e)) = omega arith

one_only : (a b : Cube) (i : ℕ) → slice_get (a ∷ []) i ≡ Some b → b ≡ a
one_only a b zero h = cc
one_only a b (suc i) h = cc

piece_header : (w : Widths) → pci_size Piece (wide w) ≡ 18 + w.seq
unfolding pci_size
piece_header w = omega arith

ack_header : (w : Widths) → pci_size Ack (wide w) ≡ 18 + 2 * w.seq
unfolding pci_size
ack_header w = omega arith

headers : (w : Widths) → pci_size Ack w ≡ pci_size Piece w + w.seq
unfolding pci_size
headers w = omega arith

pub link_is_config : (g : Config) (manage : Cube) → IsManaged g manage → IsConfig (link_config g manage)
link_is_config g manage managed =
    let config = managed.config in
    let seq = at_most_four g.widths.seq config.widths.seq in
    let pdu = managed.pdu in
    let piece = config.piece in
    let ack = config.ack in
    let ph = piece_header g.widths in
    let ah = ack_header g.widths in
    let hs = headers g.widths in
    record {
      widths = record { addr = inr (inr refl); cep = inl refl; len = inr (inr refl); seq = config.widths.seq };
      cubes = λ i cube h. subst IsCube (sym (one_only manage cube i h)) managed.cube;
      long = omega arith;
      piece = omega arith;
      ack = omega arith;
    }

-- pieces are cut as those of the DIF's flows
pub same_size : (g : Config) (manage : Cube) → piece_size (link_config g manage) ≡ piece_size g
same_size g manage = omega arith
