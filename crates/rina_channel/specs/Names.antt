-- The names of a management connection between its two ends, by their places. On the wire all are 0.
use Rattle.std.specs.Prelude.{ℕ, ◌+◌, [], ◌∷◌}
use Rattle.rina_base.specs.declared.pdu.Pdu.{Pdu}
use Rattle.rina_base.specs.declared.pdu.PduKind.TheVariants.{Piece}
use Rattle.rina_cube.specs.declared.Cube.{Cube}
use Rattle.rina_pci.specs.declared.widths.Widths.{Widths}
use Rattle.rina_pci.specs.Spelling.{pci_size}
use Rattle.rina_data.specs.Configs.{Config, piece_size}
use Rattle.rina_dif_law.specs.Ids.{Ids}

-- Between the ends

-- by the end at a place, whose far end has another place
abbrev pub names_at : ℕ → ℕ → Ids
names_at place partner = record { own = place; far = partner; scep = 0; dcep = 0; qos = 0 }

-- the PDU from the end at one place to the end at another
abbrev pub named : ℕ → ℕ → Pdu → Pdu
named from to pdu = record pdu { src = from; dst = to }

-- the PDU as it crosses the link
abbrev pub unnamed : Pdu → Pdu
unnamed pdu = record pdu { src = 0; dst = 0 }

-- What never changes in the connections

-- a place has four bytes, whatever width an address of the DIF has
abbrev pub wide : Widths → Widths
wide w = record { addr = 4; cep = 1; len = 4; seq = w.seq }

-- the management connections of a DIF have one cube, and pieces and numbers as the DIF's flows have
abbrev pub link_config : Config → Cube → Config
link_config g manage = record g { cubes = manage ∷ []; widths = wide g.widths; pdu = piece_size g + 4 + pci_size Piece (wide g.widths) }
