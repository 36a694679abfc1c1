-- What never changes in a DIF: as a contract sees it, and as the code keeps it.
use Rattle.std.specs.Prelude.{ℕ, ◌-◌, ◌*◌, ◌^◌, ◌==◌, List, find, map, Option}
use Rattle.rina_base.specs.declared.pdu.PduKind.TheVariants.{Piece}
use Rattle.rina_cube.specs.declared.Cube.{Cube}
use Rattle.rina_pci.specs.declared.widths.Widths.{Widths}
use Rattle.rina_pci.specs.Spelling.{pci_size}
use Rattle.rina_data.specs.declared.settings.Member.{Member as Kept}
use Rattle.rina_data.specs.declared.settings.Settings.{Settings}

-- an IPC process of the DIF: its address, its name, and its node
pub record Member : Type 0 where
  pub addr : ℕ
  pub name : List ℕ
  pub node : ℕ

-- what never changes in a DIF
pub record Config : Type 0 where
  pub fac : ℕ  -- its number among the facilities of its rank
  pub members : List Member
  pub cubes : List Cube
  pub widths : Widths
  pub pdu : ℕ  -- bytes of a protected SDU, at most
  pub cap : ℕ  -- how many PDUs a queue holds
  pub admits : ℕ  -- how many fixed flows a node may have

-- the cube of an id
abbrev pub cube_by : ℕ → List Cube → Option Cube
cube_by id cubes = find (λ (c : Cube). c.id == id) cubes

-- a piece has at most so many bytes
abbrev pub piece_size : Config → ℕ
piece_size g = g.pdu - 4 - pci_size Piece g.widths

-- the greatest sequence number
abbrev pub greatest : Config → ℕ
greatest g = 2 ^ (8 * g.widths.seq) - 1

abbrev pub member_of : Kept → Member
member_of m = record { addr = m.addr; name = m.name; node = m.node }

abbrev pub config_of : Settings → Config
config_of s = record {
  fac = s.fac;
  members = map member_of s.members;
  cubes = s.cubes;
  widths = s.widths;
  pdu = s.pdu;
  cap = s.cap;
  admits = s.admits;
}
