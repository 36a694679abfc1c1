-- What holds of the DIFs of a stack that break no rule, in the words of the rules.
use Rattle.std.specs.Prelude.{◌≡◌, ◌≢◌, ℕ, ◌+◌, ◌*◌, ◌^◌, ◌<◌, ◌≤◌, ◌⊎◌, true, false, List, [], length, map, slice_get, Some, All, Contains}
use Rattle.std.specs.List.{AllPairs}
use Rattle.rina_base.specs.declared.pdu.PduKind.TheVariants.{Ack}
use Rattle.rina_cube.specs.declared.Cube.{Cube}
use Rattle.rina_cube.specs.declared.Kind.{Kind}
use Rattle.rina_cube.specs.declared.Kind.TheVariants.{Datagram}
use Rattle.rina_pci.specs.Spelling.{pci_size}
use Rattle.rina_plan.specs.declared.dif.MemberPlan.{MemberPlan}
use Rattle.rina_plan.specs.declared.dif.Lower.{Lower}
use Rattle.rina_plan.specs.declared.dif.Lower.TheVariants.{Wire, Dif}
use Rattle.rina_plan.specs.declared.dif.LinkPlan.{LinkPlan}
use Rattle.rina_plan.specs.declared.dif.DifPlan.{DifPlan}
use Rattle.rina_plan.specs.declared.dif.WireEnds.{WireEnds}
use Rattle.rina_plan.specs.Difs.{head_of, piece_of}
use Rattle.rina_plan.specs.Links.{rank_of}

-- a DIF of a rank above 1 stands on one: there is a DIF of the rank just below
abbrev pub HasLower : List DifPlan → DifPlan → Type 0
HasLower difs d = 1 < d.rank → (e : DifPlan) × Contains difs e × (e.rank + 1 ≡ d.rank)

-- no two numbers are equal
abbrev pub AreApart : List ℕ → Type 0
AreApart ns = AllPairs (λ m n. m ≢ n) ns

-- a DIF has a cube, and no two of one id
pub record HasCubes (d : DifPlan) : Type 0 where
  pub some : 1 ≤ length d.cubes
  pub ids : AreApart (map (λ (c : Cube). c.id) d.cubes)

-- a DIF has a member; no two of them stand on one node or have one address, and each address is above 0 and fits its field
pub record HasMembers (d : DifPlan) : Type 0 where
  pub some : 1 ≤ length d.members
  pub nodes : AreApart (map (λ (m : MemberPlan). m.node) d.members)
  pub addresses : AreApart (map (λ (m : MemberPlan). m.addr) d.members)
  pub fit : All (λ (m : MemberPlan). (1 ≤ m.addr) × (m.addr < 2 ^ (8 * d.widths.addr))) d.members

-- the length of the largest PDU fits its field, and the PDU has room for a byte of an SDU, and for an acknowledgement
pub record HasRoomyPdu (d : DifPlan) : Type 0 where
  pub fits : d.pdu < 2 ^ (8 * d.widths.len)
  pub piece : head_of d < d.pdu
  pub ack : 4 + pci_size Ack d.widths ≤ d.pdu

-- The largest SDU of a cube is one piece where the cube sends datagrams. Else its pieces are at most as many as the window, and as a queue holds.
abbrev pub FitsBy : Kind → ℕ → ℕ → Cube → Type 0
FitsBy Datagram piece queue c = c.largest ≤ piece
FitsBy _ piece queue c = (c.largest ≤ c.window * piece) × (c.largest ≤ queue * piece)

-- the SDUs of all cubes of a DIF fit, and so do the messages of its management connections
pub record HasFitSdus (d : DifPlan) : Type 0 where
  pub manage : FitsBy d.manage.kind (piece_of d) d.queue d.manage
  pub cubes : All (λ (c : Cube). FitsBy c.kind (piece_of d) d.queue c) d.cubes

-- the facility is a wire, or a DIF that is static
abbrev pub IsStatic : List DifPlan → Lower → Type 0
IsStatic difs (Wire i) = Unit {0}
IsStatic difs (Dif i) = (e : DifPlan) → slice_get difs i ≡ Some e → e.is_static ≡ true

-- a DIF that is not static has no links and no flows, and a static one has no link on a DIF that is not
pub record IsStanding (difs : List DifPlan) (d : DifPlan) : Type 0 where
  pub bare : d.is_static ≡ false → (d.links ≡ []) × (d.flows ≡ [])
  pub below : d.is_static ≡ true → All (λ (l : LinkPlan). IsStatic difs l.on) d.links

-- a DIF has a member on the node
abbrev pub StandsOn : DifPlan → ℕ → Type 0
StandsOn d node = Contains (map (λ (m : MemberPlan). m.node) d.members) node

-- the node is an end of the wire, or the DIF has a member on it
abbrev pub IsAt : List WireEnds → List DifPlan → ℕ → Lower → Type 0
IsAt wires difs node (Wire i) = (w : WireEnds) × (slice_get wires i ≡ Some w) × ((w.a ≡ node) ⊎ (w.b ≡ node))
IsAt wires difs node (Dif i) = (e : DifPlan) × (slice_get difs i ≡ Some e) × StandsOn e node

-- a link is on the rank just below, and joins two members of the DIF on different nodes, which are both at the facility below
pub record IsFitLink (wires : List WireEnds) (difs : List DifPlan) (d : DifPlan) (l : LinkPlan) : Type 0 where
  pub rank : rank_of difs l.on + 1 ≡ d.rank
  pub apart : l.a ≢ l.b
  pub a : StandsOn d l.a
  pub b : StandsOn d l.b
  pub a_below : IsAt wires difs l.a l.on
  pub b_below : IsAt wires difs l.b l.on

-- the facility has the cube, which is 0 for a wire, and takes SDUs of so many bytes on it
abbrev pub Takes : List WireEnds → List DifPlan → ℕ → ℕ → Lower → Type 0
Takes wires difs pdu cube (Wire i) = (w : WireEnds) × (slice_get wires i ≡ Some w) × (cube ≡ 0) × (pdu ≤ w.largest)
Takes wires difs pdu cube (Dif i) = (e : DifPlan) × (slice_get difs i ≡ Some e) × ((c : Cube) × Contains e.cubes c × (c.id ≡ cube) × (pdu ≤ c.largest))
