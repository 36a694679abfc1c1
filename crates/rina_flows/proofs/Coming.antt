-- A piece of the cloud that comes to an allocated end is one of the direction from its partner.
use Rattle.std.proofs.Common.{◌≡◌, ℕ, ◌-◌, ◌≤◌, List, length, ltb, Some, refl, ap, subst, arith}
use Rattle.rina_base.specs.declared.pdu.Pdu.{Pdu}
use Rattle.rina_base.specs.declared.pdu.PduKind.TheVariants.{Piece as APiece}
use Rattle.rina_cube.specs.declared.Cube.{Cube}
use Rattle.rina_data.specs.Configs.{Config, cube_by}
use Rattle.rina_ids.specs.Members.{CepIds}
use Rattle.rina_dif_law.specs.Dif.{constants}
use Rattle.rina_dif_law.specs.Ids.{AcksOf, Ids, PiecesOf, flipped}
use Rattle.rina_dif_law.specs.Standing.{IsConfig, IsConn, IsJournal, IsOwn}
use Rattle.rina_dif_law.proofs.Finding.{beside, cube_limits}
use Rattle.rina_dif_law.proofs.Own.{direction_in, partner_back}
use Rattle.rina_rest.specs.While.{IsBackedIf}
use Rattle.rina_iface.specs.declared.ends.End.{End}
use Rattle.rina_iface.specs.declared.state.PortState.TheVariants.{Allocated}
use Rattle.rina_iface.specs.Journal.{At}
use Rattle.rina_law.specs.Backed.{IsBacked}
use Rattle.rina_law.specs.Direction.{Direction, has_room}
use Rattle.rina_law.specs.Pdus.{piece_in}
use Rattle.rina_flows.specs.Arriving.{IsComing}
use Rattle.rina_flows.specs.Rows.{TakesAt}
use Rattle.rina_flows.specs.Tied.{IsInboundAt}

-- an allocated end receives from its partner
pub inbound_of : (g : Config) (now : ℕ) (cloud : ℕ → Pdu → Type 0) (held : List CepIds) (ends : List End) (ids : List Ids) (lines : List Direction) (at : ℕ) (end : End) → IsJournal now ends → IsOwn g now cloud held ends ids lines → At ends at end → end.state ≡ Allocated → (from : ℕ) × (line : Direction) × IsInboundAt ends lines end from line
inbound_of g now cloud held ends ids lines at end journal own is allocated =
    let p = journal.allocated at end is allocated in
    let line = beside ends lines p.place p.other own.lines_alike p.stands in
    (p.place, line.0, record { partner = p.other; is_partner = p.stands; partners = partner_back end p.other p.partner; is_line = line.1 })

some_cube : (g : Config) (id : ℕ) (x y : Cube) → cube_by id g.cubes ≡ Some x → cube_by id g.cubes ≡ Some y → x ≡ y
some_cube g id x y h k = cc

-- what is known of the direction in which an end receives
pub record IsInFlow (g : Config) (now : ℕ) (cloud : ℕ → Pdu → Type 0) (end : End) (ids : Ids) (cube : Cube) (line : Direction) : Type 0 where
  pub backed : IsBacked (constants g cube (flipped ids)) now (PiecesOf cloud (flipped ids)) (AcksOf cloud (flipped ids)) line
  pub got : line.inbox.got ≡ end.got
  pub passed : line.passed ≡ end.taken

pub inflow : (g : Config) (now : ℕ) (cloud : ℕ → Pdu → Type 0) (held : List CepIds) (ends : List End) (ids : List Ids) (lines : List Direction) (at : ℕ) (end : End) (its_ids : Ids) (cube : Cube) (from : ℕ) (line : Direction) → IsJournal now ends → IsOwn g now cloud held ends ids lines → IsConn ends ids at end its_ids → end.state ≡ Allocated → cube_by its_ids.qos g.cubes ≡ Some cube → IsInboundAt ends lines end from line → IsInFlow g now cloud end its_ids cube line
inflow g now cloud held ends ids lines at end its_ids cube from line journal own is_conn allocated is_cube inbound =
    let named = journal.named from at inbound.partner end inbound.is_partner is_conn.end inbound.partners in
    let flow = direction_in g now cloud held ends ids lines own from at inbound.partner end its_ids line inbound.is_partner is_conn inbound.is_line inbound.partners allocated named.cube in
    let B : Cube → Type 0 = λ x. IsBackedIf (Unit {0}) (constants g x (flipped its_ids)) now (PiecesOf cloud (flipped its_ids)) (AcksOf cloud (flipped its_ids)) line in
    let b = subst B (some_cube g its_ids.qos flow.cube cube flow.is_cube is_cube) flow.backed in
    record {
      backed = record { holds = b.holds; clock = b.clock; pieces_in = λ death p x alive. b.pieces_in death p (tt, x) alive; acks_in = λ death k x alive. b.acks_in death k (tt, x) alive };
      got = flow.got;
      passed = flow.passed;
    }

-- the count of entries that wait tells whether there is room
pub room_is : (g : Config) (now : ℕ) (cloud : ℕ → Pdu → Type 0) (end : End) (ids : Ids) (cube : Cube) (line : Direction) → IsInFlow g now cloud end ids cube line → ltb (length end.got - end.taken) cube.window ≡ has_room (constants g cube (flipped ids)) line
room_is g now cloud end ids cube line flow =
    let got = ap (λ es. length es) flow.got in
    let passed = flow.passed in
    let same : length end.got - end.taken ≡ length line.inbox.got - line.passed = omega arith in
    ap (λ n. ltb n cube.window) same

pub coming_of : (g : Config) (now : ℕ) (cloud : ℕ → Pdu → Type 0) (ends : List End) (ids : List Ids) (lines : List Direction) (at : ℕ) (end : End) (its_ids : Ids) (cube : Cube) (line : Direction) (pdu : Pdu) (death : ℕ) → IsConfig g → cube_by its_ids.qos g.cubes ≡ Some cube → IsInFlow g now cloud end its_ids cube line → TakesAt ends ids pdu at end its_ids → pdu.kind ≡ APiece → cloud death pdu → now ≤ death → IsComing (constants g cube (flipped its_ids)) its_ids line pdu
coming_of g now cloud ends ids lines at end its_ids cube line pdu death config is_cube flow takes kind here alive =
    let found = flow.backed.pieces_in death (piece_in pdu) (record { pdu = pdu; in_cloud = here; kind = kind; from = takes.names; is = refl }) alive in
    let clock = flow.backed.clock in
    record {
      limits = cube_limits g its_ids.qos cube config is_cube;
      cep = refl;
      holds = flow.backed.holds;
      copy = found.0;
      copy_is = found.2;
      flies = found.1;
      alive = (let le = found.3 in omega arith);
      kind = kind;
      names = takes.names;
    }
