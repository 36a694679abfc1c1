-- A connection that receives a piece does what the law says of the direction from its partner, and the flows stay tied.
use Rattle.std.proofs.Common.{◌≡◌, ℕ, ◌-◌, ◌≤◌, List, ◌++◌, length, map, ltb, slice_set, Option, option_map, refl, sym, ◌∙◌, ap, subst, arith}
use Rattle.std.proofs.lemmas.Option.{slice_get-map}
use Rattle.rina_account.specs.declared.ledger.Off.{Off}
use Rattle.rina_base.specs.declared.cause.Cause.{Cause}
use Rattle.rina_base.specs.declared.pdu.Pdu.{Pdu}
use Rattle.rina_base.specs.declared.pdu.PduKind.TheVariants.{Piece as APiece}
use Rattle.rina_conn.specs.declared.conn.Conn.{Conn}
use Rattle.rina_conn.specs.declared.sending.Sending.{Sending}
use Rattle.rina_data.specs.Configs.{Config}
use Rattle.rina_ids.specs.Members.{CepIds}
use Rattle.rina_dif_law.specs.Dif.{DifSeen, constants}
use Rattle.rina_data.specs.Process.{Process, with_offs}
use Rattle.rina_dif_law.specs.Ids.{Ids, IsFrom, flipped}
use Rattle.rina_dif_law.specs.Incoming.{IsArrived, arrived, lines_for}
use Rattle.rina_dif_law.specs.Standing.{IsConfig, IsJournal, IsOwn}
use Rattle.rina_dif_law.proofs.Finding.{beside}
use Rattle.rina_dif_law.proofs.Forgot.{found_clock}
use Rattle.rina_dtp.specs.declared.verdict.Verdict.{Verdict}
use Rattle.rina_dtp.specs.Receiving.{kept_numbers}
use Rattle.rina_iface.specs.declared.ends.End.{End}
use Rattle.rina_iface.specs.declared.state.PortState.TheVariants.{Allocated}
use Rattle.rina_law.specs.declared.entry.Entry.{Entry}
use Rattle.rina_law.specs.Constants.{Constants}
use Rattle.rina_law.specs.Direction.{Direction, entry_for}
use Rattle.rina_law.specs.Pdus.{piece_in}
use Rattle.rina_law.specs.Pieces.{Sdu}
use Rattle.rina_flows.specs.Arriving.{IsArrival, IsComing, cause_of, with_delivered}
use Rattle.rina_flows.specs.Rows.{ArrivesAt, IsPlace, TakesAt}
use Rattle.rina_flows.specs.Tied.{IsAt, IsInboundAt, IsReceiving, IsTied, conns_of, ids_by, ids_of, inward}
use Rattle.rina_flows.proofs.Coming.{IsInFlow, coming_of, inbound_of, inflow, room_is}
use Rattle.rina_flows.proofs.Finds.{arrives_found, found_sender}
use Rattle.rina_flows.proofs.Retied.{tied_after}

-- the directions after it, to which the flows are tied
pub record HasArrived (g : Config) (now : ℕ) (ends : List End) (conns : List Conn) (lines : List Direction) (at : ℕ) (end : End) (conn : Conn) (pdu : Pdu) (result : Verdict) (offs : List Off) (whole : List Sdu) (new : Conn) : Type 0 where
  pub lines' : List Direction
  pub arrives : ArrivesAt g ends (conns_of conns) lines at pdu (cause_of result) offs (slice_set ends at (with_delivered (ids_of conn) now whole end)) lines'
  pub tied : IsTied g now (slice_set ends at (with_delivered (ids_of conn) now whole end)) (slice_set conns at new) lines'
  pub count : length offs ≤ length (kept_numbers conn.rx)

-- the ids and the cube of the connection at a place
pub place_of : (g : Config) (now : ℕ) (ends : List End) (conns : List Conn) (lines : List Direction) (at : ℕ) (end : End) (conn : Conn) → IsTied g now ends conns lines → IsAt ends conns at end conn → IsPlace g ends (conns_of conns) at end (ids_of conn) conn.sending.form.cube
place_of g now ends conns lines at end conn tied is_at =
    let line = beside ends lines at end tied.lines_alike is_at.end_is in
    record {
      is_conn = record { end = is_at.end_is; ids_are = slice_get-map ids_of conns at ∙ ap (option_map ids_of) is_at.conn_is };
      is_cube = (tied.sends at conn line.0 is_at.conn_is line.1).cube;
    }

module _ (g : Config) (now : ℕ) (cloud : ℕ → Pdu → Type 0) (held : List CepIds) (ends : List End) (conns : List Conn) (lines : List Direction) (config : IsConfig g) (journal : IsJournal now ends) (own : IsOwn g now cloud held ends (conns_of conns) lines) (tied : IsTied g now ends conns lines) (at : ℕ) (end : End) (conn : Conn) (is_at : IsAt ends conns at end conn) (allocated : end.state ≡ Allocated) where
  pub the_flow : (from : ℕ) (line : Direction) → IsInboundAt ends lines end from line → IsInFlow g now cloud end (ids_of conn) conn.sending.form.cube line
  the_flow from line inbound =
      let place = place_of g now ends conns lines at end conn tied is_at in
      inflow g now cloud held ends (conns_of conns) lines at end (ids_of conn) conn.sending.form.cube from line journal own place.is_conn allocated place.is_cube inbound

  -- the piece is one of the direction from the partner
  pub is_coming : (pdu : Pdu) (death from : ℕ) (line : Direction) → IsFrom (flipped (ids_of conn)) pdu → pdu.kind ≡ APiece → cloud death pdu → now ≤ death → IsInboundAt ends lines end from line → IsComing (inward g conn) (ids_of conn) line pdu
  is_coming pdu death from line names kind here alive inbound =
      let place = place_of g now ends conns lines at end conn tied is_at in
      let takes : TakesAt ends (conns_of conns) pdu at end (ids_of conn) = record { is_conn = place.is_conn; allocated = allocated; names = names } in
      coming_of g now cloud ends (conns_of conns) lines at end (ids_of conn) conn.sending.form.cube line pdu death config place.is_cube (the_flow from line inbound) takes kind here alive

  arrived_to : (pdu : Pdu) (from : ℕ) (line : Direction) (unpassed : ℕ) (result : Verdict) (offs : List Off) (whole : List Sdu) (new : Conn) → IsInboundAt ends lines end from line → IsComing (inward g conn) (ids_of conn) line pdu → unpassed ≡ length end.got - end.taken → IsArrival now pdu unpassed conn result offs whole new →
      HasArrived g now ends conns lines at end conn pdu result offs whole new
  arrived_to pdu from line unpassed result offs whole new inbound coming count a =
      let c : Constants = inward g conn in
      let ids : Ids = ids_of conn in
      let flow = the_flow from line inbound in
      let receiving = tied.receives at from end conn line is_at allocated inbound in
      let room = ap (λ n. ltb n conn.sending.form.cube.window) count in
      let here = beside ends lines at end tied.lines_alike is_at.end_is in
      let max = (tied.sends at conn here.0 is_at.conn_is here.1).sender.max in
      let same : unpassed ≡ length line.inbox.got - line.passed = (let got = ap (λ (es : List Entry). length es) flow.got in let passed = flow.passed in omega arith) in
      let x = arrives_found c ids now line pdu unpassed conn new result offs whole flow.backed.clock coming (room ∙ room_is g now cloud end ids conn.sending.form.cube line flow) receiving same a (ap (λ (s : Sending). s.form.cube) a.sending_before) (ap (λ (s : Sending). s.numbers.max) a.sending_before ∙ max) in
      let line' : Direction = arrived c (piece_in pdu) line in
      let end' : End = with_delivered ids now whole end in
      let got : line'.inbox.got ≡ end'.got = x.got ∙ ap (λ (es : List Entry). es ++ map (entry_for c now) a.heard.rx.join.whole) flow.got ∙ ap (λ (ws : List Sdu). end.got ++ map (entry_for c now) ws) (sym a.whole_are) in
      let R : Sending → Type 0 = λ s. IsReceiving (constants g s.form.cube (flipped (ids_by s.form.peer s.form.cube.id))) now (ids_by s.form.peer s.form.cube.id) new line' in
      record {
        lines' = slice_set lines from line';
        arrives = record {
          end = end;
          its_ids = ids;
          cube = conn.sending.form.cube;
          place = place_of g now ends conns lines at end conn tied is_at;
          from = from;
          line = line;
          inbound = inbound;
          arrived = (x.cause, x.dropped, ap (λ (es : List Entry). slice_set ends at (record end { got = es })) (sym got), refl, x.settled, x.in_order);
        };
        tied = tied_after g now ends conns lines at from end end' conn new line line' journal tied (record { is_at = is_at; inbound = inbound; const = record { flow = refl; role = refl; port = refl; app = refl; peer = refl; cube = refl }; awake = λ waits. absurd (let clash = allocated in cc); sending = a.sending; sender = found_sender c line; clock = found_clock c line }) (λ still. subst R (sym a.sending) x.receives);
        count = x.count;
      }

  -- the whole of an arrival: a copy of the piece is in the cloud, and not dead
  pub arrives_at : (pdu : Pdu) (death unpassed : ℕ) (result : Verdict) (offs : List Off) (whole : List Sdu) (new : Conn) → IsFrom (flipped (ids_of conn)) pdu → pdu.kind ≡ APiece → cloud death pdu → now ≤ death → unpassed ≡ length end.got - end.taken → IsArrival now pdu unpassed conn result offs whole new →
      HasArrived g now ends conns lines at end conn pdu result offs whole new
  arrives_at pdu death unpassed result offs whole new names kind here alive count a =
      let inb = inbound_of g now cloud held ends (conns_of conns) lines at end journal own is_at.end_is allocated in
      arrived_to pdu inb.0 inb.1 unpassed result offs whole new inb.2 (is_coming pdu death inb.0 inb.1 names kind here alive inb.2) count a

-- For the DIF of which these are the flows

pub is_arrived : (d : DifSeen) (lines : List Direction) (i : ℕ) (process : Process) (pdu : Pdu) (at : ℕ) (cause : Option Cause) (offs : List Off) (ends' : List End) (lines' : List Direction) (d' : DifSeen) → pdu.kind ≡ APiece → (a : ArrivesAt d.config d.ends d.conns lines at pdu cause offs ends' lines') → a.end.state ≡ Allocated → IsFrom (flipped a.its_ids) pdu → d' ≡ record d { ends = ends'; processes = slice_set d.processes i (with_offs process (offs ++ lines_for pdu cause)) } →
    IsArrived d lines i process pdu cause d' lines'
is_arrived d lines i process pdu at cause offs ends' lines' d' kind a allocated names is = record {
  piece = kind;
  place = at;
  end = a.end;
  ids = a.its_ids;
  taker = record { is_conn = a.place.is_conn; allocated = allocated; names = names };
  from = a.from;
  line = a.line;
  inbound = record { partner = a.inbound.partner; is_partner = a.inbound.is_partner; partners = a.inbound.partners; is_line = a.inbound.is_line };
  cube = a.cube;
  is_cube = a.place.is_cube;
  cause_is = a.arrived.0;
  dropped = offs;
  all_dropped = a.arrived.1;
  settled = a.arrived.4;
  in_order = a.arrived.5;
  lines_are = a.arrived.3;
  new_is = is ∙ ap (λ (es : List End). record d { ends = es; processes = slice_set d.processes i (with_offs process (offs ++ lines_for pdu cause)) }) (a.arrived.2);
}
