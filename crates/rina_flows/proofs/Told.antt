-- An acknowledgement that comes to a connection.
use Rattle.std.proofs.Common.{◌≡◌, ℕ, ◌<◌, List, length, slice_get, slice_set, Some, refl, sym, ◌∙◌, ap, subst, inl, inr}
use Rattle.rina_base.specs.declared.pdu.Pdu.{Pdu}
use Rattle.rina_conn.specs.declared.conn.Conn.{Conn}
use Rattle.rina_conn.specs.declared.form.Form.{Form}
use Rattle.rina_conn.specs.Sending.{IsSender}
use Rattle.rina_data.specs.Configs.{Config, cube_by}
use Rattle.rina_dif_law.specs.Dif.{constants}
use Rattle.rina_dif_law.proofs.Finding.{beside}
use Rattle.rina_data.proofs.Finding.{there}
use Rattle.rina_iface.specs.declared.ends.End.{End}
use Rattle.rina_iface.proofs.Changed.{set_at, slice_get-set_same, slice_set-same}
use Rattle.rina_law.specs.Direction.{Direction}
use Rattle.rina_law.specs.Line.{told}
use Rattle.rina_law.specs.Pdus.{ack_in}
use Rattle.rina_law.specs.Sender.{sender_told}
use Rattle.rina_flows.specs.Calls.{Becomes, IsTold, TellsOne}
use Rattle.rina_flows.specs.Tied.{IsAt, IsSending, IsTied, IsUsed, conns_of, ids_by, ids_of, inward, outward}
use Rattle.rina_flows.proofs.Framed.{same_ids, tied_set}
use Rattle.rina_flows.proofs.Offered.{elsewhere, flows_of}
use Rattle.rina_flows.proofs.Restated.{receiving_conn, receiving_same}

pub tied_told : (g : Config) (now at : ℕ) (pdu : Pdu) (ends : List End) (conns : List Conn) (lines : List Direction) (end : End) (conn conn' : Conn) (line : Direction) → IsTied g now ends conns lines → IsAt ends conns at end conn → slice_get lines at ≡ Some line → IsTold pdu conn conn' → IsUsed ends at → IsTied g now ends (slice_set conns at conn') (slice_set lines at (record line { line = told (ack_in pdu) line.line }))
tied_told g now at pdu ends conns lines end conn conn' line t is is_line k used =
    let line' : Direction = record line { line = told (ack_in pdu) line.line } in
    let sending = t.sends at conn line is.conn_is is_line in
    let sender : IsSender (outward g conn) (sender_told (ack_in pdu) line.line.sender) conn'.sending = k.told (outward g conn) line.line.sender sending.sender in
    let sends' : IsSending g now conn' line' = record {
      cube = subst (λ (f : Form). cube_by f.cube.id g.cubes ≡ Some f.cube) (sym k.form) sending.cube;
      clock = sending.clock;
      sender = subst (λ (f : Form). IsSender (constants g f.cube (ids_by f.peer f.cube.id)) (sender_told (ack_in pdu) line.line.sender) conn'.sending) (sym k.form) sender;
    } in
    let tied = tied_set g now ends conns lines at at end end conn conn' line line' t (record {
      is_at = is;
      is_line = is_line;
      const = record { flow = refl; role = refl; port = refl; app = refl; peer = refl; cube = refl };
      sends_here = λ l h. (let there' = slice_get-set_same lines at line line' is_line in let same : l ≡ line' = cc in subst (λ (x : Direction). IsSending g now conn' x) (sym same) sends');
      sends_there = λ x other. absurd (other refl);
      receives_here = λ i l state h. elim (set_at lines at i line line' l is_line h.is_line) [
        | inl u ↦ absurd (elsewhere ends (slice_set lines at line') at i end l is.end_is h u.0)
        | inr u ↦ receiving_conn g now conn conn' l k.form k.rx k.plan k.waiting (t.receives at i end conn l is state (record { partner = h.partner; is_partner = h.is_partner; partners = h.partners; is_line = u.1 }))
      ];
      receives_there = λ i e x other is' inb h. receiving_same (inward g x) now (ids_of x) x line line' refl refl refl refl refl h;
      unused = λ unused. absurd (used end is.end_is unused);
      waits = λ waits. waits;
      early = refl;
    }) in
    subst (λ (xs : List End). IsTied g now xs (slice_set conns at conn') (slice_set lines at line')) (slice_set-same ends at end is.end_is) tied

pub tells_from : (at : ℕ) (pdu : Pdu) (ends : List End) (conns conns' : List Conn) → at < length conns → Becomes (IsTold pdu) at conns conns' → TellsOne at pdu (flows_of ends conns) (flows_of ends conns')
tells_from at pdu ends conns conns' lt become = λ g now lines t used.
    let k = there conns at lt in
    let conn : Conn = k.0 in
    let e = beside conns ends at conn (sym t.alike) k.1 in
    let end : End = e.0 in
    let l = beside ends lines at end t.lines_alike e.1 in
    let line : Direction = l.0 in
    let b = become conn k.1 in
    let lines' : List Direction = slice_set lines at (record line { line = told (ack_in pdu) line.line }) in
    let tied = tied_told g now at pdu ends conns lines end conn b.0 line t (record { end_is = e.1; conn_is = k.1 }) l.1 b.1 used in
    record {
      lines' = lines';
      told = record { line = line; is_line = l.1; lines_are = refl };
      tied = subst (λ (xs : List Conn). IsTied g now ends xs lines') (sym b.2) tied;
      ids = ap conns_of b.2 ∙ same_ids conns at conn b.0 k.1 (ap (λ (f : Form). ids_by f.peer f.cube.id) b.1.form);
    }
