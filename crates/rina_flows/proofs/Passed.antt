-- An SDU that is passed.
use Rattle.std.proofs.Common.{◌≡◌, ℕ, ◌<◌, List, [], length, slice_get, slice_set, Option, Some, refl, sym, ◌∙◌, ap, subst, arith, inl, inr}
use Rattle.rina_base.specs.declared.pdu.Pdu.{Pdu}
use Rattle.rina_conn.specs.declared.conn.Conn.{Conn}
use Rattle.rina_conn.specs.declared.form.Form.{Form}
use Rattle.rina_conn.specs.declared.sending.Sending.{Sending}
use Rattle.rina_conn.specs.Standing.{AreWaiting, IsReceiver}
use Rattle.rina_dif_law.specs.Cloud.{Cloud, Everywhere}
use Rattle.rina_data.specs.Configs.{Config}
use Rattle.rina_dif_law.specs.Dif.{constants}
use Rattle.rina_dif_law.specs.Ids.{flipped}
use Rattle.rina_dif_law.specs.Standing.{IsConn, IsJournal}
use Rattle.rina_dif_law.proofs.Finding.{beside}
use Rattle.rina_data.proofs.Finding.{there}
use Rattle.rina_dif_law.proofs.Own.{journals, one_partner, partner_back}
use Rattle.rina_dtp.specs.Stands.{Stands}
use Rattle.rina_iface.specs.declared.ends.End.{End}
use Rattle.rina_iface.specs.declared.state.PortState.TheVariants.{Allocated}
use Rattle.rina_iface.specs.Ends.{with_passed}
use Rattle.rina_iface.specs.Journal.{At, IsPartner}
use Rattle.rina_iface.proofs.Changed.{set_at}
use Rattle.rina_law.specs.declared.entry.Entry.{Entry}
use Rattle.rina_law.specs.Direction.{Direction, Pass, happens}
use Rattle.rina_law.specs.Pieces.{Sdu}
use Rattle.rina_flows.specs.Calls.{Becomes, IsPass, PassesOne}
use Rattle.rina_flows.specs.Tied.{IsAt, IsInboundAt, IsReceiving, IsTied, IsUsed, conns_of, ids_by, ids_of, inward}
use Rattle.rina_flows.proofs.Framed.{ids_at, same_ids, tied_set}
use Rattle.rina_flows.proofs.Offered.{elsewhere, flows_of}
use Rattle.rina_flows.proofs.Restated.{receiving_passed, sending_conn, sending_same}
use Rattle.rina_flows.proofs.Unused.{unused_const}

-- only one end receives from a place
pub one_receiver : (now : ℕ) (ends : List End) (lines : List Direction) (at i from : ℕ) (end e : End) (line l : Direction) → IsJournal now ends → At ends at end → At ends i e → IsInboundAt ends lines end from line → IsInboundAt ends lines e from l → i ≡ at
one_receiver now ends lines at i from end e line l journal is is' inb inb' =
    let same : inb'.partner ≡ inb.partner = (let a = inb'.is_partner in let b = inb.is_partner in same_at (slice_get ends from) inb'.partner inb.partner a b) in
    let back : IsPartner e inb.partner = subst (λ (x : End). IsPartner e x) same (partner_back inb'.partner e inb'.partners) in
    one_partner now ends i at e end inb.partner journal is' is back (partner_back inb.partner end inb.partners)
  where
    same_at : (o : Option End) (a b : End) → o ≡ Some a → o ≡ Some b → a ≡ b
    same_at o a b h g = cc

-- an end receives from one place
pub one_sender : (now : ℕ) (ends : List End) (lines lines' : List Direction) (i from : ℕ) (end : End) (line l : Direction) → IsJournal now ends → IsInboundAt ends lines end from line → IsInboundAt ends lines' end i l → i ≡ from
one_sender now ends lines lines' i from end line l journal inb h = one_partner now ends i from h.partner inb.partner end journal h.is_partner inb.is_partner h.partners inb.partners

pub tied_passed : (g : Config) (now at from : ℕ) (ends : List End) (conns : List Conn) (lines : List Direction) (end : End) (conn conn' : Conn) (line : Direction) → IsJournal now ends → IsTied g now ends conns lines → IsAt ends conns at end conn → IsInboundAt ends lines end from line → line.passed < length line.inbox.got → IsPass now conn conn' → IsUsed ends at → IsTied g now (slice_set ends at (with_passed end)) (slice_set conns at conn') (slice_set lines from (happens (inward g conn) line Pass))
tied_passed g now at from ends conns lines end conn conn' line journal t is inb waits p used =
    let line' : Direction = happens (inward g conn) line Pass in
    let far = beside ends conns from inb.partner t.alike inb.is_partner in
    let clock : line.line.clock ≡ now = (t.sends from far.0 line far.1 inb.is_line).clock in
    let form : conn'.sending.form ≡ conn.sending.form = ap (λ (s : Sending). s.form) p.sending in
    let main : end.state ≡ Allocated → IsReceiving (inward g conn') now (ids_of conn') conn' line' = λ state.
    (let h = t.receives at from end conn line is state inb in
    let here = beside ends lines at end t.lines_alike is.end_is in
    let max = (t.sends at conn here.0 is.conn_is here.1).sender.max in
    let S : ℕ → Type 0 = λ n. Stands (inward g conn) n line.line.receiver line.inbox.joiner conn.rx in
    let W : List Sdu → Type 0 = λ ws. AreWaiting (inward g conn) line ws conn.waiting in
    let before : IsReceiver (inward g conn) line conn = record { cube = refl; max = max; rx = subst S (sym clock) h.stands; last = h.last; plan = h.plan; waiting = subst W (sym h.whole) h.waiting } in
    let after = p.receives (inward g conn) line clock waits before h.whole in
    let R : Form → Type 0 = λ f. IsReceiving (constants g f.cube (flipped (ids_by f.peer f.cube.id))) now (ids_by f.peer f.cube.id) conn' line' in
    subst R (sym form) (receiving_passed (inward g conn) now (ids_of conn) conn conn' line p.rx after h)) in
    tied_set g now ends conns lines at from end (with_passed end) conn conn' line line' t (record {
      is_at = is;
      is_line = inb.is_line;
      const = record { flow = refl; role = refl; port = refl; app = refl; peer = refl; cube = refl };
      sends_here = λ l h. elim (set_at lines from at line line' l inb.is_line h) [
        | inl u ↦ absurd (elsewhere ends lines at from end line is.end_is inb (sym u.0))
        | inr u ↦ sending_conn g now conn conn' l p.sending (t.sends at conn l is.conn_is u.1)
      ];
      sends_there = λ k other hk h. sending_same g now k line line' refl refl h;
      receives_here = λ i l state h. elim (set_at lines from i line line' l inb.is_line h.is_line) [
        | inl u ↦ subst (λ (x : Direction). IsReceiving (inward g conn') now (ids_of conn') conn' x) (sym u.1) (main state)
        | inr u ↦ absurd (u.0 (one_sender now ends lines (slice_set lines from line') i from end line l journal inb h))
      ];
      receives_there = λ i e k other is' inb' h. absurd (other (one_receiver now ends lines at i from end e line line journal is.end_is is'.end_is inb inb'));
      unused = λ unused. absurd (used end is.end_is (unused_const ends end (with_passed end) (record { flow = refl; role = refl; port = refl; app = refl; peer = refl; cube = refl }) (λ waits. waits) unused));
      waits = λ waits. waits;
      early = refl;
    })

pub passes_from : (now at : ℕ) (ends ends' : List End) (conns conns' : List Conn) → at < length ends → at < length conns → ((e : End) → slice_get ends at ≡ Some e → e.taken < length e.got) → Becomes (IsPass now) at conns conns' → ((e : End) → slice_get ends at ≡ Some e → ends' ≡ slice_set ends at (with_passed e)) → PassesOne now at (flows_of ends conns) (flows_of ends' conns')
passes_from now at ends ends' conns conns' lt lt' waits become passed = λ g lines processes below held journal own t.
    let cloud : ℕ → Pdu → Type 0 = Cloud Everywhere g processes below in
    let e = there ends at lt in
    let end : End = e.0 in
    let k = there conns at lt' in
    let conn : Conn = k.0 in
    let is : IsAt ends conns at end conn = record { end_is = e.1; conn_is = k.1 } in
    let b = become conn k.1 in
    let x = there end.got end.taken (waits end e.1) in
    let partner = journal.met at end.taken end x.0 e.1 x.1 in
    let from : ℕ = partner.place in
    let l = beside ends lines from partner.other t.lines_alike partner.stands in
    let line : Direction = l.0 in
    let inb : IsInboundAt ends lines end from line = record { partner = partner.other; is_partner = partner.stands; partners = partner_back end partner.other partner.partner; is_line = l.1 } in
    let lines' : List Direction = slice_set lines from (happens (inward g conn) line Pass) in
    let here = beside ends lines at end t.lines_alike e.1 in
    let cube = (t.sends at conn here.0 k.1 here.1).cube in
    let is_conn : IsConn ends (conns_of conns) at end (ids_of conn) = record { end = e.1; ids_are = ids_at conns at conn k.1 } in
    let flow = journals g now cloud held ends (conns_of conns) lines own from at partner.other end line partner.stands e.1 l.1 inb.partners in
    let some : line.passed < length line.inbox.got = (let lt = waits end e.1 in let a = flow.passed in let b = ap (λ (es : List Entry). length es) flow.got in omega arith) in
    let used : IsUsed ends at = λ o there' unused.
    let same : o ≡ end = (let a = e.1 in cc) in
    let got : end.got ≡ [] = ap (λ (z : End). z.got) (sym same) ∙ (t.unused at o conn (record { end_is = there'; conn_is = k.1 }) unused).got in
    absurd (let lt = waits end e.1 in let none = ap (λ (es : List Entry). length es) got in omega arith) in
    let tied = tied_passed g now at from ends conns lines end conn b.0 line journal t is inb some b.1 used in
    let tied' = subst (λ (xs : List End). IsTied g now xs (slice_set conns at b.0) lines') (sym (passed end e.1)) tied in
    record {
      lines' = lines';
      passed = record {
        end = end;
        its_ids = ids_of conn;
        cube = conn.sending.form.cube;
        place = record { is_conn = is_conn; is_cube = cube };
        waits = waits end e.1;
        from = from;
        line = line;
        inbound = inb;
        lines_are = refl;
        ends_are = passed end e.1;
      };
      tied = subst (λ (xs : List Conn). IsTied g now ends' xs lines') (sym b.2) tied';
      ids = ap conns_of b.2 ∙ same_ids conns at conn b.0 k.1 (ap (λ (s : Sending). ids_by s.form.peer s.form.cube.id) b.1.sending);
    }
