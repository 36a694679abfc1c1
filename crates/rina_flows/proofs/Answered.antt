-- The end of an asker is answered: the flows stay tied.
use Rattle.std.proofs.Common.{◌≡◌, ℕ, ◌*◌, List, [], ◌∷◌, map, length, slice_get, slice_set, Some, None, refl, sym, ◌∙◌, ap, subst, arith, inl, inr}
use Rattle.std.proofs.lemmas.List.{map-set}
use Rattle.std.proofs.Math.ListN.{drop}
use Rattle.std.proofs.Math.Seq.{drop-nil}
use Rattle.rina_base.specs.declared.pdu.Pdu.{Pdu}
use Rattle.rina_conn.specs.declared.conn.Conn.{Conn}
use Rattle.rina_conn.specs.declared.form.Peer.{Peer}
use Rattle.rina_conn.specs.Carrying.{carry}
use Rattle.rina_conn.specs.Conns.{IsNewConn}
use Rattle.rina_conn.specs.Sending.{IsSender}
use Rattle.rina_cube.specs.declared.Cube.{Cube}
use Rattle.rina_cube.specs.Cubes.{delta_of}
use Rattle.rina_cube.specs.declared.Kind.{Kind}
use Rattle.rina_cube.specs.declared.Kind.TheVariants.{Datagram, Loose, Reliable}
use Rattle.rina_data.specs.Configs.{Config, cube_by, greatest, piece_size}
use Rattle.rina_dif_law.specs.Ids.{Ids}
use Rattle.rina_dif_law.specs.Lifting.{ticked}
use Rattle.rina_dif_law.specs.Standing.{IsJournal}
use Rattle.rina_dif_law.proofs.Finding.{beside}
use Rattle.rina_dif_law.proofs.Own.{partner_back}
use Rattle.rina_dtcp.specs.Rows.{Stands, sent_from, waiting}
use Rattle.rina_dtcp.specs.Senders.{Kept}
use Rattle.rina_dtp.specs.declared.numbers.Numbers.{Numbers}
use Rattle.rina_dtp.specs.Numbers.{Counts}
use Rattle.rina_dtp.specs.Observed.{IsNew}
use Rattle.rina_dtp.specs.Receiving.{Receiving}
use Rattle.rina_iface.specs.declared.ends.End.{End}
use Rattle.rina_iface.specs.declared.state.PortState.TheVariants.{Allocated, Pending}
use Rattle.rina_iface.proofs.Changed.{slice_set-same}
use Rattle.rina_law.specs.Constants.{Constants}
use Rattle.rina_law.specs.Direction.{Direction, start}
use Rattle.rina_law.specs.Line.{opening}
use Rattle.rina_law.specs.Receiver.{Piece}
use Rattle.rina_law.specs.Sender.{Sender}
use Rattle.rina_flows.specs.Adding.{Binds, CanBind}
use Rattle.rina_flows.specs.Calls.{Becomes, IsToldPeer}
use Rattle.rina_flows.specs.Tied.{IsAt, IsNewAt, IsReceiving, IsSending, IsTied, IsUnused, conns_of, ids_by, ids_of, inward, outward}
use Rattle.rina_flows.proofs.Framed.{tied_set}
use Rattle.rina_flows.proofs.Lasting.{receiving_new}
use Rattle.rina_flows.proofs.Offered.{flows_of}
use Rattle.rina_flows.proofs.Passed.{one_sender}
use Rattle.rina_flows.proofs.Restated.{receiving_same}

-- A sender that sent nothing

none_of : {X : Type 0} (xs : List X) → length xs ≡ 0 → xs ≡ []
none_of [] h = refl
none_of (x ∷ xs) h = absurd (omega arith)

none_waits : (kind : Kind) (m : Sender) → m.run ≡ [] → waiting kind m ≡ []
none_waits Datagram m none = refl
none_waits Loose m none = refl
none_waits Reliable m none = ap (drop m.acked) none ∙ drop-nil m.acked

-- it stands so whatever its PDUs would be
stands_any : (c : Constants) (carry its : Piece → Pdu) (m : Sender) (k : Kept) → m.run ≡ [] → Stands c carry m k → Stands c its m k
stands_any c carry its m k none s =
    let waits = none_waits c.cube.kind m none in
    record {
      cube = s.cube;
      count = s.count;
      acked = s.acked;
      right = s.right;
      last_out = s.last_out;
      unacked = s.unacked ∙ ap (sent_from carry m.acked) waits ∙ ap (sent_from its m.acked) (sym waits);
    }

module _ (dcep : ℕ) (conn conn' : Conn) (told : IsToldPeer dcep conn conn') where
  sender_told : (c : Constants) (m : Sender) → m.run ≡ [] → IsSender c m conn.sending → IsSender c m conn'.sending
  sender_told c m none s = record {
    cube = told.cube ∙ s.cube;
    piece = told.piece ∙ s.piece;
    max = ap (λ (n : Numbers). n.max) told.numbers ∙ s.max;
    cep = ap (λ (p : Peer). p.scep) told.peer ∙ s.cep;
    tx = subst (λ (k : Kept). Stands c (carry conn'.sending.form.peer conn'.sending.form.cube.id) m k) (sym told.tx) (stands_any c (carry conn.sending.form.peer conn.sending.form.cube.id) (carry conn'.sending.form.peer conn'.sending.form.cube.id) m conn.sending.tx none s.tx);
    numbers = subst (λ (n : Numbers). Counts m n) (sym told.numbers) s.numbers;
  }

  outward_told : (g : Config) → outward g conn' ≡ outward g conn
  outward_told g =
      let by : Cube → ℕ → Constants = λ x cep. record { cube = x; piece = piece_size g; max = greatest g; cep = cep } in
      ap (λ (x : Cube). by x conn'.sending.form.peer.scep) told.cube ∙ ap (by conn.sending.form.cube) (ap (λ (p : Peer). p.scep) told.peer)

  sending_told : (g : Config) (now : ℕ) (line : Direction) → line.line.sender.run ≡ [] → IsSending g now conn line → IsSending g now conn' line
  sending_told g now line none h = record {
    cube = subst (λ (x : Cube). cube_by x.id g.cubes ≡ Some x) (sym told.cube) h.cube;
    clock = h.clock;
    sender = subst (λ (c : Constants). IsSender c line.line.sender conn'.sending) (sym (outward_told g)) (sender_told (outward g conn) line.line.sender none h.sender);
  }

  -- a connection that was new is new with the far end's CEP-id
  new_told : (g : Config) → IsNewConn conn.sending.form.cube (piece_size g) (greatest g) conn.sending.form.peer conn → IsNewConn conn'.sending.form.cube (piece_size g) (greatest g) conn'.sending.form.peer conn'
  new_told g new = record {
    cube_is = refl;
    piece_is = told.piece ∙ new.piece_is;
    peer_is = refl;
    sends = record {
      form_is = refl;
      stands = λ c f. sender_told c (opening c).sender refl (new.sends.stands c (record { cube = sym told.cube ∙ f.cube; piece = sym told.piece ∙ f.piece; cep = ap (λ (p : Peer). p.scep) (sym told.peer) ∙ f.cep; max_is = f.max_is }));
    };
    receives = subst (λ (x : Cube). IsNew x (piece_size g) conn'.rx) (sym told.cube) (subst (λ (r : Receiving). IsNew conn.sending.form.cube (piece_size g) r) (sym told.rx) new.receives);
    plan_is = told.plan ∙ new.plan_is ∙ ap (λ (x : Cube). record { a = x.a; delta = delta_of x; mark = None }) (sym told.cube);
    none_waits = told.waiting ∙ new.none_waits ∙ ap (λ (x : Cube). record { room = 2 * x.window; earlier = 0; firsts = [] }) (sym told.cube);
  }

  ids_told : ids_of conn' ≡ record (ids_of conn) { dcep = dcep }
  ids_told = ap (λ (p : Peer). ids_by p conn'.sending.form.cube.id) told.peer ∙ ap (λ (x : Cube). ids_by (record conn.sending.form.peer { dcep = dcep }) x.id) told.cube

-- on a new connection nothing was sent
none_sent : (g : Config) (now : ℕ) (end : End) (conn : Conn) (line : Direction) → IsNewAt g end conn → IsSending g now conn line → line.line.sender.run ≡ []
none_sent g now end conn line new h =
    let opened = new.new.sends.stands (outward g conn) (record { cube = refl; piece = new.new.piece_is; cep = refl; max_is = refl }) in
    none_of line.line.sender.run (sym h.sender.tx.count ∙ opened.tx.count)

-- The end is allocated

abbrev allocates : End → End
allocates end = record end { state = Allocated }

module _ (g : Config) (now at dcep : ℕ) (ends : List End) (conns : List Conn) (lines : List Direction) (end : End) (conn conn' : Conn) (journal : IsJournal now ends) (tied : IsTied g now ends conns lines) (can : CanBind ends lines at end) (conn_is : slice_get conns at ≡ Some conn) (told : IsToldPeer dcep conn conn') where
  is_at : IsAt ends conns at end conn
  is_at = record { end_is = can.is_end; conn_is = conn_is }

  is_new : IsNewAt g end conn
  is_new = tied.unused at end conn is_at (inl can.waits)

  lines_same : slice_set lines can.from can.line ≡ lines
  lines_same = slice_set-same lines can.from can.line can.inbound.is_line

  takes : IsReceiving (inward g conn') now (ids_of conn') conn' can.line
  takes =
      let new = receiving_new g now conn'.sending.form.cube conn'.sending.form.peer (greatest g) conn' (new_told dcep conn conn' told g is_new.new) in
      receiving_same (inward g conn') now (ids_of conn') conn' (ticked now (start (inward g conn'))) can.line can.untaken.receiver can.untaken.inbox can.untaken.passed (tied.early at can.from end can.line can.is_end can.waits can.inbound) can.untaken.mark new

  -- it has a partner, and waits no more
  used_now : IsUnused ends (allocates end) → ⊥
  used_now unused = elim unused [
    | inl waits ↦ cc
    | inr alone ↦ alone (record { place = can.from; other = can.inbound.partner; stands = can.inbound.is_partner; partner = (let p = partner_back can.inbound.partner end can.inbound.partners in record { same_flow = p.same_flow; other_role = p.other_role }) })
  ]

  pub tied_bound : IsTied g now (slice_set ends at (allocates end)) (slice_set conns at conn') lines
  tied_bound = subst (λ (ls : List Direction). IsTied g now (slice_set ends at (allocates end)) (slice_set conns at conn') ls) lines_same (tied_set g now ends conns lines at can.from end (allocates end) conn conn' can.line can.line tied (record {
    is_at = is_at;
    is_line = can.inbound.is_line;
    const = record { flow = refl; role = refl; port = refl; app = refl; peer = refl; cube = refl };
    sends_here = λ l h.
        let h' = subst (λ (ls : List Direction). slice_get ls at ≡ Some l) lines_same h in
        let sends = tied.sends at conn l conn_is h' in
        sending_told dcep conn conn' told g now l (none_sent g now end conn l is_new sends) sends;
    sends_there = λ k other hk h. h;
    receives_here = λ i l state h.
        let i_is = one_sender now ends lines (slice_set lines can.from can.line) i can.from end can.line l journal can.inbound h in
        let h' : slice_get lines can.from ≡ Some l = subst (λ (n : ℕ). slice_get lines n ≡ Some l) i_is (subst (λ (ls : List Direction). slice_get ls i ≡ Some l) lines_same h.is_line) in
        let is_line = can.inbound.is_line in
        let l_is : can.line ≡ l = cc in
        subst (IsReceiving (inward g conn') now (ids_of conn') conn') l_is takes;
    receives_there = λ i e k other is' inb h. h;
    unused = λ unused. absurd (used_now unused);
    waits = λ waits. absurd (let clash : Allocated ≡ Pending = waits in cc);
    early = refl;
  }))

pub binds_from : (at dcep : ℕ) (ends ends' : List End) (conns conns' : List Conn) → Becomes (IsToldPeer dcep) at conns conns' → ((e : End) → slice_get ends at ≡ Some e → ends' ≡ slice_set ends at (record e { state = Allocated })) → Binds at dcep (flows_of ends conns) (flows_of ends' conns')
binds_from at dcep ends ends' conns conns' become ends_are = λ g now lines end journal tied can.
    let k = beside ends conns at end tied.alike can.is_end in
    let b = become k.0 k.1 in
    let are = ends_are end can.is_end in
    record {
      conn = k.0;
      is_conn = k.1;
      ends = are;
      ids = ap conns_of b.2 ∙ map-set ids_of conns at b.0 ∙ ap (λ (i : Ids). slice_set (conns_of conns) at i) (ids_told dcep k.0 b.0 b.1);
      tied = subst (λ (ks : List Conn). IsTied g now ends' ks lines) (sym b.2) (subst (λ (xs : List End). IsTied g now xs (slice_set conns at b.0) lines) (sym are) (tied_bound g now at dcep ends conns lines end k.0 b.0 journal tied can k.1 b.1));
    }
