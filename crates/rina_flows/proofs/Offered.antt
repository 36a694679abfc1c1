-- An SDU that is offered.
use Rattle.std.proofs.Common.{◌≡◌, ◌≢◌, ℕ, ◌<◌, Bool, true, false, List, [], ◌∷◌, ◌++◌, length, map, slice_get, slice_set, slice_index_or, Result, Ok, Err, Some, refl, sym, ◌∙◌, ap, subst, inl, inr}
use Rattle.std.proofs.lemmas.Option.{get_or_from_slice_get}
use Rattle.rina_base.specs.declared.number.Num.{Num}
use Rattle.rina_conn.specs.declared.conn.Conn.{Conn}
use Rattle.rina_conn.specs.declared.form.Form.{Form}
use Rattle.rina_conn.specs.declared.made.Made.{Made}
use Rattle.rina_conn.specs.declared.made.OfferError.{OfferError}
use Rattle.rina_conn.specs.declared.made.OfferError.TheVariants.{Memory}
use Rattle.rina_conn.specs.Sending as send
use Rattle.rina_conn.specs.Sending.{IsMade, IsSender}
use Rattle.rina_data.specs.Configs.{Config, cube_by}
use Rattle.rina_dif_law.specs.Dif.{constants}
use Rattle.rina_dif_law.specs.Ids.{pdu_of_piece}
use Rattle.rina_dif_law.specs.Sending.{offered, offered_entry}
use Rattle.rina_dif_law.proofs.Finding.{beside}
use Rattle.rina_data.proofs.Finding.{there}
use Rattle.rina_dif_law.proofs.Own.{not_itself}
use Rattle.rina_iface.specs.declared.ends.End.{End}
use Rattle.rina_iface.specs.Ends.{with_sent}
use Rattle.rina_iface.specs.Journal.{At, IsPartner}
use Rattle.rina_iface.proofs.Changed.{set_at, slice_get-set_same, slice_set-same}
use Rattle.rina_law.specs.declared.entry.Entry.{Entry}
use Rattle.rina_law.specs.Constants.{Constants}
use Rattle.rina_law.specs.Direction.{Direction}
use Rattle.rina_law.specs.Line.{Line, begun, offer, put, put_all}
use Rattle.rina_law.specs.Pieces.{Part, join}
use Rattle.rina_law.specs.Sender.{Sender, is_absent, pieces_for, refusal, sender_with_all, started}
use Rattle.rina_law.proofs.Making.{offered_clock, offered_sender}
use Rattle.rina_dtcp.specs.Rows.{ready}
use Rattle.rina_flows.specs.declared.flows.Flows.{Flows}
use Rattle.rina_flows.specs.Calls.{Becomes, IsOffer, IsRefused, Offered, Offers}
use Rattle.rina_flows.specs.Rows.{OffersAt}
use Rattle.rina_flows.specs.Tied.{IsAt, IsInboundAt, IsSending, IsTied, IsUsed, conns_of, ids_by, ids_of, inward, outward}
use Rattle.rina_flows.proofs.Framed.{ids_at, put_back, same_ids, tied_set}
use Rattle.rina_flows.proofs.Restated.{receiving_conn, receiving_same}
use Rattle.rina_flows.proofs.Unused.{unused_const}

receiver_put_all : (c : Constants) (parts : List Part) (line : Line) → (put_all c parts line).receiver ≡ line.receiver
receiver_put_all c [] line = refl
receiver_put_all c (part ∷ parts) line = receiver_put_all c parts (put c part line)

receiver_begun : (b : Bool) (c : Constants) (line : Line) → (begun b c line).receiver ≡ line.receiver
receiver_begun true c line = refl
receiver_begun false c line = refl

offered_receiver : (c : Constants) (parts : List Part) (line : Line) → (offer c parts line).receiver ≡ line.receiver
offered_receiver c parts line = receiver_put_all c parts (begun (is_absent c line.clock line.sender) c line) ∙ receiver_begun (is_absent c line.clock line.sender) c line

-- an end receives from another place than its own
pub elsewhere : (ends : List End) (lines : List Direction) (at i : ℕ) (end : End) (l : Direction) → At ends at end → IsInboundAt ends lines end i l → i ≢ at
elsewhere ends lines at i end l is h e =
    let partner : At ends at h.partner = subst (λ (n : ℕ). At ends n h.partner) e h.is_partner in
    let same : h.partner ≡ end = cc in
    not_itself end (subst (λ (x : End). IsPartner x end) same h.partners)

-- the tie after an SDU was accepted
module _ (g : Config) (now at : ℕ) (ends : List End) (conns : List Conn) (lines : List Direction) (end : End) (conn conn' : Conn) (line : Direction) (parts : List Part) (made : Made) (t : IsTied g now ends conns lines) (is : IsAt ends conns at end conn) (is_line : slice_get lines at ≡ Some line) (m : IsMade (outward g conn) now parts line.line.sender conn.sending made conn'.sending) (rx : conn'.rx ≡ conn.rx) (plan : conn'.plan ≡ conn.plan) (waiting : conn'.waiting ≡ conn.waiting) (used : IsUsed ends at) where
  sending : IsSending g now conn line
  sending = t.sends at conn line is.conn_is is_line

  -- the direction's clock is that of the call
  ready_is : ready (outward g conn) now line.line.sender ≡ started (is_absent (outward g conn) line.line.clock line.line.sender) (outward g conn) line.line.sender
  ready_is = ap (λ n. ready (outward g conn) n line.line.sender) (sym sending.clock)

  sends' : IsSending g now conn' (offered (outward g conn) parts line)
  sends' =
      let after : (offer (outward g conn) parts line.line).sender ≡ sender_with_all (outward g conn) now parts (ready (outward g conn) now line.line.sender) = offered_sender (outward g conn) parts line.line ∙ ap (λ n. sender_with_all (outward g conn) n parts (ready (outward g conn) n line.line.sender)) sending.clock in
      let sender = subst (λ s. IsSender (outward g conn) s conn'.sending) (sym after) m.stands in
      record {
        cube = subst (λ (f : Form). cube_by f.cube.id g.cubes ≡ Some f.cube) (sym m.form) sending.cube;
        clock = offered_clock (outward g conn) parts line.line ∙ sending.clock;
        sender = subst (λ (f : Form). IsSender (constants g f.cube (ids_by f.peer f.cube.id)) (offer (outward g conn) parts line.line).sender conn'.sending) (sym m.form) sender;
      }

  pub tied_offered : IsTied g now (slice_set ends at (with_sent end (offered_entry (outward g conn) parts line))) (slice_set conns at conn') (slice_set lines at (offered (outward g conn) parts line))
  tied_offered = tied_set g now ends conns lines at at end (with_sent end (offered_entry (outward g conn) parts line)) conn conn' line (offered (outward g conn) parts line) t (record {
    is_at = is;
    is_line = is_line;
    const = record { flow = refl; role = refl; port = refl; app = refl; peer = refl; cube = refl };
    sends_here = λ l h. (let there' = slice_get-set_same lines at line (offered (outward g conn) parts line) is_line in let same : l ≡ offered (outward g conn) parts line = cc in subst (λ (x : Direction). IsSending g now conn' x) (sym same) sends');
    sends_there = λ k other. absurd (other refl);
    receives_here = λ i l state h.
        let i_is : i ≢ at = elsewhere ends (slice_set lines at (offered (outward g conn) parts line)) at i end l is.end_is h in
        elim (set_at lines at i line (offered (outward g conn) parts line) l is_line h.is_line) [
          | inl u ↦ absurd (i_is u.0)
          | inr u ↦ receiving_conn g now conn conn' l m.form rx plan waiting (t.receives at i end conn l is state (record { partner = h.partner; is_partner = h.is_partner; partners = h.partners; is_line = u.1 }))
        ];
    receives_there = λ i e k other is' inb h. receiving_same (inward g k) now (ids_of k) k line (offered (outward g conn) parts line) (offered_receiver (outward g conn) parts line.line) refl refl refl refl h;
    unused = λ unused. absurd (used end is.end_is (unused_const ends end (with_sent end (offered_entry (outward g conn) parts line)) (record { flow = refl; role = refl; port = refl; app = refl; peer = refl; cube = refl }) (λ waits. waits) unused));
    waits = λ waits. waits;
    early = refl;
  })

  pub offers_at : (ends' : List End) → ends' ≡ slice_set ends at (with_sent end (offered_entry (outward g conn) parts line)) → OffersAt g ends (conns_of conns) lines at parts made.num made.pdus ends' (slice_set lines at (offered (outward g conn) parts line))
  offers_at ends' are =
      record {
        end = end;
        its_ids = ids_of conn;
        cube = conn.sending.form.cube;
        place = record { is_conn = record { end = is.end_is; ids_are = ids_at conns at conn is.conn_is }; is_cube = sending.cube };
        line = line;
        is_line = is_line;
        offered = (ap (λ s. refusal (outward g conn) s parts) (sym ready_is) ∙ m.accepted, m.num ∙ ap (λ (s : Sender). record { cep = (outward g conn).cep; seq = length s.run }) ready_is, m.pdus ∙ ap (λ n. map (pdu_of_piece (ids_of conn)) (pieces_for (outward g conn) n parts (ready (outward g conn) n line.line.sender))) (sym sending.clock), are, refl);
      }

-- the entry that is noted is that of the direction
entry_is : (c : Constants) (now : ℕ) (sdu : List ℕ) (line : Direction) (parts : List Part) (num : Num) → line.line.clock ≡ now → num ≡ record { cep = c.cep; seq = length (ready c now line.line.sender).run } → join parts ≡ sdu → record { tick = now; num = num; bytes = sdu } ≡ offered_entry c parts line
entry_is c now sdu line parts num clock is joins =
    ap (λ (n : Num). record { tick = now; num = n; bytes = sdu }) is ∙ ap (λ (bytes : List ℕ). record { tick = now; num = record { cep = c.cep; seq = length (ready c now line.line.sender).run }; bytes = bytes }) (sym joins) ∙ ap (λ (n : ℕ). record { tick = n; num = record { cep = c.cep; seq = length (ready c n line.line.sender).run }; bytes = join parts }) (sym clock)

pub conn_same : (k k' : Conn) → k'.sending ≡ k.sending → k'.rx ≡ k.rx → k'.plan ≡ k.plan → k'.waiting ≡ k.waiting → k' ≡ k
conn_same k k' a b c d =
    ap (λ s. record k' { sending = s }) a ∙ ap (λ r. record k' { sending = k.sending; rx = r }) b ∙ ap (λ p. record k' { sending = k.sending; rx = k.rx; plan = p }) c ∙ ap (λ w. record k { waiting = w }) d

abbrev pub flows_of : List End → List Conn → Flows
flows_of ends conns = record { journal = record { ends = ends }; conns = conns }

pub flows_same : (ends ends' : List End) (conns conns' : List Conn) → ends' ≡ ends → conns' ≡ conns → flows_of ends' conns' ≡ flows_of ends conns
flows_same ends ends' conns conns' a b = ap (λ (xs : List End). flows_of xs conns') a ∙ ap (λ (ks : List Conn). flows_of ends ks) b

pub become_one : (R : Conn → Conn → Type 0) (items : List Conn) (at : ℕ) (here new : Conn) → here ≡ slice_index_or items at here → R here new → Becomes R at items (slice_set items at new)
become_one R items at here new value r k e = (new, subst (λ (x : Conn). R x new) (value ∙ get_or_from_slice_get items at k here e) r, refl)

pub memory_wanted : (now at : ℕ) (sdu : List ℕ) (old : List Conn) (sent sent' : List Entry) → sent' ≡ sent → Offered now at sdu old sent (Err Memory) old sent'
memory_wanted now at sdu old sent sent' same = (inl (refl, refl), same)

pub offer_refused : (now at : ℕ) (sdu : List ℕ) (why : OfferError) (old new : List Conn) (sent sent' : List Entry) → Becomes (IsOffer now sdu (Err why)) at old new → sent' ≡ sent → Offered now at sdu old sent (Err why) new sent'
offer_refused now at sdu why old new sent sent' b same = (inr b, same)

-- the end with what was taken out put back
whole : (at : ℕ) (ends mid ends' : List End) (end : End) (sent' : List Entry) → At ends at end → ((e : End) → slice_get ends at ≡ Some e → mid ≡ slice_set ends at (record e { sent = [] })) → ((e : End) → slice_get mid at ≡ Some e → ends' ≡ slice_set mid at (record e { sent = sent' })) → ends' ≡ slice_set ends at (record end { sent = sent' })
whole at ends mid ends' end sent' is out back = put_back ends mid ends' at end (record end { sent = [] }) (record end { sent = sent' }) is (out end is) (λ e h same. back e h ∙ ap (λ (x : End). slice_set mid at (record x { sent = sent' })) same)

pub offers_from : (now at : ℕ) (sdu : List ℕ) (ends mid ends' : List End) (conns conns' : List Conn) (sent sent' : List Entry) (result : Result Made OfferError) → at < length ends → at < length conns → ((e : End) → slice_get ends at ≡ Some e → sent ≡ e.sent) → ((e : End) → slice_get ends at ≡ Some e → mid ≡ slice_set ends at (record e { sent = [] })) → Offered now at sdu conns sent result conns' sent' → ((e : End) → slice_get mid at ≡ Some e → ends' ≡ slice_set mid at (record e { sent = sent' })) → Offers now at sdu (flows_of ends conns) result (flows_of ends' conns')
offers_from now at sdu ends mid ends' conns conns' sent sent' (Ok made) lt lt' sent_is out o back = λ g lines t used.
    let e = there ends at lt in
    let end : End = e.0 in
    let k = there conns at lt' in
    let conn : Conn = k.0 in
    let l = beside ends lines at end t.lines_alike e.1 in
    let line : Direction = l.0 in
    let is : IsAt ends conns at end conn = record { end_is = e.1; conn_is = k.1 } in
    let sends = t.sends at conn line k.1 l.1 in
    let b = o.0 conn k.1 in
    let made' = b.1.offers (outward g conn) line.line.sender sends.sender in
    let parts : List Part = made'.0 in
    let entry = entry_is (outward g conn) now sdu line parts made.num sends.clock made'.2.num made'.1.1 in
    let are : ends' ≡ slice_set ends at (with_sent end (offered_entry (outward g conn) parts line)) =
    whole at ends mid ends' end sent' e.1 out back ∙ ap (λ (xs : List Entry). slice_set ends at (record end { sent = xs })) (o.1 ∙ ap (λ (xs : List Entry). xs ++ record { tick = now; num = made.num; bytes = sdu } ∷ []) (sent_is end e.1) ∙ ap (λ (x : Entry). end.sent ++ x ∷ []) entry) in
    let tied = tied_offered g now at ends conns lines end conn b.0 line parts made t is l.1 made'.2 b.1.rx b.1.plan b.1.waiting used in
    let tied' = subst (λ (xs : List End). IsTied g now xs (slice_set conns at b.0) (slice_set lines at (offered (outward g conn) parts line))) (sym are) tied in
    record {
      parts = parts;
      cut = (made'.1.0, made'.1.1);
      lines' = slice_set lines at (offered (outward g conn) parts line);
      offers = offers_at g now at ends conns lines end conn b.0 line parts made t is l.1 made'.2 b.1.rx b.1.plan b.1.waiting used ends' are;
      tied = subst (λ (xs : List Conn). IsTied g now ends' xs (slice_set lines at (offered (outward g conn) parts line))) (sym b.2) tied';
      ids = ap conns_of b.2 ∙ same_ids conns at conn b.0 k.1 (ap (λ (f : Form). ids_by f.peer f.cube.id) made'.2.form);
    }
offers_from now at sdu ends mid ends' conns conns' sent sent' (Err why) lt lt' sent_is out o back = λ g lines t.
    let e = there ends at lt in
    let end : End = e.0 in
    let k = there conns at lt' in
    let conn : Conn = k.0 in
    let l = beside ends lines at end t.lines_alike e.1 in
    let line : Direction = l.0 in
    let sends = t.sends at conn line k.1 l.1 in
    let ends_are : ends' ≡ ends = whole at ends mid ends' end sent' e.1 out back ∙ ap (λ (xs : List Entry). slice_set ends at (record end { sent = xs })) (o.1 ∙ sent_is end e.1) ∙ slice_set-same ends at end e.1 in
    let flows_are : conns' ≡ conns → flows_of ends' conns' ≡ flows_of ends conns = λ same. flows_same ends ends' conns conns' ends_are same in
    elim o.0 [
      | inl m ↦ (λ other. absurd (other m.0), flows_are m.1)
      | inr become ↦
          let b = become conn k.1 in
          let refused = b.1.offers (outward g conn) line.line.sender sends.sender in
          let same : b.0 ≡ conn = conn_same conn b.0 refused.2.1 b.1.rx b.1.plan b.1.waiting in
          let ready_is = ap (λ (n : ℕ). refusal (outward g conn) (ready (outward g conn) n line.line.sender) refused.0) (sym sends.clock) in (
            λ other conn' line' hk hl.
                let k_is : conn ≡ conn' = cc in
                let l_is : line ≡ line' = cc in
                let found : IsRefused g sdu conn line why = record { parts = refused.0; cut = (refused.1.0, refused.1.1); refuses = subst (send.Refuses why) ready_is refused.2.0 } in
                subst (λ (x : Conn). IsRefused g sdu x line' why) k_is (subst (λ (y : Direction). IsRefused g sdu conn y why) l_is found),
            flows_are (b.2 ∙ ap (λ (x : Conn). slice_set conns at x) same ∙ slice_set-same conns at conn k.1),
          )
    ]
