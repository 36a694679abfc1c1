-- What is due at a connection, and what is noted once it was done.
use Rattle.std.proofs.Common.{◌≡◌, ℕ, ◌<◌, Bool, true, false, cond, List, length, slice_get, slice_set, Option, Some, None, IsTrue, is_some, option_copied, option_map, refl, sym, ◌∙◌, ap, subst, inl, inr}
use Rattle.std.specs.Prelude.{◌↔◌}
use Rattle.std.proofs.lemmas.Bool.{false≢true}
use Rattle.std.specs.Borrow.{Bor}
use Rattle.rina_base.specs.declared.pdu.Pdu.{Pdu}
use Rattle.rina_conn.specs.declared.conn.Conn.{Conn}
use Rattle.rina_conn.specs.declared.conn.DueAck.{DueAck}
use Rattle.rina_conn.specs.declared.form.Form.{Form}
use Rattle.rina_conn.specs.Carrying.{carry}
use Rattle.rina_conn.specs.Clock.{TellsAck, ack_due, ack_of}
use Rattle.rina_conn.specs.Sending.{IsSender, TellsAgain, TellsGivenUp}
use Rattle.rina_conn.specs.Standing.{AreWaiting, IsReceiver}
use Rattle.rina_data.specs.Configs.{Config, cube_by}
use Rattle.rina_dif_law.specs.Dif.{constants}
use Rattle.rina_dif_law.proofs.Finding.{beside}
use Rattle.rina_data.proofs.Finding.{there}
use Rattle.rina_dtcp.specs.declared.sent.GaveUp.{GaveUp}
use Rattle.rina_dtcp.specs.Plans.{without}
use Rattle.rina_dtcp.specs.Rows as dtcp
use Rattle.rina_dtcp.specs.Rows.{gave_up_of}
use Rattle.rina_dtp.specs.Stands.{Stands}
use Rattle.rina_dif_law.specs.Ids.{Ids}
use Rattle.rina_iface.specs.declared.ends.End.{End}
use Rattle.rina_iface.specs.Journal.{At}
use Rattle.rina_iface.proofs.Changed.{set_at, slice_get-set_same, slice_set-same}
use Rattle.rina_law.specs.Constants.{Constants}
use Rattle.rina_law.specs.Direction.{Direction, after_ack, after_again, is_ack_due}
use Rattle.rina_law.specs.Pieces.{Sdu}
use Rattle.rina_law.specs.Sender.{Ack, Sender, again_due, given_up, piece_again}
use Rattle.rina_flows.specs.declared.due.Item.TheVariants as item
use Rattle.rina_flows.specs.Calls.{Becomes, Tells}
use Rattle.rina_flows.specs.Delivering.{HoldsGone}
use Rattle.rina_flows.specs.Tied.{IsAt, IsInboundAt, IsReceiving, IsSending, IsTied, IsUsed, conns_of, ids_by, ids_of, inward, outward}
use Rattle.rina_flows.specs.Timely.{AcknowledgesIn, DueIn, IsAcknowledged, IsNumberDue, IsSentAgain, SendsAgainIn}
use Rattle.rina_flows.proofs.Framed.{same_ids, tied_set}
use Rattle.rina_flows.proofs.Landed.{same_at}
use Rattle.rina_flows.proofs.Offered.{elsewhere, flows_of}
use Rattle.rina_flows.proofs.Passed.{one_sender}
use Rattle.rina_flows.proofs.Restated.{receiving_conn, receiving_same}
use Rattle.rina_flows.proofs.Retied.{tied_after}
use Rattle.rina_flows.proofs.Stopped.{clock_of, reached}

-- An acknowledgement that was made

receiving_acknowledged : (c : Constants) (now : ℕ) (ids : Ids) (k : Conn) (line : Direction) → IsReceiving c now ids k line → IsReceiving c now ids (record k { plan = without k.plan }) (after_ack true c line)
receiving_acknowledged c now ids k line h = record {
  stands = h.stands;
  plan = ap without h.plan;
  last = h.last;
  whole = h.whole;
  broken = h.broken;
  forward = h.forward;
  waiting = record { room = h.waiting.room; earlier = h.waiting.earlier; firsts = h.waiting.firsts; within = h.waiting.within; few = h.waiting.few };
  early = h.early;
  kept = λ n i. (let q = h.kept n i in record { made = q.made; source = q.source; number = q.number });
  once = h.once;
  all = h.all;
  rising = h.rising;
}

pub acknowledges_from : (at : ℕ) (ends : List End) (conns conns' : List Conn) → Becomes IsAcknowledged at conns conns' → AcknowledgesIn at (flows_of ends conns) (flows_of ends conns')
acknowledges_from at ends conns conns' become = λ g now lines end journal t is state.
    let k = beside ends conns at end t.alike is in
    let conn : Conn = k.0 in
    let b = become conn k.1 in
    let new : Conn = record conn { plan = without conn.plan } in
    let r = reached g now at ends conns lines end journal t is state in
    let is_at : IsAt ends conns at end conn = record { end_is = is; conn_is = k.1 } in
    let h = t.receives at r.from end conn r.line is_at state r.inbound in
    let line' : Direction = after_ack true (inward g conn) r.line in
    let lines' : List Direction = slice_set lines r.from line' in
    let tied = tied_after g now ends conns lines at r.from end end conn new r.line line' journal t (record { is_at = is_at; inbound = r.inbound; const = record { flow = refl; role = refl; port = refl; app = refl; peer = refl; cube = refl }; awake = λ waits. absurd (let clash = state in cc); sending = refl; sender = refl; clock = refl }) (λ still. receiving_acknowledged (inward g conn) now (ids_of conn) conn r.line h) in
    let tied' = subst (λ (xs : List End). IsTied g now xs (slice_set conns at new) lines') (slice_set-same ends at end is) tied in
    let conns_are : conns' ≡ slice_set conns at new = b.2 ∙ ap (λ (x : Conn). slice_set conns at x) b.1 in
    record {
      conn = conn;
      is_conn = k.1;
      from = r.from;
      line = r.line;
      inbound = r.inbound;
      lines' = lines';
      lines_are = refl;
      same = refl;
      tied = subst (λ (ks : List Conn). IsTied g now ends ks lines') (sym conns_are) tied';
      ids = ap conns_of conns_are ∙ same_ids conns at conn new k.1 refl;
    }

-- A number that was sent again

-- nothing changes but the sender, and what is in flight
record KeepsReceiver (line line' : Direction) : Type 0 where
  clock : line'.line.clock ≡ line.line.clock
  receiver : line'.line.receiver ≡ line.line.receiver
  inbox : line'.inbox ≡ line.inbox
  passed : line'.passed ≡ line.passed
  state_from : line'.state_from ≡ line.state_from
  mark : line'.mark ≡ line.mark

again_keeps : (o : Option ℕ) (c : Constants) (line : Direction) → KeepsReceiver line (after_again o c line)
again_keeps (Some n) c line = record { clock = refl; receiver = refl; inbox = refl; passed = refl; state_from = refl; mark = refl }
again_keeps None c line = record { clock = refl; receiver = refl; inbox = refl; passed = refl; state_from = refl; mark = refl }

again_sender : (o : Option ℕ) (c : Constants) (line : Direction) → (after_again o c line).line.sender ≡ dtcp.after_again o line.line.clock line.line.sender
again_sender (Some n) c line = refl
again_sender None c line = refl

tied_again : (g : Config) (now at : ℕ) (ends : List End) (conns : List Conn) (lines : List Direction) (end : End) (conn conn' : Conn) (line : Direction) → IsTied g now ends conns lines → IsAt ends conns at end conn → slice_get lines at ≡ Some line → IsSentAgain now conn conn' → IsUsed ends at → IsTied g now ends (slice_set conns at conn') (slice_set lines at (after_again (again_due (outward g conn) line.line.clock line.line.sender) (outward g conn) line))
tied_again g now at ends conns lines end conn conn' line t is is_line k used =
    let c : Constants = outward g conn in
    let due : Option ℕ = again_due c line.line.clock line.line.sender in
    let line' : Direction = after_again due c line in
    let keeps = again_keeps due c line in
    let sending = t.sends at conn line is.conn_is is_line in
    let row : IsSender c (dtcp.after_again (again_due c now line.line.sender) now line.line.sender) conn'.sending = k.sends.stands c line.line.sender sending.sender in
    let row' : IsSender c (dtcp.after_again due line.line.clock line.line.sender) conn'.sending = subst (λ n. IsSender c (dtcp.after_again (again_due c n line.line.sender) n line.line.sender) conn'.sending) (sym sending.clock) row in
    let sender : IsSender c line'.line.sender conn'.sending = subst (λ m. IsSender c m conn'.sending) (sym (again_sender due c line)) row' in
    let sends' : IsSending g now conn' line' = record {
      cube = subst (λ (f : Form). cube_by f.cube.id g.cubes ≡ Some f.cube) (sym k.sends.form) sending.cube;
      clock = keeps.clock ∙ sending.clock;
      sender = subst (λ (f : Form). IsSender (constants g f.cube (ids_by f.peer f.cube.id)) line'.line.sender conn'.sending) (sym k.sends.form) sender;
    } in
    let tied = tied_set g now ends conns lines at at end end conn conn' line line' t (record {
      is_at = is;
      is_line = is_line;
      const = record { flow = refl; role = refl; port = refl; app = refl; peer = refl; cube = refl };
      sends_here = λ l h. (let there' = slice_get-set_same lines at line line' is_line in let same : l ≡ line' = cc in subst (λ (x : Direction). IsSending g now conn' x) (sym same) sends');
      sends_there = λ x other. absurd (other refl);
      receives_here = λ i l state h. elim (set_at lines at i line line' l is_line h.is_line) [
        | inl u ↦ absurd (elsewhere ends (slice_set lines at line') at i end l is.end_is h u.0)
        | inr u ↦ receiving_conn g now conn conn' l k.sends.form (ap (λ (x : Conn). x.rx) k.same) (ap (λ (x : Conn). x.plan) k.same) (ap (λ (x : Conn). x.waiting) k.same) (t.receives at i end conn l is state (record { partner = h.partner; is_partner = h.is_partner; partners = h.partners; is_line = u.1 }))
      ];
      receives_there = λ i e x other is' inb h. receiving_same (inward g x) now (ids_of x) x line line' keeps.receiver keeps.inbox keeps.passed keeps.state_from keeps.mark h;
      unused = λ unused. absurd (used end is.end_is unused);
      waits = λ waits. waits;
      early = keeps.state_from;
    }) in
    subst (λ (xs : List End). IsTied g now xs (slice_set conns at conn') (slice_set lines at line')) (slice_set-same ends at end is.end_is) tied

pub sends_again_from : (now at : ℕ) (ends : List End) (conns conns' : List Conn) → at < length conns → Becomes (IsSentAgain now) at conns conns' → SendsAgainIn now at (flows_of ends conns) (flows_of ends conns')
sends_again_from now at ends conns conns' lt become = λ g lines t used.
    let k = there conns at lt in
    let conn : Conn = k.0 in
    let e = beside conns ends at conn (sym t.alike) k.1 in
    let end : End = e.0 in
    let l = beside ends lines at end t.lines_alike e.1 in
    let line : Direction = l.0 in
    let b = become conn k.1 in
    let lines' : List Direction = slice_set lines at (after_again (again_due (outward g conn) line.line.clock line.line.sender) (outward g conn) line) in
    let tied = tied_again g now at ends conns lines end conn b.0 line t (record { end_is = e.1; conn_is = k.1 }) l.1 b.1 used in
    record {
      conn = conn;
      is_conn = k.1;
      line = line;
      is_line = l.1;
      lines' = lines';
      lines_are = refl;
      same = refl;
      tied = subst (λ (xs : List Conn). IsTied g now ends xs lines') (sym b.2) tied;
      ids = ap conns_of b.2 ∙ same_ids conns at conn b.0 k.1 (ap (λ (f : Form). ids_by f.peer f.cube.id) b.1.sends.form);
    }

-- What is due

-- one is told exactly where one is mapped
some_of : {X Y : Type 0} (f : X → Y) (o : Option X) (r : Option Y) → r ≡ option_map f o → IsTrue (is_some r) → (x : X) × (o ≡ Some x)
some_of f (Some x) r e h = (x, refl)
some_of f None r e h = absurd (false≢true (sym (ap is_some e) ∙ h))

some_from : {X Y : Type 0} (f : X → Y) (o : Option X) (r : Option Y) (x : X) → r ≡ option_map f o → o ≡ Some x → IsTrue (is_some r)
some_from f o r x e h = ap is_some (e ∙ ap (option_map f) h)

copied_some : (r : Option (Bor Pdu)) → is_some (option_copied r) ≡ is_some r
copied_some (Some x) = refl
copied_some None = refl

-- a number is due exactly where one is told
number_due : {Y : Type 0} (due : Constants → ℕ → Sender → Option ℕ) (f : Conn → Sender → ℕ → Y) (now at : ℕ) (ends : List End) (conns : List Conn) (r : Option Y) → ((k : Conn) → slice_get conns at ≡ Some k → (c : Constants) (m : Sender) → IsSender c m k.sending → r ≡ option_map (f k m) (due c now m)) → (g : Config) (lines : List Direction) (end : End) → IsTied g now ends conns lines → At ends at end → IsTrue (is_some r) ↔ IsNumberDue due g conns lines at
number_due due f now at ends conns r tells g lines end t is =
    let k = beside ends conns at end t.alike is in
    let conn : Conn = k.0 in
    let l = beside ends lines at end t.lines_alike is in
    let line : Direction = l.0 in
    let s = t.sends at conn line k.1 l.1 in
    let e = tells conn k.1 (outward g conn) line.line.sender s.sender in
    let D : Conn → Direction → Option ℕ = λ x y. due (outward g x) y.line.clock y.line.sender in
    let same : D conn line ≡ due (outward g conn) now line.line.sender = ap (λ n. due (outward g conn) n line.line.sender) s.clock in (
      (λ h. (let o = some_of (f conn line.line.sender) (due (outward g conn) now line.line.sender) r e h in record { conn = conn; is_conn = k.1; line = line; is_line = l.1; number = o.0; is_due = same ∙ o.1 })),
      (λ d.
          let conn_is : d.conn ≡ conn = same_at (slice_get conns at) d.conn conn d.is_conn k.1 in
          let line_is : d.line ≡ line = same_at (slice_get lines at) d.line line d.is_line l.1 in
          let here : D conn line ≡ Some d.number = ap (λ x. D x line) (sym conn_is) ∙ ap (λ y. D d.conn y) (sym line_is) ∙ d.is_due in
          some_from (f conn line.line.sender) (due (outward g conn) now line.line.sender) r d.number e (sym same ∙ here)),
    )

pub give_up_due : (now at : ℕ) (ends : List End) (conns : List Conn) (r : Option GaveUp) → Tells (λ k. TellsGivenUp now k.sending r) at conns → DueIn item.GiveUp now at (flows_of ends conns) (is_some r)
give_up_due now at ends conns r tells = λ g lines end journal t is state. number_due given_up (λ k m. gave_up_of (carry k.sending.form.peer k.sending.form.cube.id) now m) now at ends conns r tells g lines end t is

pub again_is_due : (now at : ℕ) (ends : List End) (conns : List Conn) (r : Option (Bor Pdu)) → Tells (λ k. TellsAgain now k.sending (option_copied r)) at conns → DueIn item.Again now at (flows_of ends conns) (is_some r)
again_is_due now at ends conns r tells = λ g lines end journal t is state.
    subst (λ b. IsTrue b ↔ IsNumberDue again_due g conns lines at) (copied_some r) (number_due again_due (λ k m n. carry k.sending.form.peer k.sending.form.cube.id (piece_again n m)) now at ends conns (option_copied r) tells g lines end t is)

-- an acknowledgement is due exactly where one is told
ack_cases : (b : Bool) (a : Ack) (r : Option DueAck) → option_map ack_of r ≡ cond b (Some a) None → IsTrue (is_some r) ↔ (b ≡ true)
ack_cases true a (Some x) e = (λ h. refl, λ h. refl)
ack_cases true a None e = absurd cc
ack_cases false a (Some x) e = absurd cc
ack_cases false a None e = (λ h. h, λ h. h)

pub receiver_of : (g : Config) (now at from : ℕ) (ends : List End) (conns : List Conn) (lines : List Direction) (end : End) (conn : Conn) (line : Direction) → IsTied g now ends conns lines → IsAt ends conns at end conn → IsInboundAt ends lines end from line → IsReceiving (inward g conn) now (ids_of conn) conn line → IsReceiver (inward g conn) line conn
receiver_of g now at from ends conns lines end conn line t is inb h =
    let clock = clock_of g now ends conns lines end from line t inb in
    let here = beside ends lines at end t.lines_alike is.end_is in
    let S : ℕ → Type 0 = λ n. Stands (inward g conn) n line.line.receiver line.inbox.joiner conn.rx in
    let W : List Sdu → Type 0 = λ ws. AreWaiting (inward g conn) line ws conn.waiting in
    record { cube = refl; max = (t.sends at conn here.0 is.conn_is here.1).sender.max; rx = subst S (sym clock) h.stands; last = h.last; plan = h.plan; waiting = subst W (sym h.whole) h.waiting }

pub ack_is_due : (now at : ℕ) (ends : List End) (conns : List Conn) (r : Option DueAck) → Tells (λ k. TellsAck now k (option_map ack_of r)) at conns → DueIn item.Ack now at (flows_of ends conns) (is_some r)
ack_is_due now at ends conns r tells = λ g lines end journal t is state.
    let k = beside ends conns at end t.alike is in
    let conn : Conn = k.0 in
    let c : Constants = inward g conn in
    let i = reached g now at ends conns lines end journal t is state in
    let is_at : IsAt ends conns at end conn = record { end_is = is; conn_is = k.1 } in
    let h = t.receives at i.from end conn i.line is_at state i.inbound in
    let st = receiver_of g now at i.from ends conns lines end conn i.line t is_at i.inbound h in
    let clock = clock_of g now ends conns lines end i.from i.line t i.inbound in
    let told : option_map ack_of r ≡ ack_due c i.line = tells conn k.1 c i.line clock st h.whole in
    let both = ack_cases (is_ack_due c i.line) _ r told in (
      (λ x. record { end = end; conn = conn; is_at = is_at; from = i.from; line = i.line; inbound = i.inbound; is_due = both.0 x }),
      (λ d.
          let conn_is : d.conn ≡ conn = same_at (slice_get conns at) d.conn conn d.is_at.conn_is k.1 in
          let end_is : d.end ≡ end = same_at (slice_get ends at) d.end end d.is_at.end_is is in
          let inb : IsInboundAt ends lines end d.from d.line = subst (λ (x : End). IsInboundAt ends lines x d.from d.line) end_is d.inbound in
          let from_is : d.from ≡ i.from = one_sender now ends lines lines d.from i.from end i.line d.line journal i.inbound inb in
          let line_is : d.line ≡ i.line = same_at (slice_get lines i.from) d.line i.line (ap (slice_get lines) (sym from_is) ∙ d.inbound.is_line) i.inbound.is_line in
          both.1 (ap (λ (x : Conn). is_ack_due (inward g x) i.line) (sym conn_is) ∙ ap (λ (y : Direction). is_ack_due (inward g d.conn) y) (sym line_is) ∙ d.is_due)),
    )

pub gone_due : (now at : ℕ) (ends : List End) (conns : List Conn) (r : Bool) → Tells (λ k. IsTrue r ↔ HoldsGone now k) at conns → DueIn item.Gone now at (flows_of ends conns) r
gone_due now at ends conns r tells = λ g lines end journal t is state.
    let k = beside ends conns at end t.alike is in
    let conn : Conn = k.0 in (
      (λ h. record { conn = conn; is_conn = k.1; gone = (tells conn k.1).0 h }),
      (λ d. (tells d.conn d.is_conn).1 d.gone),
    )
