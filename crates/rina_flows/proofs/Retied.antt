-- Flows stay tied to their directions where one connection changes in what it receives.
use Rattle.std.proofs.Common.{◌≡◌, ◌≢◌, ℕ, List, slice_get, slice_set, Some, length-set, refl, sym, ◌∙◌, ap, subst, inl, inr}
use Rattle.rina_conn.specs.declared.conn.Conn.{Conn}
use Rattle.rina_conn.specs.declared.sending.Sending.{Sending}
use Rattle.rina_conn.specs.Sending.{IsSender}
use Rattle.rina_data.specs.Configs.{Config, cube_by}
use Rattle.rina_dif_law.specs.Dif.{constants}
use Rattle.rina_dif_law.specs.Standing.{IsJournal}
use Rattle.rina_dif_law.proofs.Journals.{IsConst, const_refl, partner_const, partner_was, was_end}
use Rattle.rina_dif_law.proofs.Own.{one_partner, partner_back}
use Rattle.rina_iface.specs.declared.ends.End.{End}
use Rattle.rina_iface.specs.declared.state.PortState.TheVariants.{Allocated, Pending}
use Rattle.rina_iface.specs.Journal.{At, IsPartner}
use Rattle.rina_iface.proofs.Changed.{set_at, slice_get-set_other, slice_get-set_same}
use Rattle.rina_law.specs.Direction.{Direction}
use Rattle.rina_law.specs.Sender.{Sender}
use Rattle.rina_flows.specs.Tied.{IsAt, IsInboundAt, IsNewAt, IsReceiving, IsSending, IsTied, IsUnused, ids_by, ids_of, inward}
use Rattle.rina_flows.proofs.Unused.{unused_was}

-- what it sends stays
sends_same : (g : Config) (now : ℕ) (conn conn' : Conn) (line line' : Direction) → conn'.sending ≡ conn.sending → line'.line.sender ≡ line.line.sender → line'.line.clock ≡ line.line.clock → IsSending g now conn line → IsSending g now conn' line'
sends_same g now conn conn' line line' sending sender clock h =
    let C : Sending → Type 0 = λ s. cube_by s.form.cube.id g.cubes ≡ Some s.form.cube in
    let S : Sender → Sending → Type 0 = λ m s. IsSender (constants g s.form.cube (ids_by s.form.peer s.form.cube.id)) m s in
    record {
      cube = subst C (sym sending) h.cube;
      clock = clock ∙ h.clock;
      sender = subst (λ (m : Sender). S m conn'.sending) (sym sender) (subst (S line.line.sender) (sym sending) h.sender);
    }

-- an end, its connection, and the direction in which it receives, change. The end does not wait
pub record Receives (ends : List End) (conns : List Conn) (lines : List Direction) (at from : ℕ) (end end' : End) (conn conn' : Conn) (line line' : Direction) : Type 0 where
  pub is_at : IsAt ends conns at end conn
  pub inbound : IsInboundAt ends lines end from line
  pub const : IsConst end end'
  pub awake : end'.state ≢ Pending
  pub sending : conn'.sending ≡ conn.sending
  pub sender : line'.line.sender ≡ line.line.sender
  pub clock : line'.line.clock ≡ line.line.clock

module _ (g : Config) (now : ℕ) (ends : List End) (conns : List Conn) (lines : List Direction) (at from : ℕ) (end end' : End) (conn conn' : Conn) (line line' : Direction) (journal : IsJournal now ends) (tied : IsTied g now ends conns lines) (r : Receives ends conns lines at from end end' conn conn' line line') where
  sends_of_conn : (k : ℕ) (y : Conn) → slice_get (slice_set conns at conn') k ≡ Some y → (o : Conn) × (slice_get conns k ≡ Some o) × (y.sending ≡ o.sending)
  sends_of_conn k y h = elim (set_at conns at k conn conn' y r.is_at.conn_is h) [
    | inl t ↦ (conn, ap (slice_get conns) t.0 ∙ r.is_at.conn_is, ap (λ (z : Conn). z.sending) t.1 ∙ r.sending)
    | inr f ↦ (y, f.1, refl)
  ]

  sends_after : (k : ℕ) (y : Conn) (z : Direction) → slice_get (slice_set conns at conn') k ≡ Some y → slice_get (slice_set lines from line') k ≡ Some z → IsSending g now y z
  sends_after k y z h i =
      let o = sends_of_conn k y h in
      elim (set_at lines from k line line' z r.inbound.is_line i) [
        | inl t ↦
            (let was : slice_get lines k ≡ Some line = ap (slice_get lines) t.0 ∙ r.inbound.is_line in
            sends_same g now o.0 y line z o.2 (ap (λ (x : Direction). x.line.sender) t.1 ∙ r.sender) (ap (λ (x : Direction). x.line.clock) t.1 ∙ r.clock) (tied.sends k o.0 line o.1 was))
        | inr f ↦ sends_same g now o.0 y z z o.2 refl refl (tied.sends k o.0 z o.1 f.1)
      ]

  -- another end receives from another one
  other_from : (k from' : ℕ) (e partner : End) → k ≢ at → At ends k e → At ends from' partner → IsPartner partner e → from' ≢ from
  other_from k from' e partner ne e_is partner_is p same =
      let there : At ends from partner = subst (λ (n : ℕ). At ends n partner) same partner_is in
      let same_end : Some partner ≡ Some r.inbound.partner = sym there ∙ r.inbound.is_partner in
      let is : partner ≡ r.inbound.partner = cc in
      let back : IsPartner e r.inbound.partner = partner_back r.inbound.partner e (subst (λ (x : End). IsPartner x e) is p) in
      ne (one_partner now ends k at e end r.inbound.partner journal e_is r.is_at.end_is back (partner_back r.inbound.partner end r.inbound.partners))

  receives_after : (end'.state ≡ Allocated → IsReceiving (inward g conn') now (ids_of conn') conn' line') → (k from' : ℕ) (e : End) (y : Conn) (z : Direction) → IsAt (slice_set ends at end') (slice_set conns at conn') k e y → e.state ≡ Allocated → IsInboundAt (slice_set ends at end') (slice_set lines from line') e from' z → IsReceiving (inward g y) now (ids_of y) y z
  receives_after new k from' e y z here allocated inbound =
      let o = was_end ends at end end' r.is_at.end_is r.const from' inbound.partner inbound.is_partner in
      elim (set_at ends at k end end' e r.is_at.end_is here.end_is) [
        | inl t ↦
            (let conn_is : Some y ≡ Some conn' = sym here.conn_is ∙ ap (slice_get (slice_set conns at conn')) t.0 ∙ slice_get-set_same conns at conn conn' r.is_at.conn_is in
            let y_is : y ≡ conn' = cc in
            let p : IsPartner inbound.partner end' = subst (λ (x : End). IsPartner inbound.partner x) t.1 inbound.partners in
            let was : IsPartner o.0 end = partner_was o.0 end inbound.partner end' o.2 r.const p in
            let from_is = one_partner now ends from' from o.0 r.inbound.partner end journal o.1 r.inbound.is_partner was r.inbound.partners in
            let line_is : Some z ≡ Some line' = sym inbound.is_line ∙ ap (slice_get (slice_set lines from line')) from_is ∙ slice_get-set_same lines from line line' r.inbound.is_line in
            let z_is : z ≡ line' = cc in
            let is = new (ap (λ (x : End). x.state) (sym t.1) ∙ allocated) in
            subst (λ (x : Conn). IsReceiving (inward g x) now (ids_of x) x z) (sym y_is) (subst (IsReceiving (inward g conn') now (ids_of conn') conn') (sym z_is) is))
        | inr f ↦
            (let was : IsPartner o.0 e = partner_was o.0 e inbound.partner e o.2 (const_refl e) inbound.partners in
            let apart = other_from k from' e o.0 f.0 f.1 o.1 was in
            let conn_is : slice_get conns k ≡ Some y = sym (slice_get-set_other conns at k conn' f.0) ∙ here.conn_is in
            let line_is : slice_get lines from' ≡ Some z = sym (slice_get-set_other lines from from' line' apart) ∙ inbound.is_line in
            tied.receives k from' e y z (record { end_is = f.1; conn_is = conn_is }) allocated (record { partner = o.0; is_partner = o.1; partners = was; is_line = line_is }))
      ]

  unused_after : (k : ℕ) (e : End) (y : Conn) → IsAt (slice_set ends at end') (slice_set conns at conn') k e y → IsUnused (slice_set ends at end') e → IsNewAt g e y
  unused_after k e y here unused = elim (set_at ends at k end end' e r.is_at.end_is here.end_is) [
    | inl t ↦
        let was = unused_was ends at end end' r.is_at.end_is r.const e unused in
        absurd (elim was [
          | inl waits ↦ r.awake (ap (λ (x : End). x.state) (sym t.1) ∙ waits)
          | inr alone ↦ alone (record { place = from; other = r.inbound.partner; stands = r.inbound.is_partner; partner = subst (λ (x : End). IsPartner x r.inbound.partner) (sym t.1) (partner_const end r.inbound.partner end' r.inbound.partner r.const (const_refl r.inbound.partner) (partner_back r.inbound.partner end r.inbound.partners)) })
        ])
    | inr f ↦
        let conn_is : slice_get conns k ≡ Some y = sym (slice_get-set_other conns at k conn' f.0) ∙ here.conn_is in
        tied.unused k e y (record { end_is = f.1; conn_is = conn_is }) (unused_was ends at end end' r.is_at.end_is r.const e unused)
  ]

  early_after : (k from' : ℕ) (e : End) (z : Direction) → At (slice_set ends at end') k e → e.state ≡ Pending → IsInboundAt (slice_set ends at end') (slice_set lines from line') e from' z → z.state_from ≡ 0
  early_after k from' e z here waits inbound = elim (set_at ends at k end end' e r.is_at.end_is here) [
    | inl t ↦ absurd (r.awake (ap (λ (x : End). x.state) (sym t.1) ∙ waits))
    | inr f ↦
        let o = was_end ends at end end' r.is_at.end_is r.const from' inbound.partner inbound.is_partner in
        let was : IsPartner o.0 e = partner_was o.0 e inbound.partner e o.2 (const_refl e) inbound.partners in
        let apart = other_from k from' e o.0 f.0 f.1 o.1 was in
        let line_is : slice_get lines from' ≡ Some z = sym (slice_get-set_other lines from from' line' apart) ∙ inbound.is_line in
        tied.early k from' e z f.1 waits (record { partner = o.0; is_partner = o.1; partners = was; is_line = line_is })
  ]

  pub tied_after : (end'.state ≡ Allocated → IsReceiving (inward g conn') now (ids_of conn') conn' line') → IsTied g now (slice_set ends at end') (slice_set conns at conn') (slice_set lines from line')
  tied_after new = record {
    alike = length-set conns at conn' ∙ tied.alike ∙ sym (length-set ends at end');
    lines_alike = length-set lines from line' ∙ tied.lines_alike ∙ sym (length-set ends at end');
    sends = sends_after;
    receives = receives_after new;
    unused = unused_after;
    early = early_after;
  }
