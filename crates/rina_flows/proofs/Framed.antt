-- A call changes an end with its connection, and one direction: the flows stay tied.
use Rattle.std.proofs.Common.{◌≡◌, ◌≢◌, ℕ, zero, suc, List, [], ◌∷◌, length-set, slice_get, slice_set, Some, refl, sym, ◌∙◌, ap, subst, inl, inr}
use Rattle.rina_conn.specs.declared.conn.Conn.{Conn}
use Rattle.rina_data.specs.Configs.{Config}
use Rattle.rina_dif_law.specs.Ids.{Ids}
use Rattle.rina_dif_law.proofs.Journals.{IsConst, const_refl, partner_was}
use Rattle.rina_iface.specs.declared.ends.End.{End}
use Rattle.rina_iface.specs.declared.state.PortState.TheVariants.{Allocated, Pending}
use Rattle.rina_iface.specs.Journal.{At}
use Rattle.rina_iface.proofs.Changed.{set_at, slice_get-set_same}
use Rattle.rina_law.specs.Direction.{Direction}
use Rattle.rina_flows.specs.Tied.{IsAt, IsInboundAt, IsNewAt, IsReceiving, IsSending, IsTied, IsUnused, conns_of, ids_of, inward}
use Rattle.rina_flows.proofs.Unused.{unused_was}

-- Lists

pub set_twice : {X : Type 0} (xs : List X) (i : ℕ) (y z : X) → slice_set (slice_set xs i y) i z ≡ slice_set xs i z
set_twice [] i y z = refl
set_twice (x ∷ xs) zero y z = refl
set_twice (x ∷ xs) (suc i) y z = ap (λ (ys : List _). x ∷ ys) (set_twice xs i y z)

-- what was taken out of an element and put back
pub put_back : {X : Type 0} (xs mid new : List X) (i : ℕ) (x y z : X) → slice_get xs i ≡ Some x → mid ≡ slice_set xs i y → ((e : X) → slice_get mid i ≡ Some e → e ≡ y → new ≡ slice_set mid i z) → new ≡ slice_set xs i z
put_back xs mid new i x y z is out back =
    let here : slice_get mid i ≡ Some y = ap (λ (ys : List _). slice_get ys i) out ∙ slice_get-set_same xs i x y is in
    back y here refl ∙ ap (λ (ys : List _). slice_set ys i z) out ∙ set_twice xs i y z

pub ids_at : (conns : List Conn) (at : ℕ) (conn : Conn) → slice_get conns at ≡ Some conn → slice_get (conns_of conns) at ≡ Some (ids_of conn)
ids_at (k ∷ ks) zero conn h = (let is : k ≡ conn = cc in ap (λ (x : Conn). Some (ids_of x)) is)
ids_at (k ∷ ks) (suc at) conn h = ids_at ks at conn h
ids_at [] at conn h = absurd cc

pub same_ids : (conns : List Conn) (at : ℕ) (conn conn' : Conn) → slice_get conns at ≡ Some conn → ids_of conn' ≡ ids_of conn → conns_of (slice_set conns at conn') ≡ conns_of conns
same_ids [] at conn conn' h e = refl
same_ids (k ∷ ks) zero conn conn' h e = (let is : k ≡ conn = cc in ap (λ (x : Ids). x ∷ conns_of ks) (e ∙ ap ids_of (sym is)))
same_ids (k ∷ ks) (suc at) conn conn' h e = ap (λ (xs : List Ids). ids_of k ∷ xs) (same_ids ks at conn conn' h e)

-- The frame

-- the direction in which an end receives was that before an end changed
pub inbound_was : (ends : List End) (lines : List Direction) (at : ℕ) (end end' e e' : End) (from : ℕ) (line : Direction) → At ends at end → IsConst end end' → IsConst e e' → IsInboundAt (slice_set ends at end') lines e' from line → IsInboundAt ends lines e from line
inbound_was ends lines at end end' e e' from line is const c h = elim (set_at ends at from end end' h.partner is h.is_partner) [
  | inl t ↦ record {
    partner = end;
    is_partner = ap (slice_get ends) t.0 ∙ is;
    partners = partner_was end e h.partner e' (subst (IsConst end) (sym t.1) const) c h.partners;
    is_line = h.is_line;
  }
  | inr f ↦ record {
    partner = h.partner;
    is_partner = f.1;
    partners = partner_was h.partner e h.partner e' (const_refl h.partner) c h.partners;
    is_line = h.is_line;
  }
]

-- what changed, at the place `at`, and of the direction at the place `from`
pub record IsChange (g : Config) (now : ℕ) (ends : List End) (conns : List Conn) (lines : List Direction) (at from : ℕ) (end end' : End) (conn conn' : Conn) (line line' : Direction) : Type 0 where
  pub is_at : IsAt ends conns at end conn
  pub is_line : slice_get lines from ≡ Some line
  pub const : IsConst end end'
  pub sends_here : (l : Direction) → slice_get (slice_set lines from line') at ≡ Some l → IsSending g now conn' l
  pub sends_there : (k : Conn) → from ≢ at → slice_get conns from ≡ Some k → IsSending g now k line → IsSending g now k line'
  pub receives_here : (i : ℕ) (l : Direction) → end'.state ≡ Allocated → IsInboundAt ends (slice_set lines from line') end i l → IsReceiving (inward g conn') now (ids_of conn') conn' l
  pub receives_there : (i : ℕ) (e : End) (k : Conn) → i ≢ at → IsAt ends conns i e k → IsInboundAt ends lines e from line → IsReceiving (inward g k) now (ids_of k) k line → IsReceiving (inward g k) now (ids_of k) k line'
  pub unused : IsUnused ends end' → IsNewAt g end' conn'
  pub waits : end'.state ≡ Pending → end.state ≡ Pending
  pub early : line'.state_from ≡ line.state_from

-- where the direction changed, it is as early as it was
early_set : (ends : List End) (lines : List Direction) (from m : ℕ) (e : End) (line line' l : Direction) → slice_get lines from ≡ Some line → line'.state_from ≡ line.state_from → ((n : ℕ) (o : Direction) → IsInboundAt ends lines e n o → o.state_from ≡ 0) → IsInboundAt ends (slice_set lines from line') e m l → l.state_from ≡ 0
early_set ends lines from m e line line' l is same early inb = elim (set_at lines from m line line' l is inb.is_line) [
  | inl u ↦ ap (λ (x : Direction). x.state_from) u.1 ∙ same ∙ early from line (record { partner = inb.partner; is_partner = subst (λ (n : ℕ). At ends n inb.partner) u.0 inb.is_partner; partners = inb.partners; is_line = is })
  | inr u ↦ early m l (record { partner = inb.partner; is_partner = inb.is_partner; partners = inb.partners; is_line = u.1 })
]

pub tied_set : (g : Config) (now : ℕ) (ends : List End) (conns : List Conn) (lines : List Direction) (at from : ℕ) (end end' : End) (conn conn' : Conn) (line line' : Direction) → IsTied g now ends conns lines → IsChange g now ends conns lines at from end end' conn conn' line line' → IsTied g now (slice_set ends at end') (slice_set conns at conn') (slice_set lines from line')
tied_set g now ends conns lines at from end end' conn conn' line line' t ch = record {
  alike = length-set conns at conn' ∙ t.alike ∙ sym (length-set ends at end');
  lines_alike = length-set lines from line' ∙ t.lines_alike ∙ sym (length-set ends at end');
  sends = λ i k l hk hl. elim (set_at conns at i conn conn' k ch.is_at.conn_is hk) [
    | inl s ↦ subst (λ (x : Conn). IsSending g now x l) (sym s.1) (ch.sends_here l (subst (λ (n : ℕ). slice_get (slice_set lines from line') n ≡ Some l) s.0 hl))
    | inr s ↦ elim (set_at lines from i line line' l ch.is_line hl) [
      | inl u ↦
          let hk' : slice_get conns from ≡ Some k = subst (λ (n : ℕ). slice_get conns n ≡ Some k) u.0 s.1 in
          subst (λ (x : Direction). IsSending g now k x) (sym u.1) (ch.sends_there k (λ e. s.0 (u.0 ∙ e)) hk' (t.sends from k line hk' ch.is_line))
      | inr u ↦ t.sends i k l s.1 u.1
    ]
  ];
  receives = λ i m e k l h state inb. elim (set_at ends at i end end' e ch.is_at.end_is h.end_is) [
    | inl s ↦
        let k_is : k ≡ conn' = elim (set_at conns at i conn conn' k ch.is_at.conn_is h.conn_is) [ inl u ↦ u.1 | inr u ↦ absurd (u.0 s.0) ] in
        let was = inbound_was ends (slice_set lines from line') at end end' end e m l ch.is_at.end_is ch.const (subst (IsConst end) (sym s.1) ch.const) inb in
        subst (λ (x : Conn). IsReceiving (inward g x) now (ids_of x) x l) (sym k_is) (ch.receives_here m l (ap (λ (x : End). x.state) (sym s.1) ∙ state) was)
    | inr s ↦
        let k_was : slice_get conns i ≡ Some k = elim (set_at conns at i conn conn' k ch.is_at.conn_is h.conn_is) [ inl u ↦ absurd (s.0 u.0) | inr u ↦ u.1 ] in
        let there' : IsAt ends conns i e k = record { end_is = s.1; conn_is = k_was } in
        let was = inbound_was ends (slice_set lines from line') at end end' e e m l ch.is_at.end_is ch.const (const_refl e) inb in
        elim (set_at lines from m line line' l ch.is_line was.is_line) [
          | inl u ↦
              let from' : IsInboundAt ends lines e from line = record { partner = was.partner; is_partner = subst (λ (n : ℕ). At ends n was.partner) u.0 was.is_partner; partners = was.partners; is_line = ch.is_line } in
              subst (λ (x : Direction). IsReceiving (inward g k) now (ids_of k) k x) (sym u.1) (ch.receives_there i e k s.0 there' from' (t.receives i from e k line there' state from'))
          | inr u ↦ t.receives i m e k l there' state (record { partner = was.partner; is_partner = was.is_partner; partners = was.partners; is_line = u.1 })
        ]
  ];
  unused = λ i e k h unused. elim (set_at ends at i end end' e ch.is_at.end_is h.end_is) [
    | inl s ↦
        let k_is : k ≡ conn' = elim (set_at conns at i conn conn' k ch.is_at.conn_is h.conn_is) [ inl u ↦ u.1 | inr u ↦ absurd (u.0 s.0) ] in
        let was : IsUnused ends end' = unused_was ends at end end' ch.is_at.end_is ch.const end' (subst (IsUnused (slice_set ends at end')) s.1 unused) in
        subst (λ (x : Conn). IsNewAt g e x) (sym k_is) (subst (λ (x : End). IsNewAt g x conn') (sym s.1) (ch.unused was))
    | inr s ↦
        let k_was : slice_get conns i ≡ Some k = elim (set_at conns at i conn conn' k ch.is_at.conn_is h.conn_is) [ inl u ↦ absurd (s.0 u.0) | inr u ↦ u.1 ] in
        t.unused i e k (record { end_is = s.1; conn_is = k_was }) (unused_was ends at end end' ch.is_at.end_is ch.const e unused)
  ];
  early = λ i m e l h waits inb. elim (set_at ends at i end end' e ch.is_at.end_is h) [
    | inl s ↦
        let was = inbound_was ends (slice_set lines from line') at end end' end e m l ch.is_at.end_is ch.const (subst (IsConst end) (sym s.1) ch.const) inb in
        early_set ends lines from m end line line' l ch.is_line ch.early (λ n o. t.early at n end o ch.is_at.end_is (ch.waits (ap (λ (x : End). x.state) (sym s.1) ∙ waits))) was
    | inr s ↦
        let was = inbound_was ends (slice_set lines from line') at end end' e e m l ch.is_at.end_is ch.const (const_refl e) inb in
        early_set ends lines from m e line line' l ch.is_line ch.early (λ n o. t.early i n e o s.1 waits) was
  ];
}
