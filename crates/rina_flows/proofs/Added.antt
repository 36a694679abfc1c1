-- Flows stay tied when ends are added with their connections and directions.
use Rattle.std.proofs.Common.{◌≡◌, ◌≢◌, ℕ, ◌+◌, List, [], ◌∷◌, ◌++◌, append_assoc, length, length-append, slice_get, Some, sym, ◌∙◌, ap, subst, arith, inl, inr}
use Rattle.std.proofs.lemmas.Option.{slice_get_within}
use Rattle.rina_conn.specs.declared.conn.Conn.{Conn}
use Rattle.rina_data.specs.Configs.{Config}
use Rattle.rina_dif_law.proofs.Own.{not_itself}
use Rattle.rina_iface.specs.declared.ends.End.{End}
use Rattle.rina_iface.specs.declared.state.PortState.TheVariants.{Allocated, Pending}
use Rattle.rina_iface.specs.Journal.{At, IsPartner}
use Rattle.rina_iface.proofs.Grown.{pushed_at}
use Rattle.rina_law.specs.Direction.{Direction}
use Rattle.rina_flows.specs.Tied.{IsAt, IsInboundAt, IsNewAt, IsReceiving, IsSending, IsTied, IsUnused, ids_of, inward}
use Rattle.rina_flows.proofs.Unused.{unused_before}

-- at the place of the end that was added stands what was added with it
behind : {X Y : Type 0} (xs : List X) (ys : List Y) (x : X) (i : ℕ) (z : X) → length xs ≡ length ys → i ≡ length ys → slice_get (xs ++ x ∷ []) i ≡ Some z → z ≡ x
behind xs ys x i z same last h = elim (pushed_at xs x i z h) [
  | inl old ↦ (let lt = slice_get_within xs i z old in absurd (omega arith))
  | inr new ↦ new.1
]

-- and before it what was there
before : {X Y : Type 0} (xs : List X) (ys : List Y) (x : X) (i : ℕ) (y : Y) (z : X) → length xs ≡ length ys → slice_get ys i ≡ Some y → slice_get (xs ++ x ∷ []) i ≡ Some z → slice_get xs i ≡ Some z
before xs ys x i y z same here h = elim (pushed_at xs x i z h) [
  | inl old ↦ old
  | inr new ↦ (let lt = slice_get_within ys i y here in let at = new.0 in absurd (omega arith))
]

-- what is known of an end that is added: the new connection stands for its sender, and for the receiver of the direction
-- from a partner; and a partner that was there receives from it. Nothing came yet in either direction
pub record IsAddition (g : Config) (now : ℕ) (ends : List End) (conns : List Conn) (lines : List Direction) (end : End) (conn : Conn) (line : Direction) : Type 0 where
  pub sends : IsSending g now conn line
  pub receives : (from : ℕ) (partner : End) (inbound : Direction) → end.state ≡ Allocated → At ends from partner → IsPartner partner end → slice_get lines from ≡ Some inbound → IsReceiving (inward g conn) now (ids_of conn) conn inbound
  pub received : (at : ℕ) (other : End) (its : Conn) → IsAt ends conns at other its → other.state ≡ Allocated → IsPartner end other → IsReceiving (inward g its) now (ids_of its) its line
  pub new : IsNewAt g end conn
  pub early : line.state_from ≡ 0
  pub early_there : (from : ℕ) (partner : End) (inbound : Direction) → end.state ≡ Pending → At ends from partner → IsPartner partner end → slice_get lines from ≡ Some inbound → inbound.state_from ≡ 0

module _ (g : Config) (now : ℕ) (ends : List End) (conns : List Conn) (lines : List Direction) (end : End) (conn : Conn) (line : Direction) (tied : IsTied g now ends conns lines) (a : IsAddition g now ends conns lines end conn line) where
  sends_added : (at : ℕ) (k : Conn) (l : Direction) → slice_get (conns ++ conn ∷ []) at ≡ Some k → slice_get (lines ++ line ∷ []) at ≡ Some l → IsSending g now k l
  sends_added at k l h i =
      let alike = tied.alike ∙ sym tied.lines_alike in
      elim (pushed_at conns conn at k h) [
        | inl old ↦ tied.sends at k l old (before lines conns line at k l (sym alike) old i)
        | inr new ↦
            (let l_is : l ≡ line = behind lines conns line at l (sym alike) new.0 i in
            subst (λ (x : Conn). IsSending g now x l) (sym new.1) (subst (IsSending g now conn) (sym l_is) a.sends))
      ]

  receives_added : (at from : ℕ) (e : End) (k : Conn) (l : Direction) → IsAt (ends ++ end ∷ []) (conns ++ conn ∷ []) at e k → e.state ≡ Allocated → IsInboundAt (ends ++ end ∷ []) (lines ++ line ∷ []) e from l → IsReceiving (inward g k) now (ids_of k) k l
  receives_added at from e k l is_at allocated inbound =
      elim (pushed_at ends end at e is_at.end_is) [
        | inl old ↦
            (let k_is = before conns ends conn at e k tied.alike old is_at.conn_is in
            let was : IsAt ends conns at e k = record { end_is = old; conn_is = k_is } in
            elim (pushed_at ends end from inbound.partner inbound.is_partner) [
              | inl p ↦ tied.receives at from e k l was allocated (record { partner = inbound.partner; is_partner = p; partners = inbound.partners; is_line = before lines ends line from inbound.partner l tied.lines_alike p inbound.is_line })
              | inr p ↦
                  (let l_is : l ≡ line = behind lines ends line from l tied.lines_alike p.0 inbound.is_line in
                  subst (IsReceiving (inward g k) now (ids_of k) k) (sym l_is) (a.received at e k was allocated (subst (λ (x : End). IsPartner x e) p.1 inbound.partners)))
            ])
        | inr new ↦
            (let k_is : k ≡ conn = behind conns ends conn at k tied.alike new.0 is_at.conn_is in
            let partners : IsPartner inbound.partner end = subst (IsPartner inbound.partner) new.1 inbound.partners in
            elim (pushed_at ends end from inbound.partner inbound.is_partner) [
              | inl p ↦ subst (λ (x : Conn). IsReceiving (inward g x) now (ids_of x) x l) (sym k_is) (a.receives from inbound.partner l (ap (λ (x : End). x.state) (sym new.1) ∙ allocated) p partners (before lines ends line from inbound.partner l tied.lines_alike p inbound.is_line))
              | inr p ↦ absurd (not_itself end (subst (λ (x : End). IsPartner x end) p.1 partners))
            ])
      ]

  unused_added : (at : ℕ) (e : End) (k : Conn) → IsAt (ends ++ end ∷ []) (conns ++ conn ∷ []) at e k → IsUnused (ends ++ end ∷ []) e → IsNewAt g e k
  unused_added at e k is_at unused = elim (pushed_at ends end at e is_at.end_is) [
    | inl old ↦ tied.unused at e k (record { end_is = old; conn_is = before conns ends conn at e k tied.alike old is_at.conn_is }) (unused_before ends (end ∷ []) e unused)
    | inr new ↦ subst (λ (x : Conn). IsNewAt g e x) (sym (behind conns ends conn at k tied.alike new.0 is_at.conn_is)) (subst (λ (x : End). IsNewAt g x conn) (sym new.1) a.new)
  ]

  early_added : (at from : ℕ) (e : End) (l : Direction) → At (ends ++ end ∷ []) at e → e.state ≡ Pending → IsInboundAt (ends ++ end ∷ []) (lines ++ line ∷ []) e from l → l.state_from ≡ 0
  early_added at from e l is waits inbound = elim (pushed_at ends end from inbound.partner inbound.is_partner) [
    | inl p ↦
        let was = before lines ends line from inbound.partner l tied.lines_alike p inbound.is_line in
        elim (pushed_at ends end at e is) [
          | inl old ↦ tied.early at from e l old waits (record { partner = inbound.partner; is_partner = p; partners = inbound.partners; is_line = was })
          | inr new ↦ a.early_there from inbound.partner l (ap (λ (x : End). x.state) (sym new.1) ∙ waits) p (subst (IsPartner inbound.partner) new.1 inbound.partners) was
        ]
    | inr p ↦ ap (λ (x : Direction). x.state_from) (behind lines ends line from l tied.lines_alike p.0 inbound.is_line) ∙ a.early
  ]

  pub tied_added : IsTied g now (ends ++ end ∷ []) (conns ++ conn ∷ []) (lines ++ line ∷ [])
  tied_added = record {
    alike = length-append conns (conn ∷ []) ∙ ap (λ n. n + 1) tied.alike ∙ sym (length-append ends (end ∷ []));
    lines_alike = length-append lines (line ∷ []) ∙ ap (λ n. n + 1) tied.lines_alike ∙ sym (length-append ends (end ∷ []));
    sends = sends_added;
    receives = receives_added;
    unused = unused_added;
    early = early_added;
  }

-- both ends of a flow that is new: each connection stands for its sender, and for the receiver of the other direction
pub record AreNewEnds (g : Config) (now : ℕ) (ends : List End) (asker far : End) (conn its : Conn) (line back : Direction) : Type 0 where
  pub fresh : (i : ℕ) (e : End) → At ends i e → e.flow ≢ asker.flow
  pub same_flow : far.flow ≡ asker.flow
  pub sends : IsSending g now conn line
  pub sends_back : IsSending g now its back
  pub receives : IsReceiving (inward g conn) now (ids_of conn) conn back
  pub receives_there : IsReceiving (inward g its) now (ids_of its) its line
  pub new : IsNewAt g asker conn
  pub new_there : IsNewAt g far its
  pub early : line.state_from ≡ 0
  pub early_back : back.state_from ≡ 0

pub tied_both : (g : Config) (now : ℕ) (ends : List End) (conns : List Conn) (lines : List Direction) (asker far : End) (conn its : Conn) (line back : Direction) → IsTied g now ends conns lines → AreNewEnds g now ends asker far conn its line back → IsTied g now (ends ++ asker ∷ far ∷ []) (conns ++ conn ∷ its ∷ []) (lines ++ line ∷ back ∷ [])
tied_both g now ends conns lines asker far conn its line back tied n =
    let first : IsAddition g now ends conns lines asker conn line = record {
      sends = n.sends;
      receives = λ from partner inbound state is p at. absurd (n.fresh from partner is (sym p.same_flow));
      received = λ at other k is state p. absurd (n.fresh at other is.end_is p.same_flow);
      new = n.new;
      early = n.early;
      early_there = λ from partner inbound waits is p at. absurd (n.fresh from partner is (sym p.same_flow));
    } in
    let one = tied_added g now ends conns lines asker conn line tied first in
    let second : IsAddition g now (ends ++ asker ∷ []) (conns ++ conn ∷ []) (lines ++ line ∷ []) far its back = record {
      sends = n.sends_back;
      receives = λ from partner inbound state is p at. elim (pushed_at ends asker from partner is) [
        | inl old ↦ absurd (n.fresh from partner old (sym p.same_flow ∙ n.same_flow))
        | inr new ↦ subst (IsReceiving (inward g its) now (ids_of its) its) (sym (behind lines ends line from inbound tied.lines_alike new.0 at)) n.receives_there
      ];
      received = λ at other k is state p. elim (pushed_at ends asker at other is.end_is) [
        | inl old ↦ absurd (n.fresh at other old (p.same_flow ∙ n.same_flow))
        | inr new ↦ subst (λ (x : Conn). IsReceiving (inward g x) now (ids_of x) x back) (sym (behind conns ends conn at k tied.alike new.0 is.conn_is)) n.receives
      ];
      new = n.new_there;
      early = n.early_back;
      early_there = λ from partner inbound waits is p at. elim (pushed_at ends asker from partner is) [
        | inl old ↦ absurd (n.fresh from partner old (sym p.same_flow ∙ n.same_flow))
        | inr new ↦ ap (λ (x : Direction). x.state_from) (behind lines ends line from inbound tied.lines_alike new.0 at) ∙ n.early
      ];
    } in
    let two = tied_added g now (ends ++ asker ∷ []) (conns ++ conn ∷ []) (lines ++ line ∷ []) far its back one second in
    let E = λ (es : List End). IsTied g now es ((conns ++ conn ∷ []) ++ its ∷ []) ((lines ++ line ∷ []) ++ back ∷ []) in
    let C = λ (ks : List Conn). IsTied g now (ends ++ asker ∷ far ∷ []) ks ((lines ++ line ∷ []) ++ back ∷ []) in
    let L = λ (ls : List Direction). IsTied g now (ends ++ asker ∷ far ∷ []) (conns ++ conn ∷ its ∷ []) ls in
    subst L (append_assoc lines (line ∷ []) (back ∷ [])) (subst C (append_assoc conns (conn ∷ []) (its ∷ [])) (subst E (append_assoc ends (asker ∷ []) (far ∷ [])) two))
