-- The far end of a flow whose asker stands elsewhere is added.
use Rattle.std.proofs.Common.{◌≡◌, ◌≢◌, ℕ, List, [], ◌∷◌, ◌++◌, map, length-set, slice_get, slice_set, Some, refl, sym, ◌∙◌, ap, subst, inl, inr}
use Rattle.std.proofs.lemmas.List.{map-append}
use Rattle.rina_conn.specs.declared.conn.Conn.{Conn}
use Rattle.rina_conn.specs.declared.form.Peer.{Peer}
use Rattle.rina_conn.specs.Conns.{IsNewConn}
use Rattle.rina_cube.specs.declared.Cube.{Cube}
use Rattle.rina_data.specs.Configs.{Config, cube_by, greatest, piece_size}
use Rattle.rina_dif_law.specs.Lifting.{ticked}
use Rattle.rina_dif_law.specs.Standing.{IsJournal}
use Rattle.rina_dif_law.proofs.Finding.{beside}
use Rattle.rina_dif_law.proofs.Own.{partner_back}
use Rattle.rina_iface.specs.declared.ends.End.{End}
use Rattle.rina_iface.specs.declared.state.PortState.TheVariants.{Allocated}
use Rattle.rina_iface.specs.declared.state.Role.{Role}
use Rattle.rina_iface.specs.declared.state.Role.TheVariants.{Asker, Far}
use Rattle.rina_iface.specs.Journal.{At, HasPartner, IsPartner}
use Rattle.rina_iface.proofs.Changed.{set_at, slice_get-set_same}
use Rattle.rina_law.specs.Direction.{Direction, start}
use Rattle.rina_law.specs.Constants.{Constants}
use Rattle.rina_dif_law.specs.Ids.{Ids}
use Rattle.rina_flows.specs.Adding.{AddsFar, IsNewFar, begun_now, turned}
use Rattle.rina_flows.specs.Tied.{IsAt, IsInboundAt, IsReceiving, IsSending, IsTied, ids_of, inward, outward}
use Rattle.rina_flows.proofs.Added.{IsAddition, tied_added}
use Rattle.rina_flows.proofs.Adding.{new_ids, new_line}
use Rattle.rina_flows.proofs.Lasting.{new_at, receiving_new, sending_new}
use Rattle.rina_flows.proofs.Offered.{flows_of}

-- the other role than that of a far end
not_far : (role : Role) → role ≢ Far → role ≡ Asker
not_far Asker h = refl
not_far Far h = absurd (h refl)

-- an end without partner may send in a direction that starts now, while nothing was sent on its connection
module _ (g : Config) (now : ℕ) (ends : List End) (conns : List Conn) (lines : List Direction) (at : ℕ) (end : End) (conn : Conn) (tied : IsTied g now ends conns lines) (is : IsAt ends conns at end conn) (alone : HasPartner ends end → ⊥) where
  abbrev anew : Direction
  anew = ticked now (start (outward g conn))

  -- no end receives from it
  not_from : (from : ℕ) (e : End) (k : ℕ) (l : Direction) → At ends k e → IsInboundAt ends (slice_set lines at anew) e from l → from ≢ at
  not_from from e k l here inbound same =
      let there : At ends at inbound.partner = subst (λ (n : ℕ). At ends n inbound.partner) same inbound.is_partner in
      let at_end = is.end_is in
      let is_end : inbound.partner ≡ end = cc in
      alone (record { place = k; other = e; stands = here; partner = subst (λ (x : End). IsPartner x e) is_end inbound.partners })

  was_inbound : (from : ℕ) (e : End) (k : ℕ) (l : Direction) → At ends k e → IsInboundAt ends (slice_set lines at anew) e from l → IsInboundAt ends lines e from l
  was_inbound from e k l here inbound =
      let other = not_from from e k l here inbound in
      let line = beside ends lines at end tied.lines_alike is.end_is in
      let l_is = elim (set_at lines at from line.0 anew l line.1 inbound.is_line) as (λ x. slice_get lines from ≡ Some l) [ inl t ↦ absurd (other t.0) | inr f ↦ f.1 ] in
      record { partner = inbound.partner; is_partner = inbound.is_partner; partners = inbound.partners; is_line = l_is }

  pub tied_anew : IsTied g now ends conns (slice_set lines at anew)
  tied_anew =
      let line = beside ends lines at end tied.lines_alike is.end_is in
      let new = tied.unused at end conn is (inr alone) in
      let cube : cube_by conn.sending.form.cube.id g.cubes ≡ Some conn.sending.form.cube = (tied.sends at conn line.0 is.conn_is line.1).cube in
      record {
        alike = tied.alike;
        lines_alike = length-set lines at anew ∙ tied.lines_alike;
        sends = λ k y z h i. elim (set_at lines at k line.0 anew z line.1 i) [
          | inl t ↦
              let there : slice_get conns at ≡ Some y = subst (λ (n : ℕ). slice_get conns n ≡ Some y) t.0 h in
              let at_conn = is.conn_is in
              let y_is : y ≡ conn = cc in
              subst (λ (x : Conn). IsSending g now x z) (sym y_is) (subst (IsSending g now conn) (sym t.1) (sending_new g now conn.sending.form.cube conn.sending.form.peer conn new.new cube))
          | inr f ↦ tied.sends k y z h f.1
        ];
        receives = λ k from e y l here allocated inbound. tied.receives k from e y l here allocated (was_inbound from e k l here.end_is inbound);
        unused = tied.unused;
        early = λ k from e l here waits inbound. tied.early k from e l here waits (was_inbound from e k l here inbound);
      }

module _ (cube : Cube) (piece max : ℕ) (peer : Peer) (ends : List End) (conns : List Conn) (end : End) (its : Conn) (g : Config) (now at : ℕ) (lines : List Direction) (journal : IsJournal now ends) (tied : IsTied g now ends conns lines) (n : IsNewFar g cube piece max peer ends conns at end) (new : IsNewConn cube (piece_size g) (greatest g) peer its) where
  abbrev outgoing : Direction
  outgoing = ticked now (start (outward g n.conn))

  -- a partner of the far end that was there is the asker
  the_asker : (from : ℕ) (partner : End) → At ends from partner → IsPartner partner end → from ≡ at
  the_asker from partner is p =
      let role : partner.role ≡ Asker = not_far partner.role (λ e. p.other_role (n.is_far ∙ sym e)) in
      journal.distinct from at partner n.asker is n.is_at.end_is (sym p.same_flow ∙ n.same_flow) (role ∙ sym n.asks)

  -- it is not allocated yet
  not_yet : (k : ℕ) (e : End) → At ends k e → e.state ≡ Allocated → IsPartner end e → ⊥
  not_yet k e is allocated p =
      let same = the_asker k e is (partner_back end e p) in
      let there : At ends at e = subst (λ (i : ℕ). At ends i e) same is in
      let at_end = n.is_at.end_is in
      let is_asker : e ≡ n.asker = cc in
      n.alone (subst (HasPartner ends) is_asker (journal.allocated k e is allocated))

  -- the line of the asker's place
  at_place : (from : ℕ) (l : Direction) → from ≡ at → slice_get (slice_set lines at outgoing) from ≡ Some l → l ≡ outgoing
  at_place from l same h =
      let line = beside ends lines at n.asker tied.lines_alike n.is_at.end_is in
      let there = subst (λ (i : ℕ). slice_get (slice_set lines at outgoing) i ≡ Some l) same h in
      let set = slice_get-set_same lines at line.0 outgoing line.1 in
      cc

  far_tied : IsTied g now (ends ++ end ∷ []) (conns ++ its ∷ []) (slice_set lines at outgoing ++ ticked now (start (outward g its)) ∷ [])
  far_tied =
      let by : Cube → ℕ → Constants = λ x cep. record { cube = x; piece = piece_size g; max = greatest g; cep = cep } in
      let constants_are : inward g its ≡ outward g n.conn = ap (λ (x : Cube). by x its.sending.form.peer.dcep) (new.cube_is ∙ sym n.cube_is) ∙ ap (by n.conn.sending.form.cube) (ap (λ (p : Peer). p.dcep) new.peer_is ∙ n.named) in
      let receives : IsReceiving (inward g its) now (ids_of its) its outgoing = subst (λ (c : Constants). IsReceiving (inward g its) now (ids_of its) its (ticked now (start c))) constants_are (receiving_new g now cube peer (greatest g) its new) in
      let addition : IsAddition g now ends conns (slice_set lines at outgoing) end its (ticked now (start (outward g its))) = record {
        sends = sending_new g now cube peer its new n.is_cube;
        receives = λ from partner inbound state is p at_line. subst (λ (l : Direction). IsReceiving (inward g its) now (ids_of its) its l) (sym (at_place from inbound (the_asker from partner is p) at_line)) receives;
        received = λ k e y here allocated p. absurd (not_yet k e here.end_is allocated p);
        new = new_at g cube peer end its new n.got;
        early = refl;
        early_there = λ from partner inbound waits is p at_line. ap (λ (x : Direction). x.state_from) (at_place from inbound (the_asker from partner is p) at_line);
      } in
      tied_added g now ends conns (slice_set lines at outgoing) end its (ticked now (start (outward g its))) (tied_anew g now ends conns lines at n.asker n.conn tied n.is_at n.alone) addition

  -- the asker's direction, by the names of the far end
  outgoing_is : outgoing ≡ begun_now g now cube (turned peer)
  outgoing_is =
      let by : Cube → ℕ → Direction = λ x cep. ticked now (start (record { cube = x; piece = piece_size g; max = greatest g; cep = cep })) in
      ap (λ (x : Cube). by x n.conn.sending.form.peer.scep) n.cube_is ∙ ap (by cube) (sym n.named)

far_added : (cube : Cube) (piece max : ℕ) (peer : Peer) (ends : List End) (conns : List Conn) (end : End) (its : Conn) → IsNewConn cube piece max peer its → AddsFar cube piece max peer end (flows_of ends conns) (flows_of (ends ++ end ∷ []) (conns ++ its ∷ []))
far_added cube piece max peer ends conns end its new = λ g now at lines journal t n.
    let N : ℕ → ℕ → Type 0 = λ x y. IsNewConn cube x y peer its in
    let new' : IsNewConn cube (piece_size g) (greatest g) peer its = subst (λ (y : ℕ). N (piece_size g) y) n.max_is (subst (λ (x : ℕ). N x max) n.piece_is new) in
    let T : Direction → Direction → Type 0 = λ a b. IsTied g now (ends ++ end ∷ []) (conns ++ its ∷ []) (slice_set lines at a ++ b ∷ []) in
    record {
      tied = subst (λ (b : Direction). T (begun_now g now cube (turned peer)) b) (new_line g now cube piece max peer its new) (subst (λ (a : Direction). T a (ticked now (start (outward g its)))) (outgoing_is cube piece max peer ends conns end its g now at lines journal t n new') (far_tied cube piece max peer ends conns end its g now at lines journal t n new'));
      ids = map-append ids_of conns (its ∷ []) ∙ ap (λ (a : Ids). map ids_of conns ++ a ∷ []) (new_ids cube piece max peer its new);
    }

pub far_added_at : (cube : Cube) (piece max : ℕ) (peer : Peer) (ends ends' : List End) (conns conns' : List Conn) (end : End) (its : Conn) → IsNewConn cube piece max peer its → ends' ≡ ends ++ end ∷ [] → conns' ≡ conns ++ its ∷ [] → AddsFar cube piece max peer end (flows_of ends conns) (flows_of ends' conns')
far_added_at cube piece max peer ends ends' conns conns' end its new ends_are conns_are =
    subst (λ (xs : List End). AddsFar cube piece max peer end (flows_of ends conns) (flows_of xs conns')) (sym ends_are) (subst (λ (ks : List Conn). AddsFar cube piece max peer end (flows_of ends conns) (flows_of (ends ++ end ∷ []) ks)) (sym conns_are) (far_added cube piece max peer ends conns end its new))
