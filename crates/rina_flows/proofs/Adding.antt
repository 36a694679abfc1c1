-- A flow that is added.
use Rattle.std.proofs.Common.{◌≡◌, ℕ, List, [], ◌∷◌, ◌++◌, map, refl, sym, ◌∙◌, ap, subst}
use Rattle.std.proofs.lemmas.List.{map-append}
use Rattle.rina_conn.specs.declared.conn.Conn.{Conn}
use Rattle.rina_conn.specs.declared.form.Peer.{Peer}
use Rattle.rina_conn.specs.Conns.{IsNewConn}
use Rattle.rina_cube.specs.declared.Cube.{Cube}
use Rattle.rina_data.specs.Configs.{Config, greatest, piece_size}
use Rattle.rina_dif_law.specs.Dif.{constants}
use Rattle.rina_dif_law.specs.Ids.{Ids}
use Rattle.rina_dif_law.specs.Lifting.{ticked}
use Rattle.rina_iface.specs.declared.ends.End.{End}
use Rattle.rina_law.specs.Direction.{Direction, start}
use Rattle.rina_flows.specs.Adding.{Adds, AddsAsker, begun_now, turned}
use Rattle.rina_flows.specs.Tied.{IsTied, ids_by, ids_of, outward}
use Rattle.rina_flows.proofs.Added.{IsAddition, tied_added, tied_both}
use Rattle.rina_flows.proofs.Lasting.{new_at, new_flow, sending_new}
use Rattle.rina_flows.proofs.Offered.{flows_of}

-- the names of a new connection, and the direction in which it sends
pub new_ids : (cube : Cube) (piece max : ℕ) (peer : Peer) (conn : Conn) → IsNewConn cube piece max peer conn → ids_of conn ≡ ids_by peer cube.id
new_ids cube piece max peer conn new = ap (λ (p : Peer). ids_by p conn.sending.form.cube.id) new.peer_is ∙ ap (λ (x : Cube). ids_by peer x.id) new.cube_is

pub new_line : (g : Config) (now : ℕ) (cube : Cube) (piece max : ℕ) (peer : Peer) (conn : Conn) → IsNewConn cube piece max peer conn → ticked now (start (outward g conn)) ≡ begun_now g now cube peer
new_line g now cube piece max peer conn new = ap (λ (x : Cube). ticked now (start (constants g x (ids_of conn)))) new.cube_is ∙ ap (λ (i : Ids). ticked now (start (constants g cube i))) (new_ids cube piece max peer conn new)

pub adds_from : (cube : Cube) (piece max : ℕ) (peer : Peer) (ends : List End) (conns : List Conn) (asker far : End) (conn its : Conn) → IsNewConn cube piece max peer conn → IsNewConn cube piece max (turned peer) its → Adds cube piece max peer asker far (flows_of ends conns) (flows_of (ends ++ asker ∷ far ∷ []) (conns ++ conn ∷ its ∷ []))
adds_from cube piece max peer ends conns asker far conn its new there = λ g now lines t n.
    let N : Peer → Conn → ℕ → ℕ → Type 0 = λ p k x y. IsNewConn cube x y p k in
    let new' : IsNewConn cube (piece_size g) (greatest g) peer conn = subst (λ (y : ℕ). N peer conn (piece_size g) y) n.max_is (subst (λ (x : ℕ). N peer conn x max) n.piece_is new) in
    let there' : IsNewConn cube (piece_size g) (greatest g) (turned peer) its = subst (λ (y : ℕ). N (turned peer) its (piece_size g) y) n.max_is (subst (λ (x : ℕ). N (turned peer) its x max) n.piece_is there) in
    let both = tied_both g now ends conns lines asker far conn its (ticked now (start (outward g conn))) (ticked now (start (outward g its))) t (new_flow g now ends asker far cube peer conn its new' there' n.is_cube n.fresh n.same_flow n.got n.far_got) in
    let T : Direction → Direction → Type 0 = λ a b. IsTied g now (ends ++ asker ∷ far ∷ []) (conns ++ conn ∷ its ∷ []) (lines ++ a ∷ b ∷ []) in
    record {
      tied = subst (λ (b : Direction). T (begun_now g now cube peer) b) (new_line g now cube piece max (turned peer) its there) (subst (λ (a : Direction). T a (ticked now (start (outward g its)))) (new_line g now cube piece max peer conn new) both);
      ids = map-append ids_of conns (conn ∷ its ∷ []) ∙ ap (λ (a : Ids). map ids_of conns ++ a ∷ ids_of its ∷ []) (new_ids cube piece max peer conn new) ∙ ap (λ (b : Ids). map ids_of conns ++ ids_by peer cube.id ∷ b ∷ []) (new_ids cube piece max (turned peer) its there);
    }

pub adds_at : (cube : Cube) (piece max : ℕ) (peer far_peer : Peer) (ends ends' : List End) (conns conns' : List Conn) (asker far : End) (conn its : Conn) → IsNewConn cube piece max peer conn → far_peer ≡ turned peer → IsNewConn cube piece max far_peer its → ends' ≡ ends ++ asker ∷ far ∷ [] → conns' ≡ conns ++ conn ∷ its ∷ [] → Adds cube piece max peer asker far (flows_of ends conns) (flows_of ends' conns')
adds_at cube piece max peer far_peer ends ends' conns conns' asker far conn its new is there ends_are conns_are =
    let all = adds_from cube piece max peer ends conns asker far conn its new (subst (λ (p : Peer). IsNewConn cube piece max p its) is there) in
    subst (λ (xs : List End). Adds cube piece max peer asker far (flows_of ends conns) (flows_of xs conns')) (sym ends_are) (subst (λ (ks : List Conn). Adds cube piece max peer asker far (flows_of ends conns) (flows_of (ends ++ asker ∷ far ∷ []) ks)) (sym conns_are) all)

-- The end of an asker alone

pub asker_added : (cube : Cube) (piece max : ℕ) (peer : Peer) (ends : List End) (conns : List Conn) (end : End) (conn : Conn) → IsNewConn cube piece max peer conn → AddsAsker cube piece max peer end (flows_of ends conns) (flows_of (ends ++ end ∷ []) (conns ++ conn ∷ []))
asker_added cube piece max peer ends conns end conn new = λ g now lines t n.
    let N : ℕ → ℕ → Type 0 = λ x y. IsNewConn cube x y peer conn in
    let new' : IsNewConn cube (piece_size g) (greatest g) peer conn = subst (λ (y : ℕ). N (piece_size g) y) n.max_is (subst (λ (x : ℕ). N x max) n.piece_is new) in
    let line : Direction = ticked now (start (outward g conn)) in
    let addition : IsAddition g now ends conns lines end conn line = record {
      sends = sending_new g now cube peer conn new' n.is_cube;
      receives = λ from partner inbound state is p at. absurd (let w = n.waits in cc);
      received = λ at other k is state p. absurd (n.fresh at other is.end_is p.same_flow);
      new = new_at g cube peer end conn new' n.got;
      early = refl;
      early_there = λ from partner inbound waits is p at. absurd (n.fresh from partner is (sym p.same_flow));
    } in
    record {
      tied = subst (λ (a : Direction). IsTied g now (ends ++ end ∷ []) (conns ++ conn ∷ []) (lines ++ a ∷ [])) (new_line g now cube piece max peer conn new) (tied_added g now ends conns lines end conn line t addition);
      ids = map-append ids_of conns (conn ∷ []) ∙ ap (λ (a : Ids). map ids_of conns ++ a ∷ []) (new_ids cube piece max peer conn new);
    }

pub asker_added_at : (cube : Cube) (piece max : ℕ) (peer : Peer) (ends ends' : List End) (conns conns' : List Conn) (end : End) (conn : Conn) → IsNewConn cube piece max peer conn → ends' ≡ ends ++ end ∷ [] → conns' ≡ conns ++ conn ∷ [] → AddsAsker cube piece max peer end (flows_of ends conns) (flows_of ends' conns')
asker_added_at cube piece max peer ends ends' conns conns' end conn new ends_are conns_are =
    subst (λ (xs : List End). AddsAsker cube piece max peer end (flows_of ends conns) (flows_of xs conns')) (sym ends_are) (subst (λ (ks : List Conn). AddsAsker cube piece max peer end (flows_of ends conns) (flows_of (ends ++ end ∷ []) ks)) (sym conns_are) (asker_added cube piece max peer ends conns end conn new))
