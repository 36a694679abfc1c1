-- What a call does to the own flows: an end and the direction in which it sends change, an end and the direction in
-- which it receives, a direction alone, or none.
use Rattle.std.proofs.Common.{◌≡◌, ◌≢◌, ℕ, ◌+◌, ◌-◌, ◌<◌, ◌≤◌, List, [], length, map, slice_get, slice_set, Some, None, Option, option_map, true, length-set, refl, sym, ◌∙◌, ap, subst, inl, inr, ◌⊎◌}
use Rattle.std.proofs.lemmas.List.{length-map}
use Rattle.std.proofs.lemmas.Option.{same_Some, slice_get-map}
use Rattle.rina_base.specs.declared.number.FlowName.{FlowName}
use Rattle.rina_base.specs.declared.pdu.Pdu.{Pdu}
use Rattle.rina_base.specs.declared.pdu.PduKind.TheVariants.{Piece as APiece, Ack as AnAck}
use Rattle.rina_iface.specs.declared.ends.End.{End}
use Rattle.rina_iface.specs.declared.state.PortState.TheVariants.{Allocated}
use Rattle.rina_iface.specs.declared.state.Role.{Role}
use Rattle.rina_iface.specs.declared.state.Role.TheVariants as roles
use Rattle.rina_iface.specs.Journal.{At, IsPartner}
use Rattle.rina_iface.proofs.Changed.{set_at, slice_get-set_same}
use Rattle.rina_law.specs.Backed.{Covers, CoversBut}
use Rattle.rina_law.specs.Direction.{Direction}
use Rattle.rina_rest.specs.Flows.{Asker, Endpoint, Far, Flow, Four, GoesFrom, HasSameId, IsInUse, Side, end_at}
use Rattle.rina_rest.specs.Ledger.{LedgerHolds, Stands}
use Rattle.rina_rest.specs.Naming.{Naming, four_in}
use Rattle.rina_rest.specs.While.{IsDirectionFrom}
use Rattle.rina_rest.proofs.Fresh.{one_flow_and_side, one_side}
use Rattle.rina_rest.proofs.Keeping.{time_keeps_slots}
use Rattle.rina_rest.proofs.Holding.{unended, used_by}
use Rattle.rina_rest.proofs.Lists.{same_flow}
use Rattle.rina_rest.proofs.Rows.{cloud_holds, send_holds, time_holds, used_before}
use Rattle.rina_rest.proofs.While.{full_backed, guard_backed, if_backed, naming_covers, naming_covers_but}
use Rattle.rina_data.specs.Configs.{Config, cube_by}
use Rattle.rina_ids.specs.Members.{CepIds}
use Rattle.rina_dif_law.specs.Dif.{constants}
use Rattle.rina_dif_law.specs.Ids.{AcksOf, Ids, PiecesOf, flipped}
use Rattle.rina_dif_law.specs.Lifting.{ticked}
use Rattle.rina_dif_law.specs.Places.{IsEndOf, IsUp, Knows, Place, ids_from, role_of, there_of}
use Rattle.rina_dif_law.specs.Standing.{AreEntered, AreIds, IsConn, IsDirection, IsFlow, IsJournal, IsOfFlow, IsOwn, IsUntold, RestsBy}
use Rattle.rina_dif_law.proofs.Finding.{beside}
use Rattle.rina_dif_law.proofs.Flows.{acks_apart, flow_kept, flow_moved, flow_recovered, flow_redirected, flow_ticked, from_still, guarded_covers, pieces_apart, ticked_untold}
use Rattle.rina_dif_law.proofs.Journals.{IsConst, const_refl, partner_was, was_end}
use Rattle.rina_dif_law.proofs.Placed.{far_of, goes_back, goes_from, ids_flipped, is_up, opposite, opposite_same, other_side, stands_up, used_up}

-- there are two roles
role_is : (a b c : Role) → a ≢ c → b ≢ c → a ≡ b
role_is roles.Asker roles.Asker c p q = refl
role_is roles.Far roles.Far c p q = refl
role_is roles.Asker roles.Far roles.Asker p q = absurd (p refl)
role_is roles.Asker roles.Far roles.Far p q = absurd (q refl)
role_is roles.Far roles.Asker roles.Asker p q = absurd (q refl)
role_is roles.Far roles.Asker roles.Far p q = absurd (p refl)

-- an end has one partner
pub one_partner : (now : ℕ) (ends : List End) (i k : ℕ) (a b e : End) → IsJournal now ends → At ends i a → At ends k b → IsPartner a e → IsPartner b e → i ≡ k
one_partner now ends i k a b e j ha hb p q = j.distinct i k a b ha hb (sym p.same_flow ∙ q.same_flow) (role_is a.role b.role e.role (λ s. p.other_role (sym s)) (λ s. q.other_role (sym s)))

pub not_itself : (e : End) → IsPartner e e → ⊥
not_itself e p = p.other_role refl

pub partner_back : (a b : End) → IsPartner a b → IsPartner b a
partner_back a b p = record { same_flow = sym p.same_flow; other_role = λ e. p.other_role (sym e) }

pub conn_is : (ends : List End) (conns : List Ids) (i : ℕ) (a b : End) (c : Ids) → a ≡ b → IsConn ends conns i a c → IsConn ends conns i b c
conn_is ends conns i a b c is h = subst (λ (z : End). IsConn ends conns i z c) is h

kinds_differ : (pdu : Pdu) → pdu.kind ≡ APiece → pdu.kind ≡ AnAck → ⊥
kinds_differ pdu a b = cc

-- two partners are the ends of one flow: the end at place i, and where the flow has a far end
pub record IsPair (flows : List Flow) (places : List Place) (i : ℕ) : Type 0 where
  pub x : Place
  pub is_x : slice_get places i ≡ Some x
  pub flow : Flow
  pub stands : slice_get flows x.flow ≡ Some flow
  pub far : Endpoint
  pub known : flow.far ≡ Some far

-- the clock of a direction, and the journals that it has of its ends
pub record HasJournals (now : ℕ) (a b : End) (line : Direction) : Type 0 where
  pub clock : line.line.clock ≡ now
  pub sent : line.sent ≡ a.sent
  pub got : line.inbox.got ≡ b.got
  pub passed : line.passed ≡ b.taken

-- what stays of an end that changes
pub end_const : (flow : Flow) (side : Side) (e e' : End) (c : Ids) → IsConst e e' → e'.state ≡ e.state → (flow.far ≡ None → e'.sent ≡ []) → IsEndOf flow side e c → IsEndOf flow side e' c
end_const flow side e e' c const state unsent h = record {
  point = h.point;
  is = h.is;
  role = const.role ∙ h.role;
  own = h.own;
  far = h.far;
  scep = h.scep;
  up = λ u. h.up (subst IsUp state u);
  still = λ s. subst IsUp (sym state) (h.still s);
  knows = λ s. h.knows (sym state ∙ s);
  waits = λ s. h.waits (sym state ∙ s);
  known = λ far is knows. h.known far is knows ∙ ap (λ (q : ℕ). ids_from side flow far q) (sym const.cube);
  asked = λ none. ap (λ (f : FlowName). f.tick) const.flow ∙ h.asked none;
  unsent = unsent;
}

-- its flow changes, but not this end of it, nor what it knows of the other one
pub end_on : (f f' : Flow) (side : Side) (e : End) (c : Ids) (h : IsEndOf f side e c) → end_at side f' ≡ Some h.point → there_of side f ≡ there_of side f' → (Knows side f → Knows side f') → (Knows side f' → Knows side f)
    → ((far : Endpoint) → f'.far ≡ Some far → Knows side f' → c ≡ ids_from side f' far e.cube) → (f'.far ≡ None → (e.flow.tick ≡ f'.asked) × (e.sent ≡ [])) → IsEndOf f' side e c
end_on f f' side e c h is there more less known alone = record {
  point = h.point;
  is = is;
  role = h.role;
  own = h.own;
  far = h.far ∙ there;
  scep = h.scep;
  up = h.up;
  still = h.still;
  knows = λ s. more (h.knows s);
  waits = λ s knows. h.waits s (less knows);
  known = known;
  asked = λ none. (alone none).0;
  unsent = λ none. (alone none).1;
}

-- an end changes, but not in what is the same all its life
module _ (ends : List End) (conns : List Ids) (flows : List Flow) (places : List Place) (entered : AreEntered ends conns flows places) (at : ℕ) (e e' : End) (is : At ends at e) (const : IsConst e e') where
  -- flow names tell flows as before
  pub named_set : (i k : ℕ) (a b : End) (x y : Place) → At (slice_set ends at e') i a → At (slice_set ends at e') k b → slice_get places i ≡ Some x → slice_get places k ≡ Some y → x.flow ≡ y.flow → a.flow ≡ b.flow
  named_set i k a b x y ha hb is_x is_y same =
      let o = was_end ends at e e' is const i a ha in
      let r = was_end ends at e e' is const k b hb in
      o.2.flow ∙ entered.named i k o.0 r.0 x y o.1 r.1 is_x is_y same ∙ sym r.2.flow

  pub apart_set : (i k : ℕ) (a b : End) (x y : Place) → At (slice_set ends at e') i a → At (slice_set ends at e') k b → slice_get places i ≡ Some x → slice_get places k ≡ Some y → a.flow ≡ b.flow → x.flow ≡ y.flow
  apart_set i k a b x y ha hb is_x is_y same =
      let o = was_end ends at e e' is const i a ha in
      let r = was_end ends at e e' is const k b hb in
      entered.apart i k o.0 r.0 x y o.1 r.1 is_x is_y (sym o.2.flow ∙ same ∙ r.2.flow)

-- the ids of each flow rest as long as before
pub rests_set : (g : Config) (ends : List End) (flows : List Flow) (places : List Place) (at : ℕ) (e e' : End) → At ends at e → IsConst e e' → ((i : ℕ) (a : End) (x : Place) (flow : Flow) → At ends i a → slice_get places i ≡ Some x → slice_get flows x.flow ≡ Some flow → RestsBy g a.cube flow.rest)
    → (i : ℕ) (a : End) (x : Place) (flow : Flow) → At (slice_set ends at e') i a → slice_get places i ≡ Some x → slice_get flows x.flow ≡ Some flow → RestsBy g a.cube flow.rest
rests_set g ends flows places at e e' is const rests i a x flow ha is_x stands =
    let o = was_end ends at e e' is const i a ha in
    subst (λ (q : ℕ). RestsBy g q flow.rest) (sym o.2.cube) (rests i o.0 x flow o.1 is_x stands)

-- ids fit as before
pub ids_set : (g : Config) (ends : List End) (conns : List Ids) (at : ℕ) (e e' : End) → At ends at e → IsConst e e' → ((i : ℕ) (a : End) (c : Ids) → IsConn ends conns i a c → AreIds g a c) → (i : ℕ) (a : End) (c : Ids) → IsConn (slice_set ends at e') conns i a c → AreIds g a c
ids_set g ends conns at e e' is const fit i a c conn =
    let o = was_end ends at e e' is const i a conn.end in
    let ids = fit i o.0 c (record { end = o.1; ids_are = conn.ids_are }) in
    record { own = ids.own; far = ids.far; scep = ids.scep; dcep = ids.dcep; qos = ids.qos ∙ sym o.2.cube }

module _ (g : Config) (now : ℕ) (cloud : ℕ → Pdu → Type 0) (held : List CepIds) (ends : List End) (conns : List Ids) (lines : List Direction) (own : IsOwn g now cloud held ends conns lines) where
  -- an end is that of its flow
  pub end_of_flow : (i : ℕ) (e : End) (c : Ids) (x : Place) (flow : Flow) → IsConn ends conns i e c → slice_get own.places i ≡ Some x → slice_get own.flows x.flow ≡ Some flow → IsEndOf flow x.side e c
  end_of_flow i e c x flow conn is_x stands =
      let m = own.entered.each i e c x conn is_x in
      subst (λ (z : Flow). IsEndOf z x.side e c) (same_flow own.flows x.flow x.flow m.flow flow refl m.stands stands) m.end

  -- and its partner is the other one
  pub far_end_of_flow : (i k : ℕ) (a b : End) (f : Ids) (x : Place) (flow : Flow) → At ends i a → IsConn ends conns k b f → IsPartner a b → slice_get own.places i ≡ Some x → slice_get own.flows x.flow ≡ Some flow → IsEndOf flow (opposite x.side) b f
  far_end_of_flow i k a b f x flow is_a conn p is_x stands =
      let c = beside ends conns i a own.alike is_a in
      let m = end_of_flow i a c.0 x flow (record { end = is_a; ids_are = c.1 }) is_x stands in
      let y = beside ends own.places k b own.entered.places_alike conn.end in
      let n = own.entered.each k b f y.0 conn y.1 in
      let same : y.0.flow ≡ x.flow = own.entered.apart k i b a y.0 x conn.end is_a y.1 is_x p.same_flow in
      let one : n.flow ≡ flow = same_flow own.flows y.0.flow x.flow n.flow flow same n.stands stands in
      let ne : x.side ≡ y.0.side → ⊥ = λ e. p.other_role (n.end.role ∙ ap role_of (sym e) ∙ sym m.role) in
      subst (λ (z : Flow). IsEndOf z (opposite x.side) b f) one (subst (λ (z : Side). IsEndOf n.flow z b f) (other_side x.side y.0.side ne) n.end)

  -- so its flow has a far end
  pub has_far : (i k : ℕ) (a b : End) (x : Place) (flow : Flow) → At ends i a → At ends k b → IsPartner a b → slice_get own.places i ≡ Some x → slice_get own.flows x.flow ≡ Some flow → (far : Endpoint) × (flow.far ≡ Some far)
  has_far i k a b x flow is_a is_b p is_x stands =
      let c = beside ends conns i a own.alike is_a in
      let f = beside ends conns k b own.alike is_b in
      let m = end_of_flow i a c.0 x flow (record { end = is_a; ids_are = c.1 }) is_x stands in
      let n = far_end_of_flow i k a b f.0 x flow is_a (record { end = is_b; ids_are = f.1 }) p is_x stands in
      far_of x.side flow m.point n.point m.is n.is

  pub pair : (i k : ℕ) (a b : End) → At ends i a → At ends k b → IsPartner a b → IsPair own.flows own.places i
  pair i k a b is_a is_b p =
      let c = beside ends conns i a own.alike is_a in
      let x = beside ends own.places i a own.entered.places_alike is_a in
      let m = own.entered.each i a c.0 x.0 (record { end = is_a; ids_are = c.1 }) x.1 in
      let far = has_far i k a b x.0 m.flow is_a is_b p x.1 m.stands in
      record { x = x.0; is_x = x.1; flow = m.flow; stands = m.stands; far = far.0; known = far.1 }

  -- the ids of a direction, by a sender that knows its receiver
  pub out_ids : (i : ℕ) (a : End) (c : Ids) (x : Place) (flow : Flow) (far : Endpoint) → IsConn ends conns i a c → a.state ≡ Allocated → slice_get own.places i ≡ Some x → slice_get own.flows x.flow ≡ Some flow → flow.far ≡ Some far → ids_from x.side flow far a.cube ≡ c
  out_ids i a c x flow far conn allocated is_x stands known =
      let m = end_of_flow i a c x flow conn is_x stands in
      sym (m.known far known (m.knows allocated))

  -- and by a receiver that knows its sender
  pub known_ids : (i k : ℕ) (a b : End) (f : Ids) (x : Place) (flow : Flow) (far : Endpoint) → At ends i a → IsConn ends conns k b f → IsPartner a b → Knows (opposite x.side) flow → b.cube ≡ a.cube → slice_get own.places i ≡ Some x → slice_get own.flows x.flow ≡ Some flow → flow.far ≡ Some far → ids_from x.side flow far a.cube ≡ flipped f
  known_ids i k a b f x flow far is_a conn p knows cube is_x stands known =
      let n = far_end_of_flow i k a b f x flow is_a conn p is_x stands in
      let is : flipped f ≡ ids_from x.side flow far b.cube = ap flipped (n.known far known knows) ∙ ids_flipped x.side flow far b.cube in
      sym (is ∙ ap (λ (q : ℕ). ids_from x.side flow far q) cube)

  pub in_ids : (i k : ℕ) (a b : End) (f : Ids) (x : Place) (flow : Flow) (far : Endpoint) → At ends i a → IsConn ends conns k b f → IsPartner a b → b.state ≡ Allocated → b.cube ≡ a.cube → slice_get own.places i ≡ Some x → slice_get own.flows x.flow ≡ Some flow → flow.far ≡ Some far → ids_from x.side flow far a.cube ≡ flipped f
  in_ids i k a b f x flow far is_a conn p allocated cube is_x stands known =
      known_ids i k a b f x flow far is_a conn p ((far_end_of_flow i k a b f x flow is_a conn p is_x stands).knows allocated) cube is_x stands known

  -- two partners that know each other have each other's ids
  pub mirror : (i k : ℕ) (a b : End) (c f : Ids) → IsConn ends conns i a c → IsConn ends conns k b f → IsPartner a b → a.state ≡ Allocated → b.state ≡ Allocated → b.cube ≡ a.cube → f ≡ flipped c
  mirror i k a b c f ax bx p a_up b_up cube =
      let q = pair i k a b ax.end bx.end p in
      let there = out_ids i a c q.x q.flow q.far ax a_up q.is_x q.stands q.known in
      let back = in_ids i k a b f q.x q.flow q.far ax.end bx p b_up cube q.is_x q.stands q.known in
      ap flipped (sym back ∙ there)

  -- an end that stands has its flow in use
  pub out_used : (i : ℕ) (a : End) (c : Ids) (x : Place) (flow : Flow) (far : Endpoint) → IsConn ends conns i a c → a.state ≡ Allocated → slice_get own.places i ≡ Some x → slice_get own.flows x.flow ≡ Some flow → flow.far ≡ Some far → Stands x.side flow far
  out_used i a c x flow far conn allocated is_x stands known = stands_up x.side flow far a c known (end_of_flow i a c x flow conn is_x stands) (is_up a allocated)

  pub in_used : (i k : ℕ) (a b : End) (f : Ids) (x : Place) (flow : Flow) (far : Endpoint) → At ends i a → IsConn ends conns k b f → IsPartner a b → b.state ≡ Allocated → slice_get own.places i ≡ Some x → slice_get own.flows x.flow ≡ Some flow → flow.far ≡ Some far → Stands (opposite x.side) flow far
  in_used i k a b f x flow far is_a conn p allocated is_x stands known = stands_up (opposite x.side) flow far b f known (far_end_of_flow i k a b f x flow is_a conn p is_x stands) (is_up b allocated)

  -- where the guard holds, it is none
  unguarded : (a b : End) (c : Ids) (line : Direction) (U : Type 0) → U → IsDirection g now cloud U a b c line → IsDirection g now cloud (Unit {0}) a b c line
  unguarded a b c line U used d = record {
    cube = d.cube;
    is_cube = d.is_cube;
    backed = guard_backed U (Unit {0}) (constants g d.cube c) now (PiecesOf cloud c) (AcksOf cloud c) line (λ u. used) d.backed;
    sent = d.sent;
    got = d.got;
    passed = d.passed;
  }

  -- the direction in which an allocated end sends
  pub direction_out : (i k : ℕ) (a b : End) (c : Ids) (line : Direction) → IsConn ends conns i a c → At ends k b → slice_get lines i ≡ Some line → IsPartner a b → a.state ≡ Allocated → IsDirection g now cloud (Unit {0}) a b c line
  direction_out i k a b c line conn is_b is_line p allocated =
      let q = pair i k a b conn.end is_b p in
      let flow = own.flows_are i k a b q.x q.flow q.far line conn.end is_b p q.is_x q.stands q.known is_line in
      let is = out_ids i a c q.x q.flow q.far conn allocated q.is_x q.stands q.known in
      let used = used_up now q.x.side q.flow q.far q.known (out_used i a c q.x q.flow q.far conn allocated q.is_x q.stands q.known) in
      subst (λ (z : Ids). IsDirection g now cloud (Unit {0}) a b z line) is (unguarded a b (ids_from q.x.side q.flow q.far a.cube) line (IsInUse now q.flow) used flow.direction)

  -- the direction in which an allocated end receives
  pub direction_in : (i k : ℕ) (a b : End) (f : Ids) (line : Direction) → At ends i a → IsConn ends conns k b f → slice_get lines i ≡ Some line → IsPartner a b → b.state ≡ Allocated → b.cube ≡ a.cube → IsDirection g now cloud (Unit {0}) a b (flipped f) line
  direction_in i k a b f line is_a conn is_line p allocated cube =
      let q = pair i k a b is_a conn.end p in
      let flow = own.flows_are i k a b q.x q.flow q.far line is_a conn.end p q.is_x q.stands q.known is_line in
      let is = in_ids i k a b f q.x q.flow q.far is_a conn p allocated cube q.is_x q.stands q.known in
      let used = used_up now (opposite q.x.side) q.flow q.far q.known (in_used i k a b f q.x q.flow q.far is_a conn p allocated q.is_x q.stands q.known) in
      subst (λ (z : Ids). IsDirection g now cloud (Unit {0}) a b z line) is (unguarded a b (ids_from q.x.side q.flow q.far a.cube) line (IsInUse now q.flow) used flow.direction)

  -- a direction has the clock, and the journals of both its ends, whatever became of them
  pub journals : (i k : ℕ) (a b : End) (line : Direction) → At ends i a → At ends k b → slice_get lines i ≡ Some line → IsPartner a b → HasJournals now a b line
  journals i k a b line is_a is_b is_line p =
      let q = pair i k a b is_a is_b p in
      let d = (own.flows_are i k a b q.x q.flow q.far line is_a is_b p q.is_x q.stands q.known is_line).direction in
      record { clock = d.backed.clock; sent = d.sent; got = d.got; passed = d.passed }

  -- where an address and a CEP-id are those of one end alone, what may still come with them shows that its flow is in use
  module _ (i : ℕ) (e : End) (c : Ids) (conn : IsConn ends conns i e c) (x : Place) (flow : Flow) (is_x : slice_get own.places i ≡ Some x) (stands : slice_get own.flows x.flow ≡ Some flow) (alone : (j : ℕ) (a : End) (f : Ids) → IsConn ends conns j a f → f.own ≡ c.own → f.scep ≡ c.scep → j ≡ i) where
    -- a flow with such an end is this one
    one_flow : (n : ℕ) (f : Flow) (side : Side) (point : Endpoint) → slice_get own.flows n ≡ Some f → end_at side f ≡ Some point → point.addr ≡ c.own → point.cep ≡ c.scep → f ≡ flow
    one_flow n f side point at is addr cep =
        let place = own.entered.all n side f point at is in
        let a = beside own.places ends place.0 (record { flow = n; side = side }) (sym own.entered.places_alike) place.1 in
        let its = beside ends conns place.0 a.0 own.alike a.1 in
        let its_conn : IsConn ends conns place.0 a.0 its.0 = record { end = a.1; ids_are = its.1 } in
        let m = end_of_flow place.0 a.0 its.0 (record { flow = n; side = side }) f its_conn place.1 at in
        let same : m.point ≡ point = same_Some m.point point (sym m.is ∙ is) in
        let j_is = alone place.0 a.0 its.0 its_conn (m.own ∙ ap (λ (z : Endpoint). z.addr) same ∙ addr) (m.scep ∙ ap (λ (z : Endpoint). z.cep) same ∙ cep) in
        let there : slice_get own.places i ≡ Some (record { flow = n; side = side }) = subst (λ (k : ℕ). slice_get own.places k ≡ Some (record { flow = n; side = side })) j_is place.1 in
        let x_is : record { flow = n; side = side } ≡ x = cc in
        same_flow own.flows n x.flow f flow (ap (λ (z : Place). z.flow) x_is) at stands

    -- as the source or as the destination
    named_flow : (n : ℕ) (f : Flow) (far : Endpoint) (side : Side) (four : Four) → slice_get own.flows n ≡ Some f → f.far ≡ Some far → GoesFrom side f.asker far four → ((four.src ≡ c.own) × (four.scep ≡ c.scep)) ⊎ ((four.dst ≡ c.own) × (four.dcep ≡ c.scep)) → f ≡ flow
    named_flow n f far Asker four at known goes (inl h) = one_flow n f Asker f.asker at refl (sym goes.0 ∙ h.0) (sym goes.1 ∙ h.1)
    named_flow n f far Asker four at known goes (inr h) = one_flow n f Far far at known (sym goes.2 ∙ h.0) (sym goes.3 ∙ h.1)
    named_flow n f far Far four at known goes (inl h) = one_flow n f Far far at known (sym goes.0 ∙ h.0) (sym goes.1 ∙ h.1)
    named_flow n f far Far four at known goes (inr h) = one_flow n f Asker f.asker at refl (sym goes.2 ∙ h.0) (sym goes.3 ∙ h.1)

    pub named_used : (death : ℕ) (pdu : Pdu) → cloud death pdu → now ≤ death → IsOfFlow g pdu → ((pdu.src ≡ c.own) × (pdu.scep ≡ c.scep)) ⊎ ((pdu.dst ≡ c.own) × (pdu.dcep ≡ c.scep)) → IsInUse now flow
    named_used death pdu comes alive of_flow names =
        let a = own.ledger.alive death (four_in pdu) (record { pdu = pdu; in_cloud = comes; flow = of_flow; is = refl }) alive in
        let o = a.3 in
        subst (λ (z : Flow). IsInUse now z) (named_flow a.0 a.1 o.far o.side (four_in pdu) a.2 o.known o.goes names) (used_by now a.1 death (four_in pdu) alive o)

  -- so the direction from that end stands behind its part of the cloud for good
  pub direction_alone : (i k : ℕ) (a b : End) (c : Ids) (line : Direction) → IsConn ends conns i a c → At ends k b → slice_get lines i ≡ Some line → IsPartner a b → a.state ≡ Allocated ⊎ ((x : Place) (flow : Flow) → slice_get own.places i ≡ Some x → slice_get own.flows x.flow ≡ Some flow → Knows x.side flow)
      → ((j : ℕ) (e : End) (f : Ids) → IsConn ends conns j e f → f.own ≡ c.own → f.scep ≡ c.scep → j ≡ i) → IsDirection g now cloud (Unit {0}) a b c line
  direction_alone i k a b c line conn is_b is_line p knows alone =
      let q = pair i k a b conn.end is_b p in
      let m = end_of_flow i a c q.x q.flow conn q.is_x q.stands in
      let known : Knows q.x.side q.flow = elim knows [ inl allocated ↦ m.knows allocated | inr all ↦ all q.x q.flow q.is_x q.stands ] in
      let is : ids_from q.x.side q.flow q.far a.cube ≡ c = sym (m.known q.far q.known known) in
      let d : IsDirection g now cloud (IsInUse now q.flow) a b c line = subst (λ (z : Ids). IsDirection g now cloud (IsInUse now q.flow) a b z line) is (own.flows_are i k a b q.x q.flow q.far line conn.end is_b p q.is_x q.stands q.known is_line).direction in
      let used : (death : ℕ) (pdu : Pdu) → cloud death pdu → now ≤ death → pdu.qos ≡ c.qos → ((pdu.src ≡ c.own) × (pdu.scep ≡ c.scep)) ⊎ ((pdu.dst ≡ c.own) × (pdu.dcep ≡ c.scep)) → IsInUse now q.flow = λ death pdu comes alive qos names.
      named_used i a c conn q.x q.flow q.is_x q.stands alone death pdu comes alive (inr (d.cube, subst (λ (n : ℕ). cube_by n g.cubes ≡ Some d.cube) (sym qos) d.is_cube)) names in
      record {
        cube = d.cube;
        is_cube = d.is_cube;
        backed = if_backed (Unit {0}) (constants g d.cube c) now (PiecesOf cloud c) (AcksOf cloud c) line
            (full_backed (IsInUse now q.flow) (constants g d.cube c) now (PiecesOf cloud c) (AcksOf cloud c) line
            (λ death piece y alive. used death y.pdu y.in_cloud alive y.from.qos (inl (y.from.src, y.from.scep)))
            (λ death ack y alive. used death y.pdu y.in_cloud alive y.from.qos (inr (y.from.dst, y.from.dcep))) d.backed);
        sent = d.sent;
        got = d.got;
        passed = d.passed;
      }

  -- of ends that are allocated, one alone has an address and a CEP-id
  pub one_up : (i k : ℕ) (a b : End) (c f : Ids) → IsConn ends conns i a c → IsConn ends conns k b f → a.state ≡ Allocated → b.state ≡ Allocated → c.own ≡ f.own → c.scep ≡ f.scep → i ≡ k
  one_up i k a b c f ax bx a_up b_up own_is scep_is =
      let x = beside ends own.places i a own.entered.places_alike ax.end in
      let y = beside ends own.places k b own.entered.places_alike bx.end in
      let m = own.entered.each i a c x.0 ax x.1 in
      let n = own.entered.each k b f y.0 bx y.1 in
      let same : HasSameId m.end.point n.end.point = (sym m.end.own ∙ own_is ∙ n.end.own, sym m.end.scep ∙ scep_is ∙ n.end.scep) in
      let flow = own.ledger.ids x.0.flow y.0.flow m.flow n.flow x.0.side y.0.side m.end.point n.end.point m.stands n.stands m.end.is n.end.is same
      (unended m.flow.rest now m.end.point.ended (m.end.up (is_up a a_up))) (unended n.flow.rest now n.end.point.ended (n.end.up (is_up b b_up))) in
      let one : n.flow ≡ m.flow = sym (same_flow own.flows x.0.flow y.0.flow m.flow n.flow flow m.stands n.stands) in
      let side = one_side now m.flow x.0.side y.0.side m.end.point n.end.point (own.ledger.flow x.0.flow m.flow m.stands) m.end.is (subst (λ (z : Flow). end_at y.0.side z ≡ Some n.end.point) one n.end.is) same.0 in
      own.entered.once i k x.0 y.0 x.1 y.1 flow side

  module _ (cloud' : ℕ → Pdu → Type 0) where
    -- what a direction that does not change keeps as the cloud does
    abbrev pub Carries : ℕ → Type 0
    Carries i = (a b : End) (x : Place) (flow : Flow) (far : Endpoint) (line : Direction) → slice_get own.places i ≡ Some x → slice_get own.flows x.flow ≡ Some flow → flow.far ≡ Some far → IsFlow g now cloud flow far x.side a b (ids_from x.side flow far a.cube) line → IsFlow g now cloud' flow far x.side a b (ids_from x.side flow far a.cube) line

    pub carries_covered : Covers now cloud cloud' → (i : ℕ) → Carries i
    carries_covered covers i a b x flow far line is_x stands known h = flow_recovered g now cloud cloud' flow far x.side a b (ids_from x.side flow far a.cube) line covers h

    pub ledger_covered : Covers now cloud cloud' → LedgerHolds now own.flows (Naming (IsOfFlow g) cloud')
    ledger_covered covers = cloud_holds now own.flows (Naming (IsOfFlow g) cloud) (Naming (IsOfFlow g) cloud') (naming_covers (IsOfFlow g) now cloud cloud' covers) own.ledger

    -- nothing of the own journal changes
    pub own_recovered : Covers now cloud cloud' → IsOwn g now cloud' held ends conns lines
    own_recovered covers = record {
      alike = own.alike;
      lines_alike = own.lines_alike;
      flows = own.flows;
      places = own.places;
      entered = own.entered;
      ledger = ledger_covered covers;
      rests = own.rests;
      kept = own.kept;
      ids = own.ids;
      flows_are = λ i k a b x flow far line ha hb p is_x stands known z. carries_covered covers i a b x flow far line is_x stands known (own.flows_are i k a b x flow far line ha hb p is_x stands known z);
    }

    -- PDUs are made that are of no flow
    pub own_no_flow : (made : Pdu → Type 0) (life : ℕ) → CoversBut now cloud made life cloud' → ((pdu : Pdu) → made pdu → IsOfFlow g pdu → ⊥) → IsOwn g now cloud' held ends conns lines
    own_no_flow made life covers none = record {
      alike = own.alike;
      lines_alike = own.lines_alike;
      flows = own.flows;
      places = own.places;
      entered = own.entered;
      ledger = cloud_holds now own.flows (Naming (IsOfFlow g) cloud) (Naming (IsOfFlow g) cloud') (λ death four x alive. elim (covers death x.pdu x.in_cloud alive) [
        | inl o ↦ (o.0, o.1, record { pdu = x.pdu; in_cloud = o.2; flow = x.flow; is = x.is })
        | inr n ↦ absurd (none x.pdu n.0 x.flow)
      ]) own.ledger;
      rests = own.rests;
      kept = own.kept;
      ids = own.ids;
      flows_are = λ i k a b x flow far line ha hb p is_x stands known z.
          (let h = own.flows_are i k a b x flow far line ha hb p is_x stands known z in
          let c : Ids = ids_from x.side flow far a.cube in
          let V : Type 0 = IsInUse now flow in
          let other : (pdu : Pdu) → made pdu → pdu.qos ≡ c.qos → ⊥ = λ pdu m qos. none pdu m (inr (h.direction.cube, subst (λ (n : ℕ). cube_by n g.cubes ≡ Some h.direction.cube) (sym qos) h.direction.is_cube)) in
          flow_redirected g now cloud cloud' flow far x.side a b a b c line h (flow_kept g now cloud cloud' V V a b a b c line (λ v. v)
          (guarded_covers V now (PiecesOf cloud c) (PiecesOf cloud' c) (pieces_apart now cloud cloud' c made life covers (λ pdu m kind from. other pdu m from.qos)))
          (guarded_covers V now (AcksOf cloud c) (AcksOf cloud' c) (acks_apart now cloud cloud' c made life covers (λ pdu m kind from. other pdu m from.qos)))
          refl refl refl h.direction));
    }

    -- PDUs are made by an end that stands, of the flow of the direction from a place: pieces on it, or acknowledgements on its
    -- way back
    module _ (from : ℕ) (z : Place) (flow : Flow) (far : Endpoint) (is_z : slice_get own.places from ≡ Some z) (stands : slice_get own.flows z.flow ≡ Some flow) (known : flow.far ≡ Some far) (s : Side) (up : Stands s flow far) (made : Pdu → Type 0) (life : ℕ) (covers : CoversBut now cloud made life cloud') where
      pub ledger_made : (s ≡ Asker → flow.told ≡ true) → life < now + flow.rest → ((pdu : Pdu) → made pdu → GoesFrom s flow.asker far (four_in pdu)) → LedgerHolds now own.flows (Naming (IsOfFlow g) cloud')
      ledger_made told short goes = send_holds now own.flows (Naming (IsOfFlow g) cloud) (Naming (IsOfFlow g) cloud') z.flow flow far s (λ four. GoesFrom s flow.asker far four) life own.ledger stands known up told (λ four x. x) short
          (naming_covers_but (IsOfFlow g) now cloud cloud' made (λ four. GoesFrom s flow.asker far four) life (λ pdu of m. goes pdu m) covers)

      -- a PDU that goes on two connections in use shows that they are one, and the sides are the same
      same_way : (i : ℕ) (x : Place) (other : Flow) (far' : Endpoint) (v : IsInUse now other) (t t' : Side) (four : Four) → slice_get own.flows x.flow ≡ Some other → other.far ≡ Some far' → GoesFrom t other.asker far' four → GoesFrom t' flow.asker far four → (x.flow ≡ z.flow) × (t ≡ t')
      same_way i x other far' v t t' four at far_is goes goes' =
          let is : far' ≡ v.far = same_Some far' v.far (sym far_is ∙ v.known) in
          one_flow_and_side now own.flows (Naming (IsOfFlow g) cloud) x.flow z.flow other flow t t' v (used_up now s flow far known up) four own.ledger at stands (subst (λ (e : Endpoint). GoesFrom t other.asker e four) is goes) goes'

      -- the other directions are covered
      pub carries_made : ((pdu : Pdu) → made pdu → ((pdu.kind ≡ APiece) × GoesFrom z.side flow.asker far (four_in pdu)) ⊎ ((pdu.kind ≡ AnAck) × GoesFrom (opposite z.side) flow.asker far (four_in pdu))) → (i : ℕ) → i ≢ from → Carries i
      carries_made tells i ne a b x other far' line is_x at far_is h =
          let c : Ids = ids_from x.side other far' a.cube in
          let V : Type 0 = IsInUse now other in
          flow_redirected g now cloud cloud' other far' x.side a b a b c line h (flow_kept g now cloud cloud' V V a b a b c line (λ v. v)
          (λ death p y alive. elim (covers death y.1.pdu y.1.in_cloud alive) [
            | inl o ↦ (o.0, o.1, (y.0, record { pdu = y.1.pdu; in_cloud = o.2; kind = y.1.kind; from = y.1.from; is = y.1.is }))
            | inr n ↦ elim (tells y.1.pdu n.0) [
              | inl t ↦
                  (let w = same_way i x other far' y.0 x.side z.side (four_in y.1.pdu) at far_is (goes_from x.side other far' a.cube y.1.pdu y.1.from) t.1 in
                  absurd (ne (own.entered.once i from x z is_x is_z w.0 w.1)))
              | inr t ↦ absurd (kinds_differ y.1.pdu y.1.kind t.0)
            ]
          ])
          (λ death p y alive. elim (covers death y.1.pdu y.1.in_cloud alive) [
            | inl o ↦ (o.0, o.1, (y.0, record { pdu = y.1.pdu; in_cloud = o.2; kind = y.1.kind; from = y.1.from; is = y.1.is }))
            | inr n ↦ elim (tells y.1.pdu n.0) [
              | inl t ↦ absurd (kinds_differ y.1.pdu t.0 y.1.kind)
              | inr t ↦
                  (let w = same_way i x other far' y.0 (opposite x.side) (opposite z.side) (four_in y.1.pdu) at far_is (goes_back x.side other far' a.cube y.1.pdu y.1.from) t.1 in
                  absurd (ne (own.entered.once i from x z is_x is_z w.0 (opposite_same x.side z.side w.1))))
            ]
          ]) refl refl refl h.direction)

    -- a direction alone changes
    pub own_line : (from : ℕ) (line line' : Direction) → slice_get lines from ≡ Some line → LedgerHolds now own.flows (Naming (IsOfFlow g) cloud')
        → ((k : ℕ) (a b : End) (x : Place) (flow : Flow) (far : Endpoint) → At ends from a → At ends k b → IsPartner a b → slice_get own.places from ≡ Some x → slice_get own.flows x.flow ≡ Some flow → flow.far ≡ Some far → IsFlow g now cloud flow far x.side a b (ids_from x.side flow far a.cube) line → IsFlow g now cloud' flow far x.side a b (ids_from x.side flow far a.cube) line')
        → ((i : ℕ) → i ≢ from → Carries i)
        → IsOwn g now cloud' held ends conns (slice_set lines from line')
    own_line from line line' is_line ledger main other = record {
      alike = own.alike;
      lines_alike = length-set lines from line' ∙ own.lines_alike;
      flows = own.flows;
      places = own.places;
      entered = own.entered;
      ledger = ledger;
      rests = own.rests;
      kept = own.kept;
      ids = own.ids;
      flows_are = λ i k a b x flow far m ha hb p is_x stands known z. elim (set_at lines from i line line' m is_line z) [
        | inl u ↦
            let ha' : At ends from a = subst (λ (n : ℕ). At ends n a) u.0 ha in
            let is_x' : slice_get own.places from ≡ Some x = subst (λ (n : ℕ). slice_get own.places n ≡ Some x) u.0 is_x in
            subst (λ (v : Direction). IsFlow g now cloud' flow far x.side a b (ids_from x.side flow far a.cube) v) (sym u.1) (main k a b x flow far ha' hb p is_x' stands known (own.flows_are from k a b x flow far line ha' hb p is_x' stands known is_line))
        | inr u ↦ other i u.0 a b x flow far m is_x stands known (own.flows_are i k a b x flow far m ha hb p is_x stands known u.1)
      ];
    }

    -- an end changes, but not its state
    module _ (at : ℕ) (e e' : End) (is : At ends at e) (const : IsConst e e') (state : e'.state ≡ e.state) where
      -- an end after the change with its ids: the changed one, or another
      pub conn_cases : (i : ℕ) (a : End) (c : Ids) → IsConn (slice_set ends at e') conns i a c → ((i ≡ at) × (a ≡ e') × IsConn ends conns at e c) ⊎ ((i ≢ at) × IsConn ends conns i a c)
      conn_cases i a c h = elim (set_at ends at i e e' a is h.end) [
        | inl t ↦ inl (t.0, t.1, record { end = is; ids_are = subst (λ (n : ℕ). slice_get conns n ≡ Some c) t.0 h.ids_are })
        | inr f ↦ inr (f.0, record { end = f.1; ids_are = h.ids_are })
      ]

      -- while its flow has no far end it sent nothing
      abbrev StillUnsent : Type 0
      StillUnsent = (x : Place) (flow : Flow) → slice_get own.places at ≡ Some x → slice_get own.flows x.flow ≡ Some flow → flow.far ≡ None → e'.sent ≡ []

      unsent_same : e'.sent ≡ e.sent → StillUnsent
      unsent_same same x flow is_x stands none = (let c = beside ends conns at e own.alike is in same ∙ (end_of_flow at e c.0 x flow (record { end = is; ids_are = c.1 }) is_x stands).unsent none)

      entered_set : StillUnsent → AreEntered (slice_set ends at e') conns own.flows own.places
      entered_set unsent = record {
        places_alike = own.entered.places_alike ∙ sym (length-set ends at e');
        each = λ i a c x conn is_x. elim (conn_cases i a c conn) [
          | inl t ↦
              (let there = subst (λ (n : ℕ). slice_get own.places n ≡ Some x) t.0 is_x in
              let m = own.entered.each at e c x t.2 there in
              record { flow = m.flow; stands = m.stands; end = subst (λ (z : End). IsEndOf m.flow x.side z c) (sym t.1) (end_const m.flow x.side e e' c const state (unsent x m.flow there m.stands) m.end) })
          | inr f ↦ own.entered.each i a c x f.1 is_x
        ];
        once = own.entered.once;
        named = named_set ends conns own.flows own.places own.entered at e e' is const;
        apart = apart_set ends conns own.flows own.places own.entered at e e' is const;
        all = own.entered.all;
      }

      own_set : (lines' : List Direction) → length lines' ≡ length lines → StillUnsent → LedgerHolds now own.flows (Naming (IsOfFlow g) cloud')
          → ((i k : ℕ) (a b : End) (x : Place) (flow : Flow) (far : Endpoint) (line : Direction) → At (slice_set ends at e') i a → At (slice_set ends at e') k b → IsPartner a b → slice_get own.places i ≡ Some x → slice_get own.flows x.flow ≡ Some flow → flow.far ≡ Some far → slice_get lines' i ≡ Some line → IsFlow g now cloud' flow far x.side a b (ids_from x.side flow far a.cube) line)
          → IsOwn g now cloud' held (slice_set ends at e') conns lines'
      own_set lines' alike unsent ledger flows_are = record {
        alike = own.alike ∙ sym (length-set ends at e');
        lines_alike = alike ∙ own.lines_alike ∙ sym (length-set ends at e');
        flows = own.flows;
        places = own.places;
        entered = entered_set unsent;
        ledger = ledger;
        rests = rests_set g ends own.flows own.places at e e' is const own.rests;
        kept = own.kept;
        ids = ids_set g ends conns at e e' is const own.ids;
        flows_are = flows_are;
      }

      -- in what it got and took an end is as it was
      was_got : e'.got ≡ e.got → e'.taken ≡ e.taken → (k : ℕ) (b : End) → At (slice_set ends at e') k b → (o : End) × At ends k o × IsConst o b × (b.got ≡ o.got) × (b.taken ≡ o.taken)
      was_got got taken k b h = elim (set_at ends at k e e' b is h) [
        | inl t ↦ (e, ap (slice_get ends) t.0 ∙ is, subst (IsConst e) (sym t.1) const, ap (λ (z : End). z.got) t.1 ∙ got, ap (λ (z : End). z.taken) t.1 ∙ taken)
        | inr f ↦ (b, f.1, const_refl b, refl, refl)
      ]

      was_sent : e'.sent ≡ e.sent → (k : ℕ) (b : End) → At (slice_set ends at e') k b → (o : End) × At ends k o × IsConst o b × (b.sent ≡ o.sent)
      was_sent sent k b h = elim (set_at ends at k e e' b is h) [
        | inl t ↦ (e, ap (slice_get ends) t.0 ∙ is, subst (IsConst e) (sym t.1) const, ap (λ (z : End). z.sent) t.1 ∙ sent)
        | inr f ↦ (b, f.1, const_refl b, refl)
      ]

      -- the end and the direction in which it sends
      pub own_sent : (line line' : Direction) → slice_get lines at ≡ Some line → e'.got ≡ e.got → e'.taken ≡ e.taken → StillUnsent → LedgerHolds now own.flows (Naming (IsOfFlow g) cloud')
          → ((k : ℕ) (b : End) (x : Place) (flow : Flow) (far : Endpoint) → At ends k b → IsPartner e b → slice_get own.places at ≡ Some x → slice_get own.flows x.flow ≡ Some flow → flow.far ≡ Some far → IsFlow g now cloud flow far x.side e b (ids_from x.side flow far e.cube) line → IsFlow g now cloud' flow far x.side e' b (ids_from x.side flow far e.cube) line')
          → ((i : ℕ) → i ≢ at → Carries i)
          → IsOwn g now cloud' held (slice_set ends at e') conns (slice_set lines at line')
      own_sent line line' is_line got taken unsent ledger main other = own_set (slice_set lines at line') (length-set lines at line') unsent ledger (λ i k a b x flow far m ha hb p is_x stands known z.
          let r = was_got got taken k b hb in
          elim (set_at ends at i e e' a is ha) [
            | inl s ↦
                let m_is : m ≡ line' = (let z' = subst (λ (n : ℕ). slice_get (slice_set lines at line') n ≡ Some m) s.0 z in let there = slice_get-set_same lines at line line' is_line in cc) in
                let is_x' : slice_get own.places at ≡ Some x = subst (λ (n : ℕ). slice_get own.places n ≡ Some x) s.0 is_x in
                let p' : IsPartner e r.0 = partner_was e r.0 e' b const r.2 (subst (λ (v : End). IsPartner v b) s.1 p) in
                let new = main k r.0 x flow far r.1 p' is_x' stands known (own.flows_are at k e r.0 x flow far line is r.1 p' is_x' stands known is_line) in
                let cube : e.cube ≡ a.cube = sym const.cube ∙ ap (λ (v : End). v.cube) (sym s.1) in
                subst (λ (v : Direction). IsFlow g now cloud' flow far x.side a b (ids_from x.side flow far a.cube) v) (sym m_is)
                (flow_moved g now cloud' flow far x.side e' r.0 a b (ids_from x.side flow far e.cube) (ids_from x.side flow far a.cube) line' (ap (λ (q : ℕ). ids_from x.side flow far q) cube) (ap (λ (v : End). v.sent) s.1) r.3 r.4 new)
            | inr s ↦ elim (set_at lines at i line line' m is_line z) [
              | inl u ↦ absurd (s.0 u.0)
              | inr u ↦
                  let p' : IsPartner a r.0 = partner_was a r.0 a b (const_refl a) r.2 p in
                  flow_moved g now cloud' flow far x.side a r.0 a b (ids_from x.side flow far a.cube) (ids_from x.side flow far a.cube) m refl refl r.3 r.4
                  (other i s.0 a r.0 x flow far m is_x stands known (own.flows_are i k a r.0 x flow far m s.1 r.1 p' is_x stands known u.1))
            ]
          ])

      -- the end and the direction in which it receives, which is that of its partner
      pub own_received : IsJournal now ends → (from : ℕ) (partner : End) → At ends from partner → IsPartner partner e → (line line' : Direction) → slice_get lines from ≡ Some line → e'.sent ≡ e.sent → Covers now cloud cloud'
          → ((x : Place) (flow : Flow) (far : Endpoint) → slice_get own.places from ≡ Some x → slice_get own.flows x.flow ≡ Some flow → flow.far ≡ Some far → IsFlow g now cloud flow far x.side partner e (ids_from x.side flow far partner.cube) line → IsFlow g now cloud' flow far x.side partner e' (ids_from x.side flow far partner.cube) line')
          → IsOwn g now cloud' held (slice_set ends at e') conns (slice_set lines from line')
      own_received journal from partner is_partner partners line line' is_line sent covers main = own_set (slice_set lines from line') (length-set lines from line') (unsent_same sent) (ledger_covered covers) (λ i k a b x flow far m ha hb p is_x stands known z.
          let l = was_sent sent i a ha in
          let r = was_end ends at e e' is const k b hb in
          let p' : IsPartner l.0 r.0 = partner_was l.0 r.0 a b l.2 r.2 p in
          let cube : ids_from x.side flow far l.0.cube ≡ ids_from x.side flow far a.cube = ap (λ (q : ℕ). ids_from x.side flow far q) (sym l.2.cube) in
          elim (set_at lines from i line line' m is_line z) [
            | inl u ↦
                let l_at : At ends from l.0 = subst (λ (n : ℕ). At ends n l.0) u.0 l.1 in
                let l_is : l.0 ≡ partner = cc in
                let k_is : k ≡ at = one_partner now ends k at r.0 e partner journal r.1 is (partner_back partner r.0 (subst (λ (v : End). IsPartner v r.0) l_is p')) (partner_back partner e partners) in
                let b_is : b ≡ e' = (let here = subst (λ (n : ℕ). At (slice_set ends at e') n b) k_is hb in let there = slice_get-set_same ends at e e' is in cc) in
                let is_x' : slice_get own.places from ≡ Some x = subst (λ (n : ℕ). slice_get own.places n ≡ Some x) u.0 is_x in
                let new = main x flow far is_x' stands known (own.flows_are from at partner e x flow far line is_partner is partners is_x' stands known is_line) in
                let same : ids_from x.side flow far partner.cube ≡ ids_from x.side flow far a.cube = ap (λ (v : End). ids_from x.side flow far v.cube) (sym l_is) ∙ cube in
                subst (λ (v : Direction). IsFlow g now cloud' flow far x.side a b (ids_from x.side flow far a.cube) v) (sym u.1)
                (flow_moved g now cloud' flow far x.side partner e' a b (ids_from x.side flow far partner.cube) (ids_from x.side flow far a.cube) line' same (l.3 ∙ ap (λ (v : End). v.sent) l_is) (ap (λ (v : End). v.got) b_is) (ap (λ (v : End). v.taken) b_is) new)
            | inr u ↦ elim (set_at ends at k e e' b is hb) [
              | inl t ↦
                  let r_at : At ends at r.0 = subst (λ (n : ℕ). At ends n r.0) t.0 r.1 in
                  let r_is : r.0 ≡ e = cc in
                  absurd (u.0 (one_partner now ends i from l.0 partner e journal l.1 is_partner (subst (λ (v : End). IsPartner l.0 v) r_is p') partners))
              | inr t ↦
                  let p'' : IsPartner l.0 b = partner_was l.0 b a b l.2 (const_refl b) p in
                  flow_moved g now cloud' flow far x.side l.0 b a b (ids_from x.side flow far l.0.cube) (ids_from x.side flow far a.cube) m cube l.3 refl refl
                  (carries_covered covers i l.0 b x flow far m is_x stands known (own.flows_are i k l.0 b x flow far m l.1 t.1 p'' is_x stands known u.1))
            ]
          ])

pub own_covered : (g : Config) (now : ℕ) (cloud cloud' : ℕ → Pdu → Type 0) (held : List CepIds) (ends : List End) (conns : List Ids) (lines : List Direction) → IsOwn g now cloud held ends conns lines → Covers now cloud cloud' → IsOwn g now cloud' held ends conns lines
own_covered g now cloud cloud' held ends conns lines own covers = own_recovered g now cloud held ends conns lines own cloud' covers

mapped : {X Y : Type 0} → (h : X → Y) (o : Option X) (y : Y) → option_map h o ≡ Some y → (x : X) × (o ≡ Some x) × (y ≡ h x)
mapped h None y e = cc
mapped h (Some x) y e = (x, refl, cc)

pub map_at : {X Y : Type 0} → (h : X → Y) (xs : List X) (i : ℕ) (y : Y) → slice_get (map h xs) i ≡ Some y → (x : X) × (slice_get xs i ≡ Some x) × (y ≡ h x)
map_at h xs i y e = mapped h (slice_get xs i) y (sym (slice_get-map h xs i) ∙ e)

-- time goes on in a direction
flow_later : (g : Config) (now later : ℕ) (cloud cloud' : ℕ → Pdu → Type 0) (flow : Flow) (far : Endpoint) (side : Side) (a b : End) (c : Ids) (line : Direction) → now ≤ later → Covers later cloud cloud' → IsFlow g now cloud flow far side a b c line → IsFlow g later cloud' flow far side a b c (ticked (later - now) line)
flow_later g now later cloud cloud' flow far side a b c line le covers h =
    let line' : Direction = ticked (later - now) line in
    let d = flow_ticked g now later cloud cloud' (IsInUse now flow) (IsInUse later flow) a b c line (λ u. used_before now later flow le u) le covers h.direction in
    let same : h.direction.cube ≡ d.cube = (let old = h.direction.is_cube in let new = d.is_cube in cc) in
    record {
      direction = d;
      from = subst (λ (x : _). IsDirectionFrom (constants g x c) side flow far line') same (from_still (constants g h.direction.cube c) side flow far line line' refl h.from);
      untold = subst (λ (x : _). IsUntold (constants g x c) side flow line') same (ticked_untold side (constants g h.direction.cube c) flow line (later - now) h.untold);
    }

-- time goes on in each direction
pub own_ticked : (g : Config) (now later : ℕ) (cloud cloud' : ℕ → Pdu → Type 0) (held : List CepIds) (ends : List End) (conns : List Ids) (lines : List Direction) → now ≤ later → Covers later cloud cloud' → IsOwn g now cloud held ends conns lines → IsOwn g later cloud' held ends conns (map (ticked (later - now)) lines)
own_ticked g now later cloud cloud' held ends conns lines le covers own = record {
  alike = own.alike;
  lines_alike = length-map lines (ticked (later - now)) ∙ own.lines_alike;
  flows = own.flows;
  places = own.places;
  entered = own.entered;
  ledger = cloud_holds later own.flows (Naming (IsOfFlow g) cloud) (Naming (IsOfFlow g) cloud') (naming_covers (IsOfFlow g) later cloud cloud' covers) (time_holds now later own.flows (Naming (IsOfFlow g) cloud) le own.ledger);
  rests = own.rests;
  kept = λ i member its is_member are_its. time_keeps_slots now later own.flows member.addr its.1 le (own.kept i member its is_member are_its);
  ids = own.ids;
  flows_are = λ i k a b x flow far m ha hb p is_x stands known z.
      let o = map_at (ticked (later - now)) lines i m z in
      subst (λ (v : Direction). IsFlow g later cloud' flow far x.side a b (ids_from x.side flow far a.cube) v) (sym o.2) (flow_later g now later cloud cloud' flow far x.side a b (ids_from x.side flow far a.cube) o.0 le covers (own.flows_are i k a b x flow far o.0 ha hb p is_x stands known o.1));
}
