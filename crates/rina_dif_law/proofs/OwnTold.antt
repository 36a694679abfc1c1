-- The answer comes to an asker that waits: its end is allocated, and knows the id of the far end. No direction changes.
use Rattle.std.proofs.Common.{◌≡◌, ◌≢◌, ℕ, ◌⊎◌, true, false, List, length-set, slice_get, slice_set, None, Some, refl, sym, ◌∙◌, ap, subst, inl, inr}
use Rattle.std.proofs.lemmas.Bool.{cases_eq}
use Rattle.std.proofs.lemmas.Option.{none-some, same_Some}
use Rattle.rina_base.specs.declared.pdu.Pdu.{Pdu}
use Rattle.rina_iface.specs.declared.ends.End.{End}
use Rattle.rina_iface.specs.declared.state.PortState.TheVariants.{Allocated, Pending}
use Rattle.rina_iface.specs.Journal.{At, IsPartner}
use Rattle.rina_iface.proofs.Changed.{set_at}
use Rattle.rina_law.specs.Constants.{Constants}
use Rattle.rina_law.specs.Direction.{Direction}
use Rattle.rina_rest.specs.Flows.{Asker, Endpoint, Far, Flow, IsInUse, Side, end_at}
use Rattle.rina_rest.specs.Ledger.{LedgerHolds, put, told_flow}
use Rattle.rina_rest.specs.Naming.{Naming}
use Rattle.rina_rest.specs.While.{IsDirectionFrom}
use Rattle.rina_rest.proofs.Lists.{IsChanged, new_or_old, put_changed}
use Rattle.rina_rest.proofs.Rows.{tell_holds}
use Rattle.rina_rest.proofs.While.{guard_backed}
use Rattle.rina_data.specs.Configs.{Config}
use Rattle.rina_ids.specs.Members.{CepIds}
use Rattle.rina_dif_law.specs.CepIds.{AreHeld}
use Rattle.rina_dif_law.specs.Dif.{constants}
use Rattle.rina_dif_law.specs.Ids.{AcksOf, Ids, PiecesOf}
use Rattle.rina_dif_law.specs.Places.{IsEndOf, IsEntered, IsUp, Place, ids_from}
use Rattle.rina_dif_law.specs.Standing.{AreEntered, AreIds, IsConn, IsFlow, IsOfFlow, IsOwn, IsUntold, RestsBy}
use Rattle.rina_dif_law.proofs.Finding.{beside}
use Rattle.rina_dif_law.proofs.Flows.{flow_moved}
use Rattle.rina_dif_law.proofs.Journals.{IsConst, was_end}
use Rattle.rina_dif_law.proofs.Own.{apart_set, end_of_flow, end_on, named_set}
use Rattle.rina_dif_law.proofs.OwnEnds.{same_whole}

-- the asker's end waits, and the far end of its flow is made
pub record IsAnswered (ends : List End) (flows : List Flow) (places : List Place) (at : ℕ) (e : End) : Type 0 where
  pub here : At ends at e
  pub waits : e.state ≡ Pending
  pub x : Place
  pub is_x : slice_get places at ≡ Some x
  pub side : x.side ≡ Asker
  pub flow : Flow
  pub stands : slice_get flows x.flow ≡ Some flow
  pub far : Endpoint
  pub known : flow.far ≡ Some far

untold_told : (k : Constants) (side : Side) (f : Flow) (line : Direction) → IsUntold k side (told_flow f) line
untold_told k Asker f line = λ told. absurd (let clash : true ≡ false = told in cc)
untold_told k Far f line = λ told. absurd (let clash : true ≡ false = told in cc)

from_told : (k : Constants) (side : Side) (f : Flow) (far : Endpoint) (line : Direction) → IsDirectionFrom k side f far line → IsDirectionFrom k side (told_flow f) far line
from_told k Asker f far line from = record { cube = from.cube; rest = from.rest; ended = from.ended }
from_told k Far f far line from = record { cube = from.cube; rest = from.rest; ended = from.ended }

ids_told : (side : Side) (f : Flow) (far : Endpoint) (qos : ℕ) → ids_from side f far qos ≡ ids_from side (told_flow f) far qos
ids_told Asker f far qos = refl
ids_told Far f far qos = refl

end_told : (side : Side) (f : Flow) (point : Endpoint) → end_at side (told_flow f) ≡ Some point → end_at side f ≡ Some point
end_told Asker f point is = is
end_told Far f point is = is

flow_told : (g : Config) (now : ℕ) (cloud : ℕ → Pdu → Type 0) (f : Flow) (far : Endpoint) (side : Side) (a b : End) (qos : ℕ) (line : Direction) → IsFlow g now cloud f far side a b (ids_from side f far qos) line → IsFlow g now cloud (told_flow f) far side a b (ids_from side (told_flow f) far qos) line
flow_told g now cloud f far side a b qos line h =
    let c : Ids = ids_from side f far qos in
    let d = h.direction in
    let k : Constants = constants g d.cube c in
    subst (λ (z : Ids). IsFlow g now cloud (told_flow f) far side a b z line) (ids_told side f far qos) (record {
      direction = record {
        cube = d.cube;
        is_cube = d.is_cube;
        backed = guard_backed (IsInUse now f) (IsInUse now (told_flow f)) k now (PiecesOf cloud c) (AcksOf cloud c) line (λ u. record { far = u.far; known = u.known; unrested = u.unrested }) d.backed;
        sent = d.sent;
        got = d.got;
        passed = d.passed;
      };
      from = from_told k side f far line h.from;
      untold = untold_told k side f line;
    })

module _ (g : Config) (now : ℕ) (cloud : ℕ → Pdu → Type 0) (held : List CepIds) (ends : List End) (conns : List Ids) (lines : List Direction) (own : IsOwn g now cloud held ends conns lines) (at : ℕ) (e : End) (comes : IsAnswered ends own.flows own.places at e) where
  abbrev e' : End
  e' = record e { state = Allocated }

  abbrev ends' : List End
  ends' = slice_set ends at e'

  -- the ids of its connection, which it knows now
  abbrev ids : Ids
  ids = ids_from Asker comes.flow comes.far e.cube

  abbrev conns' : List Ids
  conns' = slice_set conns at ids

  abbrev flow : Flow
  flow = told_flow comes.flow

  abbrev flows' : List Flow
  flows' = put comes.x.flow flow own.flows

  changed : IsChanged own.flows flows' comes.x.flow flow
  changed = put_changed own.flows comes.x.flow comes.flow flow comes.stands

  const : IsConst e e'
  const = record { flow = refl; role = refl; port = refl; app = refl; peer = refl; cube = refl }

  conn_here : (c : Ids) × (slice_get conns at ≡ Some c)
  conn_here = beside ends conns at e own.alike comes.here

  end_here : IsEndOf comes.flow Asker e conn_here.0
  end_here = subst (λ (s : Side). IsEndOf comes.flow s e conn_here.0) comes.side (end_of_flow g now cloud held ends conns lines own at e conn_here.0 comes.x comes.flow (record { end = comes.here; ids_are = conn_here.1 }) comes.is_x comes.stands)

  -- an end of the journal is the asker, or was there with these ids
  conn_told : (i : ℕ) (a : End) (c : Ids) → IsConn ends' conns' i a c → ((i ≡ at) × (a ≡ e') × (c ≡ ids)) ⊎ ((i ≢ at) × IsConn ends conns i a c)
  conn_told i a c h = elim (set_at ends at i e e' a comes.here h.end) [
    | inl t ↦ elim (set_at conns at i conn_here.0 ids c conn_here.1 h.ids_are) [
      | inl s ↦ inl (t.0, t.1, s.1)
      | inr o ↦ absurd (o.0 t.0)
    ]
    | inr o ↦ elim (set_at conns at i conn_here.0 ids c conn_here.1 h.ids_are) [
      | inl s ↦ absurd (o.0 s.0)
      | inr p ↦ inr (o.0, record { end = o.1; ids_are = p.1 })
    ]
  ]

  told_end : IsEndOf flow Asker e' ids
  told_end = record {
    point = comes.flow.asker;
    is = refl;
    role = end_here.role;
    own = refl;
    far = (own.ledger.flow comes.x.flow comes.flow comes.stands).there comes.far comes.known;
    scep = refl;
    up = λ u. point_stands;
    still = λ none. tt;
    knows = λ is. refl;
    waits = λ is knows. absurd (let clash : Allocated ≡ Pending = is in cc);
    known = λ far is knows. ap (λ (z : Endpoint). ids_from Asker comes.flow z e.cube) (same_Some comes.far far (sym comes.known ∙ is));
    asked = λ none. absurd (none-some comes.far (sym none ∙ comes.known));
    unsent = λ none. absurd (none-some comes.far (sym none ∙ comes.known));
  }
    where
      point_stands : comes.flow.asker.ended ≡ None
      point_stands = ap (λ (z : Endpoint). z.ended) (same_Some comes.flow.asker end_here.point end_here.is) ∙ end_here.up (subst IsUp (sym comes.waits) tt)

  one_place : (i : ℕ) (x : Place) → i ≡ at → slice_get own.places i ≡ Some x → x ≡ comes.x
  one_place i x is is_x = (let l = subst (λ (n : ℕ). slice_get own.places n ≡ Some x) is is_x in let r = comes.is_x in cc)

  -- an end of the flow that is told is the asker, or the far end
  far_side : (i : ℕ) (x : Place) → slice_get own.places i ≡ Some x → x.flow ≡ comes.x.flow → i ≢ at → x.side ≡ Far
  far_side i x is_x same ne = by_side x.side refl
    where
      by_side : (s : Side) → x.side ≡ s → x.side ≡ Far
      by_side Asker is = absurd (ne (own.entered.once i at x comes.x is_x comes.is_x same (is ∙ sym comes.side)))
      by_side Far is = is

  far_end_told : (a : End) (c : Ids) → IsEndOf comes.flow Far a c → IsEndOf flow Far a c
  far_end_told a c m = end_on comes.flow flow Far a c m m.is refl (λ k. k) (λ k. k) m.known (λ none. (m.asked none, m.unsent none))

  each_told : (i : ℕ) (a : End) (c : Ids) (x : Place) → IsConn ends' conns' i a c → slice_get own.places i ≡ Some x → IsEntered flows' x a c
  each_told i a c x h is_x = elim (conn_told i a c h) [
    | inl t ↦
        (let x_is = one_place i x t.0 is_x in
        let flow_is : x.flow ≡ comes.x.flow = ap (λ (z : Place). z.flow) x_is in
        let side_is : x.side ≡ Asker = ap (λ (z : Place). z.side) x_is ∙ comes.side in
        record {
          flow = flow;
          stands = subst (λ (n : ℕ). slice_get flows' n ≡ Some flow) (sym flow_is) changed.at;
          end = subst (λ (s : Side). IsEndOf flow s a c) (sym side_is) (subst (λ (z : End). IsEndOf flow Asker z c) (sym t.1) (subst (λ (z : Ids). IsEndOf flow Asker e' z) (sym t.2) told_end));
        })
    | inr o ↦ elim (cases_eq x.flow comes.x.flow) [
      | inl same ↦
          (let side = far_side i x is_x same o.0 in
          let stands : slice_get own.flows x.flow ≡ Some comes.flow = subst (λ (n : ℕ). slice_get own.flows n ≡ Some comes.flow) (sym same) comes.stands in
          let m = end_of_flow g now cloud held ends conns lines own i a c x comes.flow o.1 is_x stands in
          record {
            flow = flow;
            stands = subst (λ (n : ℕ). slice_get flows' n ≡ Some flow) (sym same) changed.at;
            end = subst (λ (s : Side). IsEndOf flow s a c) (sym side) (far_end_told a c (subst (λ (s : Side). IsEndOf comes.flow s a c) side m));
          })
      | inr ne ↦ (let m = own.entered.each i a c x o.1 is_x in record { flow = m.flow; stands = changed.others x.flow ne ∙ m.stands; end = m.end })
    ]
  ]

  entered_told : AreEntered ends' conns' flows' own.places
  entered_told = record {
    places_alike = own.entered.places_alike ∙ sym (length-set ends at e');
    each = each_told;
    once = own.entered.once;
    named = named_set ends conns own.flows own.places own.entered at e e' comes.here const;
    apart = apart_set ends conns own.flows own.places own.entered at e e' comes.here const;
    all = λ n side f point stands is. elim (new_or_old own.flows flows' comes.x.flow flow n f changed stands) [
      | inl new ↦ own.entered.all n side comes.flow point (subst (λ (k : ℕ). slice_get own.flows k ≡ Some comes.flow) (sym new.0) comes.stands) (end_told side comes.flow point (subst (λ (z : Flow). end_at side z ≡ Some point) (sym new.1) is))
      | inr old ↦ own.entered.all n side f point old.1 is
    ];
  }

  ledger_told : LedgerHolds now flows' (Naming (IsOfFlow g) cloud)
  ledger_told = tell_holds now own.flows (Naming (IsOfFlow g) cloud) comes.x.flow comes.flow own.ledger comes.stands (λ none. none-some comes.far (sym none ∙ comes.known))

  flows_told : (i k : ℕ) (a b : End) (x : Place) (f : Flow) (far : Endpoint) (line : Direction) → At ends' i a → At ends' k b → IsPartner a b → slice_get own.places i ≡ Some x → slice_get flows' x.flow ≡ Some f → f.far ≡ Some far → slice_get lines i ≡ Some line → IsFlow g now cloud f far x.side a b (ids_from x.side f far a.cube) line
  flows_told i k a b x f far line ha hb p is_x stands known z =
      let l = same_whole ends at e Allocated comes.here i a ha in
      let r = same_whole ends at e Allocated comes.here k b hb in
      let p' : IsPartner l.0 r.0 = record { same_flow = sym r.2 ∙ p.same_flow ∙ l.2; other_role = λ s. p.other_role (r.3 ∙ s ∙ sym l.3) } in
      let cube : ids_from x.side f far l.0.cube ≡ ids_from x.side f far a.cube = ap (λ (n : ℕ). ids_from x.side f far n) (sym l.4) in
      elim (new_or_old own.flows flows' comes.x.flow flow x.flow f changed stands) [
        | inl new ↦
            (let stands' : slice_get own.flows x.flow ≡ Some comes.flow = subst (λ (n : ℕ). slice_get own.flows n ≡ Some comes.flow) (sym new.0) comes.stands in
            let known' : comes.flow.far ≡ Some far = ap (λ (v : Flow). v.far) new.1 ∙ known in
            let old = own.flows_are i k l.0 r.0 x comes.flow far line l.1 r.1 p' is_x stands' known' z in
            let there = flow_told g now cloud comes.flow far x.side l.0 r.0 l.0.cube line old in
            let P : Flow → Type 0 = λ v. IsFlow g now cloud v far x.side l.0 r.0 (ids_from x.side v far l.0.cube) line in
            flow_moved g now cloud f far x.side l.0 r.0 a b (ids_from x.side f far l.0.cube) (ids_from x.side f far a.cube) line cube l.5 r.6 r.7 (subst P new.1 there))
        | inr old ↦ flow_moved g now cloud f far x.side l.0 r.0 a b (ids_from x.side f far l.0.cube) (ids_from x.side f far a.cube) line cube l.5 r.6 r.7 (own.flows_are i k l.0 r.0 x f far line l.1 r.1 p' is_x old.1 known z)
      ]

  rests_told : (i : ℕ) (a : End) (x : Place) (f : Flow) → At ends' i a → slice_get own.places i ≡ Some x → slice_get flows' x.flow ≡ Some f → RestsBy g a.cube f.rest
  rests_told i a x f ha is_x stands =
      let o = was_end ends at e e' comes.here const i a ha in
      subst (λ (n : ℕ). RestsBy g n f.rest) (sym o.2.cube) (elim (new_or_old own.flows flows' comes.x.flow flow x.flow f changed stands) [
        | inl new ↦ subst (RestsBy g o.0.cube) (ap (λ (z : Flow). z.rest) new.1) (own.rests i o.0 x comes.flow o.1 is_x (subst (λ (n : ℕ). slice_get own.flows n ≡ Some comes.flow) (sym new.0) comes.stands))
        | inr old ↦ own.rests i o.0 x f o.1 is_x old.1
      ])

  -- the far end's ids fit their fields, and so do those of the asker
  fit_told : AreIds g e' ids
  fit_told =
      let place = own.entered.all comes.x.flow Far comes.flow comes.far comes.stands comes.known in
      let there : Place = record { flow = comes.x.flow; side = Far } in
      let a = beside own.places ends place.0 there (sym own.entered.places_alike) place.1 in
      let c = beside ends conns place.0 a.0 own.alike a.1 in
      let conn : IsConn ends conns place.0 a.0 c.0 = record { end = a.1; ids_are = c.1 } in
      let m = end_of_flow g now cloud held ends conns lines own place.0 a.0 c.0 there comes.flow conn place.1 comes.stands in
      let far_is : m.point ≡ comes.far = same_Some m.point comes.far (sym m.is ∙ comes.known) in
      let fit = own.ids place.0 a.0 c.0 conn in
      let asker_is : comes.flow.asker ≡ end_here.point = same_Some comes.flow.asker end_here.point end_here.is in
      let its = own.ids at e conn_here.0 (record { end = comes.here; ids_are = conn_here.1 }) in
      record {
        own = rw (end_here.own ∙ sym (ap (λ (z : Endpoint). z.addr) asker_is)) at its.own;
        scep = rw (end_here.scep ∙ sym (ap (λ (z : Endpoint). z.cep) asker_is)) at its.scep;
        far = rw (m.own ∙ ap (λ (z : Endpoint). z.addr) far_is) at fit.own;
        dcep = rw (m.scep ∙ ap (λ (z : Endpoint). z.cep) far_is) at fit.scep;
        qos = refl;
      }

  -- the members hold their ids as before
  pub own_told : AreHeld g now flows' held → IsOwn g now cloud held ends' conns' lines
  own_told kept = record {
    alike = length-set conns at ids ∙ own.alike ∙ sym (length-set ends at e');
    lines_alike = own.lines_alike ∙ sym (length-set ends at e');
    flows = flows';
    places = own.places;
    entered = entered_told;
    ledger = ledger_told;
    rests = rests_told;
    kept = kept;
    ids = λ i a c conn. elim (conn_told i a c conn) [
      | inl t ↦ subst (λ (z : End). AreIds g z c) (sym t.1) (subst (λ (z : Ids). AreIds g e' z) (sym t.2) fit_told)
      | inr o ↦ own.ids i a c o.1
    ];
    flows_are = flows_told;
  }
