-- What it makes of the own flows that an end ends: its flow of the ledger has the tick, and no direction changes.
use Rattle.std.proofs.Common.{◌≡◌, ◌≢◌, ℕ, ◌⊎◌, List, length-set, slice_get, slice_set, Some, None, refl, sym, ◌∙◌, ap, subst, inl, inr}
use Rattle.std.proofs.lemmas.Bool.{cases_eq}
use Rattle.std.proofs.lemmas.Option.{none-some, same_Some}
use Rattle.rina_base.specs.declared.pdu.Pdu.{Pdu}
use Rattle.rina_iface.specs.declared.ends.End.{End}
use Rattle.rina_iface.specs.declared.state.PortState.{PortState}
use Rattle.rina_iface.specs.declared.state.PortState.TheVariants.{Allocated, Closed, Failed, Pending, Refused}
use Rattle.rina_iface.specs.Journal.{At, IsPartner}
use Rattle.rina_iface.specs.Later.{Moves}
use Rattle.rina_iface.proofs.Changed.{set_at}
use Rattle.rina_law.specs.Constants.{Constants}
use Rattle.rina_law.specs.Direction.{Direction}
use Rattle.rina_rest.specs.Flows.{Asker, Endpoint, Far, Flow, Four, IsInUse, Side, end_at}
use Rattle.rina_rest.specs.Ledger.{LedgerHolds, Stands, ended_asker, ended_far, put}
use Rattle.rina_rest.specs.Naming.{Naming}
use Rattle.rina_rest.specs.Still.{HasEnded}
use Rattle.rina_rest.specs.While.{Guarded, IsDirectionFrom}
use Rattle.rina_rest.proofs.Lists.{IsChanged, new_or_old, put_changed}
use Rattle.rina_rest.proofs.Rows.{end_asker_holds, end_far_holds}
use Rattle.rina_rest.proofs.While.{ended_now, from_ended_asker, from_ended_far, guard_backed}
use Rattle.rina_data.specs.Configs.{Config}
use Rattle.rina_ids.specs.Members.{CepIds}
use Rattle.rina_dif_law.specs.CepIds.{AreHeld}
use Rattle.rina_dif_law.specs.Dif.{constants}
use Rattle.rina_dif_law.specs.Ids.{AcksOf, Ids, PiecesOf}
use Rattle.rina_dif_law.specs.Places.{IsEndOf, IsEntered, IsUp, Knows, Place, ids_from, there_of}
use Rattle.rina_dif_law.specs.Standing.{AreEntered, IsConn, IsFlow, IsOfFlow, IsOwn, IsUntold, RestsBy}
use Rattle.rina_dif_law.proofs.Finding.{beside}
use Rattle.rina_dif_law.proofs.Flows.{flow_moved}
use Rattle.rina_dif_law.proofs.Journals.{IsConst, was_end}
use Rattle.rina_dif_law.proofs.Own.{apart_set, end_of_flow, end_on, ids_set, named_set, rests_set}
use Rattle.rina_dif_law.proofs.Placed.{opposite, unrested_up}

-- an allocated end that moves on has ended
pub ends_down : (old new : PortState) → old ≡ Allocated → Moves old new → new ≢ Allocated → IsUp new → ⊥
ends_down old Allocated is moves ne up = ne refl
ends_down old Pending is moves ne up = (let m : Moves Allocated Pending = subst (λ (z : PortState). Moves z Pending) is moves in absurd (let clash : Pending ≡ Allocated = m in cc))
ends_down old (Failed fail) is moves ne up = up
ends_down old (Refused why) is moves ne up = up
ends_down old Closed is moves ne up = up

-- ---- a flow one of whose ends ends

-- the flow after it, and its far end
abbrev pub ended_at : ℕ → Side → Flow → Endpoint → Flow
ended_at now Asker f far = ended_asker now f
ended_at now Far f far = ended_far now f far

abbrev far_after : ℕ → Side → Endpoint → Endpoint
far_after now Asker far = far
far_after now Far far = record far { ended = Some now }

-- of a far end that ends, that it is the flow's
abbrev Given : Side → Flow → Endpoint → Type 0
Given Asker f far = Unit {0}
Given Far f far = f.far ≡ Some far

-- the far end before, where there is one
far_back : (now : ℕ) (s : Side) (f : Flow) (far : Endpoint) → Given s f far → (other : Endpoint) → (ended_at now s f far).far ≡ Some other → (old : Endpoint) × (f.far ≡ Some old) × (far_after now s old ≡ other)
far_back now Asker f far given other is = (other, is, refl)
far_back now Far f far given other is = (far, given, same_Some (record far { ended = Some now }) other is)

-- ids do not change
ids_after : (now : ℕ) (s t : Side) (f : Flow) (far old : Endpoint) (qos : ℕ) → ids_from t f old qos ≡ ids_from t (ended_at now s f far) (far_after now s old) qos
ids_after now Asker Asker f far old qos = refl
ids_after now Asker Far f far old qos = refl
ids_after now Far Asker f far old qos = refl
ids_after now Far Far f far old qos = refl

knows_before : (now : ℕ) (s t : Side) (f : Flow) (far : Endpoint) → Knows t (ended_at now s f far) → Knows t f
knows_before now Asker Asker f far k = k
knows_before now Far Asker f far k = k
knows_before now s Far f far k = tt

knows_after : (now : ℕ) (s t : Side) (f : Flow) (far : Endpoint) → Knows t f → Knows t (ended_at now s f far)
knows_after now Asker Asker f far k = k
knows_after now Far Asker f far k = k
knows_after now s Far f far k = tt

-- both ends were there
end_before : (now : ℕ) (s t : Side) (f : Flow) (far point : Endpoint) → Given s f far → end_at t (ended_at now s f far) ≡ Some point → (old : Endpoint) × (end_at t f ≡ Some old)
end_before now Asker Asker f far point known is = (f.asker, refl)
end_before now Far Asker f far point known is = (f.asker, refl)
end_before now Asker Far f far point known is = (point, is)
end_before now Far Far f far point known is = (far, known)

-- the end that ends
abbrev point_after : ℕ → Side → Flow → Endpoint → Endpoint
point_after now Asker f far = record f.asker { ended = Some now }
point_after now Far f far = record far { ended = Some now }

point_is : (now : ℕ) (s : Side) (f : Flow) (far : Endpoint) → end_at s (ended_at now s f far) ≡ Some (point_after now s f far)
point_is now Asker f far = refl
point_is now Far f far = refl

point_ended : (now : ℕ) (s : Side) (f : Flow) (far : Endpoint) → (point_after now s f far).ended ≡ None → ⊥
point_ended now Asker f far e = none-some now (sym e)
point_ended now Far f far e = none-some now (sym e)

point_addr : (now : ℕ) (s : Side) (f : Flow) (far point : Endpoint) → Given s f far → end_at s f ≡ Some point → point.addr ≡ (point_after now s f far).addr
point_addr now Asker f far point known is = sym (ap (λ (z : Endpoint). z.addr) (same_Some f.asker point is))
point_addr now Far f far point known is = ap (λ (z : Endpoint). z.addr) (same_Some point far (sym is ∙ known))

point_cep : (now : ℕ) (s : Side) (f : Flow) (far point : Endpoint) → Given s f far → end_at s f ≡ Some point → point.cep ≡ (point_after now s f far).cep
point_cep now Asker f far point known is = sym (ap (λ (z : Endpoint). z.cep) (same_Some f.asker point is))
point_cep now Far f far point known is = ap (λ (z : Endpoint). z.cep) (same_Some point far (sym is ∙ known))

-- whom an end was made to reach, and where no far end is made: none was, and the flow was asked for at the same tick
there_after : (now : ℕ) (s t : Side) (f : Flow) (far : Endpoint) → there_of t f ≡ there_of t (ended_at now s f far)
there_after now Asker Asker f far = refl
there_after now Asker Far f far = refl
there_after now Far Asker f far = refl
there_after now Far Far f far = refl

none_before : (now : ℕ) (s : Side) (f : Flow) (far : Endpoint) → (ended_at now s f far).far ≡ None → f.far ≡ None
none_before now Asker f far none = none
none_before now Far f far none = absurd (none-some (record far { ended = Some now }) (sym none))

asked_after : (now : ℕ) (s : Side) (f : Flow) (far : Endpoint) → f.asked ≡ (ended_at now s f far).asked
asked_after now Asker f far = refl
asked_after now Far f far = refl

-- the ids that an end knows
known_after : (now : ℕ) (s t : Side) (f : Flow) (far : Endpoint) (qos : ℕ) (ids : Ids) → Given s f far → ((other : Endpoint) → f.far ≡ Some other → Knows t f → ids ≡ ids_from t f other qos) → (other : Endpoint) → (ended_at now s f far).far ≡ Some other → Knows t (ended_at now s f far) → ids ≡ ids_from t (ended_at now s f far) other qos
known_after now s t f far qos ids given old other is knows =
    let o = far_back now s f far given other is in
    old o.0 o.1 (knows_before now s t f far knows) ∙ ids_after now s t f far o.0 qos ∙ ap (λ (z : Endpoint). ids_from t (ended_at now s f far) z qos) o.2

ended_end : (now : ℕ) (s : Side) (f : Flow) (far : Endpoint) (e : End) (state : PortState) (ids : Ids) → Given s f far → (IsUp state → ⊥) → IsEndOf f s e ids → IsEndOf (ended_at now s f far) s (record e { state = state }) ids
ended_end now s f far e state ids known down h = record {
  point = point_after now s f far;
  is = point_is now s f far;
  role = h.role;
  own = h.own ∙ point_addr now s f far h.point known h.is;
  far = h.far ∙ there_after now s s f far;
  scep = h.scep ∙ point_cep now s f far h.point known h.is;
  up = λ u. absurd (down u);
  still = λ none. absurd (point_ended now s f far none);
  knows = λ is. absurd (down (subst IsUp (sym is) tt));
  waits = λ is knows. down (subst IsUp (sym is) tt);
  known = known_after now s s f far e.cube ids known h.known;
  asked = λ none. h.asked (none_before now s f far none) ∙ asked_after now s f far;
  unsent = λ none. h.unsent (none_before now s f far none);
}

-- the other end
other_point : (now : ℕ) (s : Side) (f : Flow) (far point : Endpoint) → end_at (opposite s) f ≡ Some point → end_at (opposite s) (ended_at now s f far) ≡ Some point
other_point now Asker f far point is = is
other_point now Far f far point is = is

other_end : (now : ℕ) (s : Side) (f : Flow) (far : Endpoint) (e : End) (ids : Ids) → Given s f far → IsEndOf f (opposite s) e ids → IsEndOf (ended_at now s f far) (opposite s) e ids
other_end now s f far e ids given h = end_on f (ended_at now s f far) (opposite s) e ids h (other_point now s f far h.point h.is) (there_after now s (opposite s) f far) (knows_after now s (opposite s) f far) (knows_before now s (opposite s) f far) (known_after now s (opposite s) f far e.cube ids given h.known)
    (λ none. (h.asked (none_before now s f far none) ∙ asked_after now s f far, h.unsent (none_before now s f far none)))

-- the end stands, whichever far end is meant
stands_old : (s : Side) (f : Flow) (far old : Endpoint) → Given s f far → Stands s f far → f.far ≡ Some old → Stands s f old
stands_old Asker f far old given up known = up
stands_old Far f far old given up known = ap (λ (z : Endpoint). z.ended) (same_Some old far (sym known ∙ given)) ∙ up

-- where it is in use after it, it was before
used_before_end : (now : ℕ) (s : Side) (f : Flow) (far : Endpoint) → Given s f far → Stands s f far → IsInUse now (ended_at now s f far) → IsInUse now f
used_before_end now s f far given up u =
    let o = far_back now s f far given u.far u.known in
    record { far = o.0; known = o.1; unrested = unrested_up now s f o.0 (stands_old s f far o.0 given up o.1) }

untold_after : (now : ℕ) (s t : Side) (f : Flow) (far : Endpoint) (k : Constants) (line : Direction) → IsUntold k t f line → IsUntold k t (ended_at now s f far) line
untold_after now Asker Asker f far k line u = u
untold_after now Asker Far f far k line u = u
untold_after now Far Asker f far k line u = u
untold_after now Far Far f far k line u = u

from_after : (now : ℕ) (s t : Side) (f : Flow) (far old : Endpoint) (k : Constants) (line : Direction) → Given s f far → f.far ≡ Some old → HasEnded line now → IsDirectionFrom k t f old line → IsDirectionFrom k t (ended_at now s f far) (far_after now s old) line
from_after now Asker t f far old k line given known ended from = from_ended_asker k f old line t now ended from
from_after now Far t f far old k line given known ended from =
    let is : old ≡ far = same_Some old far (sym known ∙ given) in
    subst (λ (z : Endpoint). IsDirectionFrom k t (ended_far now f far) (record z { ended = Some now }) line) (sym is) (from_ended_far k f far line t now ended (subst (λ (z : Endpoint). IsDirectionFrom k t f z line) is from))

flow_after : (g : Config) (now : ℕ) (cloud : ℕ → Pdu → Type 0) (s t : Side) (f : Flow) (far old : Endpoint) (a b : End) (line : Direction) → Given s f far → f.far ≡ Some old → Stands s f far → IsFlow g now cloud f old t a b (ids_from t f old a.cube) line → IsFlow g now cloud (ended_at now s f far) (far_after now s old) t a b (ids_from t (ended_at now s f far) (far_after now s old) a.cube) line
flow_after g now cloud s t f far old a b line given known up h =
    let c : Ids = ids_from t f old a.cube in
    let d = h.direction in
    let k : Constants = constants g d.cube c in
    let f' : Flow = ended_at now s f far in
    let ended : HasEnded line now = ended_now k now (Guarded (IsInUse now f) (PiecesOf cloud c)) (Guarded (IsInUse now f) (AcksOf cloud c)) line d.backed in
    subst (λ (z : Ids). IsFlow g now cloud f' (far_after now s old) t a b z line) (ids_after now s t f far old a.cube) (record {
      direction = record {
        cube = d.cube;
        is_cube = d.is_cube;
        backed = guard_backed (IsInUse now f) (IsInUse now f') k now (PiecesOf cloud c) (AcksOf cloud c) line (λ u. used_before_end now s f far given up u) d.backed;
        sent = d.sent;
        got = d.got;
        passed = d.passed;
      };
      from = from_after now s t f far old k line given known ended h.from;
      untold = untold_after now s t f far k line h.untold;
    })

ledger_after : (now : ℕ) (flows : List Flow) (cloud : ℕ → Four → Type 0) (n : ℕ) (s : Side) (f : Flow) (far : Endpoint) → LedgerHolds now flows cloud → slice_get flows n ≡ Some f → Given s f far → Stands s f far → LedgerHolds now (put n (ended_at now s f far) flows) cloud
ledger_after now flows cloud n Asker f far h at given up = end_asker_holds now flows cloud n f h at up
ledger_after now flows cloud n Far f far h at given up = end_far_holds now flows cloud n f far h at given up

given_at : (s : Side) (f : Flow) (point : Endpoint) → end_at s f ≡ Some point → Given s f point
given_at Asker f point is = tt
given_at Far f point is = is

up_at : (s : Side) (f : Flow) (point : Endpoint) → end_at s f ≡ Some point → point.ended ≡ None → Stands s f point
up_at Asker f point is none = ap (λ (z : Endpoint). z.ended) (same_Some f.asker point is) ∙ none
up_at Far f point is none = none

-- what an end sent and got stays as its state changes
pub same_whole : (ends : List End) (at : ℕ) (e : End) (state : PortState) → At ends at e → (i : ℕ) (a : End) → At (slice_set ends at (record e { state = state })) i a → (o : End) × At ends i o × (a.flow ≡ o.flow) × (a.role ≡ o.role) × (a.cube ≡ o.cube) × (a.sent ≡ o.sent) × (a.got ≡ o.got) × (a.taken ≡ o.taken)
same_whole ends at e state is i a h = elim (set_at ends at i e (record e { state = state }) a is h) [
  | inl t ↦ (e, ap (slice_get ends) t.0 ∙ is, ap (λ (z : End). z.flow) t.1, ap (λ (z : End). z.role) t.1, ap (λ (z : End). z.cube) t.1, ap (λ (z : End). z.sent) t.1, ap (λ (z : End). z.got) t.1, ap (λ (z : End). z.taken) t.1)
  | inr f ↦ (a, f.1, refl, refl, refl, refl, refl, refl)
]

-- ---- the own flows

-- the place of an end, and its flow
record IsPlaced (flows : List Flow) (places : List Place) (i : ℕ) (e : End) (c : Ids) : Type 0 where
  x : Place
  is_x : slice_get places i ≡ Some x
  flow : Flow
  stands : slice_get flows x.flow ≡ Some flow
  end : IsEndOf flow x.side e c

placed : (g : Config) (now : ℕ) (cloud : ℕ → Pdu → Type 0) (held : List CepIds) (ends : List End) (conns : List Ids) (lines : List Direction) (own : IsOwn g now cloud held ends conns lines) (i : ℕ) (e : End) (c : Ids) → IsConn ends conns i e c → IsPlaced own.flows own.places i e c
placed g now cloud held ends conns lines own i e c conn =
    let x = beside ends own.places i e own.entered.places_alike conn.end in
    let m = own.entered.each i e c x.0 conn x.1 in
    record { x = x.0; is_x = x.1; flow = m.flow; stands = m.stands; end = m.end }

module _ (g : Config) (now : ℕ) (cloud : ℕ → Pdu → Type 0) (held : List CepIds) (ends : List End) (conns : List Ids) (lines : List Direction) (own : IsOwn g now cloud held ends conns lines) (at : ℕ) (e : End) (c : Ids) (conn : IsConn ends conns at e c) (stood : IsUp e.state) (state : PortState) (down : IsUp state → ⊥) where
  abbrev e' : End
  e' = record e { state = state }

  abbrev ends' : List End
  ends' = slice_set ends at e'

  abbrev q : IsPlaced own.flows own.places at e c
  q = placed g now cloud held ends conns lines own at e c conn

  abbrev point : Endpoint
  point = q.end.point

  given : Given q.x.side q.flow point
  given = given_at q.x.side q.flow point q.end.is

  abbrev f' : Flow
  f' = ended_at now q.x.side q.flow point

  abbrev flows' : List Flow
  flows' = put q.x.flow f' own.flows

  up : Stands q.x.side q.flow point
  up = up_at q.x.side q.flow point q.end.is (q.end.up stood)

  const : IsConst e e'
  const = record { flow = refl; role = refl; port = refl; app = refl; peer = refl; cube = refl }

  changed : IsChanged own.flows flows' q.x.flow f'
  changed = put_changed own.flows q.x.flow q.flow f' q.stands

  -- an end of the flow that ends is the one that ends, or the other
  place_cases : (i : ℕ) (x : Place) → slice_get own.places i ≡ Some x → x.flow ≡ q.x.flow → (i ≡ at) ⊎ (x.side ≡ opposite q.x.side)
  place_cases i x is_x same = sides q.x.side x.side refl refl
    where
      sides : (s t : Side) → q.x.side ≡ s → x.side ≡ t → (i ≡ at) ⊎ (x.side ≡ opposite q.x.side)
      sides Asker Asker a b = inl (own.entered.once i at x q.x is_x q.is_x same (b ∙ sym a))
      sides Far Far a b = inl (own.entered.once i at x q.x is_x q.is_x same (b ∙ sym a))
      sides Asker Far a b = inr (b ∙ ap opposite (sym a))
      sides Far Asker a b = inr (b ∙ ap opposite (sym a))

  one_place : (i : ℕ) (x : Place) → i ≡ at → slice_get own.places i ≡ Some x → x ≡ q.x
  one_place i x is is_x = (let there = subst (λ (n : ℕ). slice_get own.places n ≡ Some x) is is_x in let here = q.is_x in cc)

  each_after : (i : ℕ) (a : End) (f : Ids) (x : Place) → IsConn ends' conns i a f → slice_get own.places i ≡ Some x → IsEntered flows' x a f
  each_after i a f x h is_x = elim (set_at ends at i e e' a conn.end h.end) [
    | inl t ↦
        (let x_is = one_place i x t.0 is_x in
        let f_is : f ≡ c = (let there = subst (λ (n : ℕ). slice_get conns n ≡ Some f) t.0 h.ids_are in let here = conn.ids_are in cc) in
        let new : IsEntered flows' q.x e' c = record { flow = f'; stands = changed.at; end = ended_end now q.x.side q.flow point e state c given down q.end } in
        subst (λ (z : Place). IsEntered flows' z a f) (sym x_is) (subst (λ (z : End). IsEntered flows' q.x z f) (sym t.1) (subst (λ (z : Ids). IsEntered flows' q.x e' z) (sym f_is) new)))
    | inr o ↦
        (let conn' : IsConn ends conns i a f = record { end = o.1; ids_are = h.ids_are } in
        elim (cases_eq x.flow q.x.flow) [
          | inl same ↦ elim (place_cases i x is_x same) [
            | inl here ↦ absurd (o.0 here)
            | inr side ↦
                (let m = end_of_flow g now cloud held ends conns lines own i a f x q.flow conn' is_x (subst (λ (n : ℕ). slice_get own.flows n ≡ Some q.flow) (sym same) q.stands) in
                let m' : IsEndOf q.flow (opposite q.x.side) a f = subst (λ (z : Side). IsEndOf q.flow z a f) side m in
                record {
                  flow = f';
                  stands = subst (λ (n : ℕ). slice_get flows' n ≡ Some f') (sym same) changed.at;
                  end = subst (λ (z : Side). IsEndOf f' z a f) (sym side) (other_end now q.x.side q.flow point a f given m');
                })
          ]
          | inr ne ↦ (let m = own.entered.each i a f x conn' is_x in record { flow = m.flow; stands = changed.others x.flow ne ∙ m.stands; end = m.end })
        ])
  ]

  entered_after : AreEntered ends' conns flows' own.places
  entered_after = record {
    places_alike = own.entered.places_alike ∙ sym (length-set ends at e');
    each = each_after;
    once = own.entered.once;
    named = named_set ends conns own.flows own.places own.entered at e e' conn.end const;
    apart = apart_set ends conns own.flows own.places own.entered at e e' conn.end const;
    all = λ n side flow its stands is. elim (new_or_old own.flows flows' q.x.flow f' n flow changed stands) [
      | inl new ↦
          (let old = end_before now q.x.side side q.flow point its given (subst (λ (z : Flow). end_at side z ≡ Some its) (sym new.1) is) in
          own.entered.all n side q.flow old.0 (subst (λ (k : ℕ). slice_get own.flows k ≡ Some q.flow) (sym new.0) q.stands) old.1)
      | inr old ↦ own.entered.all n side flow its old.1 is
    ];
  }

  ended_flows : (i k : ℕ) (a b : End) (x : Place) (flow : Flow) (far : Endpoint) (line : Direction) → At ends' i a → At ends' k b → IsPartner a b → slice_get own.places i ≡ Some x → slice_get flows' x.flow ≡ Some flow → flow.far ≡ Some far → slice_get lines i ≡ Some line → IsFlow g now cloud flow far x.side a b (ids_from x.side flow far a.cube) line
  ended_flows i k a b x flow far line ha hb p is_x stands known z =
      let l = same_whole ends at e state conn.end i a ha in
      let r = same_whole ends at e state conn.end k b hb in
      let p' : IsPartner l.0 r.0 = record { same_flow = sym r.2 ∙ p.same_flow ∙ l.2; other_role = λ s. p.other_role (r.3 ∙ s ∙ sym l.3) } in
      let cube : ids_from x.side flow far l.0.cube ≡ ids_from x.side flow far a.cube = ap (λ (n : ℕ). ids_from x.side flow far n) (sym l.4) in
      elim (new_or_old own.flows flows' q.x.flow f' x.flow flow changed stands) [
        | inl new ↦
            (let stands' : slice_get own.flows x.flow ≡ Some q.flow = subst (λ (n : ℕ). slice_get own.flows n ≡ Some q.flow) (sym new.0) q.stands in
            let o = far_back now q.x.side q.flow point given far (ap (λ (z : Flow). z.far) new.1 ∙ known) in
            let old = own.flows_are i k l.0 r.0 x q.flow o.0 line l.1 r.1 p' is_x stands' o.1 z in
            let there = flow_after g now cloud q.x.side x.side q.flow point o.0 l.0 r.0 line given o.1 up old in
            let P : Flow → Endpoint → Type 0 = λ u v. IsFlow g now cloud u v x.side l.0 r.0 (ids_from x.side u v l.0.cube) line in
            let here : P flow far = subst (λ (v : Endpoint). P flow v) o.2 (subst (λ (u : Flow). P u (far_after now q.x.side o.0)) new.1 there) in
            flow_moved g now cloud flow far x.side l.0 r.0 a b (ids_from x.side flow far l.0.cube) (ids_from x.side flow far a.cube) line cube l.5 r.6 r.7 here)
        | inr old ↦ flow_moved g now cloud flow far x.side l.0 r.0 a b (ids_from x.side flow far l.0.cube) (ids_from x.side flow far a.cube) line cube l.5 r.6 r.7 (own.flows_are i k l.0 r.0 x flow far line l.1 r.1 p' is_x old.1 known z)
      ]

  rest_same : (s : Side) (f : Flow) (far : Endpoint) → f.rest ≡ (ended_at now s f far).rest
  rest_same Asker f far = refl
  rest_same Far f far = refl

  rests_ended : (i : ℕ) (a : End) (x : Place) (flow : Flow) → At ends' i a → slice_get own.places i ≡ Some x → slice_get flows' x.flow ≡ Some flow → RestsBy g a.cube flow.rest
  rests_ended i a x flow ha is_x stands =
      let o = was_end ends at e e' conn.end const i a ha in
      subst (λ (n : ℕ). RestsBy g n flow.rest) (sym o.2.cube) (elim (new_or_old own.flows flows' q.x.flow f' x.flow flow changed stands) [
        | inl new ↦ subst (RestsBy g o.0.cube) (rest_same q.x.side q.flow point ∙ ap (λ (z : Flow). z.rest) new.1) (own.rests i o.0 x q.flow o.1 is_x (subst (λ (n : ℕ). slice_get own.flows n ≡ Some q.flow) (sym new.0) q.stands))
        | inr old ↦ own.rests i o.0 x flow o.1 is_x old.1
      ])

  -- the member of the end holds its ids so from then on
  pub own_ended : (held' : List CepIds) → ((n : ℕ) (flow : Flow) (side : Side) (its : Endpoint) → slice_get own.flows n ≡ Some flow → end_at side flow ≡ Some its → its.ended ≡ None → c.own ≡ its.addr → c.scep ≡ its.cep → RestsBy g e.cube flow.rest → AreHeld g now (put n (ended_at now side flow its) own.flows) held') → IsOwn g now cloud held' ends' conns lines
  own_ended held' rest = record {
    alike = own.alike ∙ sym (length-set ends at e');
    lines_alike = own.lines_alike ∙ sym (length-set ends at e');
    flows = flows';
    places = own.places;
    entered = entered_after;
    ledger = ledger_after now own.flows (Naming (IsOfFlow g) cloud) q.x.flow q.x.side q.flow point own.ledger q.stands given up;
    rests = rests_ended;
    kept = rest q.x.flow q.flow q.x.side point q.stands q.end.is (q.end.up stood) q.end.own q.end.scep (own.rests at e q.x q.flow conn.end q.is_x q.stands);
    ids = ids_set g ends conns at e e' conn.end const own.ids;
    flows_are = ended_flows;
  }

-- an end that has ended changes its state, and has ended still
module _ (g : Config) (now : ℕ) (cloud : ℕ → Pdu → Type 0) (held : List CepIds) (ends : List End) (conns : List Ids) (lines : List Direction) (own : IsOwn g now cloud held ends conns lines) (at : ℕ) (e : End) (is : At ends at e) (state : PortState) (was : IsUp e.state → ⊥) (down : IsUp state → ⊥) where
  abbrev after : End
  after = record e { state = state }

  still_const : IsConst e after
  still_const = record { flow = refl; role = refl; port = refl; app = refl; peer = refl; cube = refl }

  still_end : (flow : Flow) (side : Side) (c : Ids) → IsEndOf flow side e c → IsEndOf flow side after c
  still_end flow side c h = record {
    point = h.point;
    is = h.is;
    role = h.role;
    own = h.own;
    far = h.far;
    scep = h.scep;
    up = λ u. absurd (down u);
    still = λ none. absurd (was (h.still none));
    knows = λ is. absurd (down (subst IsUp (sym is) tt));
    waits = λ is knows. down (subst IsUp (sym is) tt);
    known = h.known;
    asked = h.asked;
    unsent = h.unsent;
  }

  pub own_restated : IsOwn g now cloud held (slice_set ends at after) conns lines
  own_restated = record {
    alike = own.alike ∙ sym (length-set ends at after);
    lines_alike = own.lines_alike ∙ sym (length-set ends at after);
    flows = own.flows;
    places = own.places;
    entered = record {
      places_alike = own.entered.places_alike ∙ sym (length-set ends at after);
      each = λ i a f x h is_x. elim (set_at ends at i e after a is h.end) [
        | inl t ↦
            (let m = own.entered.each at e f x (record { end = is; ids_are = subst (λ (n : ℕ). slice_get conns n ≡ Some f) t.0 h.ids_are }) (subst (λ (n : ℕ). slice_get own.places n ≡ Some x) t.0 is_x) in
            record { flow = m.flow; stands = m.stands; end = subst (λ (z : End). IsEndOf m.flow x.side z f) (sym t.1) (still_end m.flow x.side f m.end) })
        | inr o ↦ own.entered.each i a f x (record { end = o.1; ids_are = h.ids_are }) is_x
      ];
      once = own.entered.once;
      named = named_set ends conns own.flows own.places own.entered at e after is still_const;
      apart = apart_set ends conns own.flows own.places own.entered at e after is still_const;
      all = own.entered.all;
    };
    ledger = own.ledger;
    rests = rests_set g ends own.flows own.places at e after is still_const own.rests;
    kept = own.kept;
    ids = ids_set g ends conns at e after is still_const own.ids;
    flows_are = λ i k a b x flow far line ha hb p is_x stands known z.
        (let l = same_whole ends at e state is i a ha in
        let r = same_whole ends at e state is k b hb in
        let p' : IsPartner l.0 r.0 = record { same_flow = sym r.2 ∙ p.same_flow ∙ l.2; other_role = λ s. p.other_role (r.3 ∙ s ∙ sym l.3) } in
        flow_moved g now cloud flow far x.side l.0 r.0 a b (ids_from x.side flow far l.0.cube) (ids_from x.side flow far a.cube) line (ap (λ (n : ℕ). ids_from x.side flow far n) (sym l.4)) l.5 r.6 r.7 (own.flows_are i k l.0 r.0 x flow far line l.1 r.1 p' is_x stands known z));
  }
