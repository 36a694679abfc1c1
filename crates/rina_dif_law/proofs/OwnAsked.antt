-- A flow is asked for: it has the asker's end alone, which waits.
use Rattle.std.proofs.Common.{◌≡◌, ◌≢◌, ℕ, ◌⊎◌, true, false, List, [], ◌∷◌, ◌++◌, length, slice_get, Some, refl, sym, ◌∙◌, ap, subst, arith, inl, inr}
use Rattle.std.proofs.lemmas.Option.{none-some, same_Some, slice_get_within}
use Rattle.rina_base.specs.declared.pdu.Pdu.{Pdu}
use Rattle.rina_cube.specs.declared.Cube.{Cube}
use Rattle.rina_cube.specs.Cubes.{IsCube}
use Rattle.rina_iface.specs.declared.ends.End.{End}
use Rattle.rina_iface.specs.declared.state.PortState.TheVariants.{Pending}
use Rattle.rina_iface.specs.declared.state.Role.TheVariants as roles
use Rattle.rina_iface.specs.Journal.{At, IsPartner}
use Rattle.rina_iface.proofs.Grown.{still_at}
use Rattle.rina_law.specs.Direction.{Direction}
use Rattle.rina_rest.specs.Flows.{Asker, Endpoint, Far, Flow, IsFree, Side, end_at}
use Rattle.rina_rest.specs.Ledger.{LedgerHolds, asked_flow}
use Rattle.rina_rest.specs.Naming.{Naming}
use Rattle.rina_rest.specs.Still.{rest_of}
use Rattle.rina_rest.proofs.Lists.{new_or_old, push_changed}
use Rattle.rina_rest.proofs.Rows.{ask_holds}
use Rattle.rina_data.specs.Configs.{Config, cube_by}
use Rattle.rina_ids.specs.Members.{CepIds}
use Rattle.rina_dif_law.specs.CepIds.{AreHeld}
use Rattle.rina_dif_law.specs.Dif.{constants}
use Rattle.rina_dif_law.specs.Ids.{Ids}
use Rattle.rina_dif_law.specs.Places.{IsEndOf, IsEntered, IsUp, Place, ids_from}
use Rattle.rina_dif_law.specs.Standing.{AreEntered, AreIds, IsConn, IsFlow, IsOfFlow, IsOwn, RestsBy}
use Rattle.rina_dif_law.proofs.Finding.{beside}
use Rattle.rina_dif_law.proofs.Lasts.{end_at_last, kept_beside, last_beside, one_at, one_long}
use Rattle.rina_dif_law.proofs.OwnMade.{some_rest}

-- an end is new, and waits: no flow has its name, and its id is free. `ids.far` is the address that it asks
pub record IsAsked (g : Config) (now : ℕ) (ends : List End) (flows : List Flow) (asker : End) (ids : Ids) (cube : Cube) : Type 0 where
  pub is_cube : cube_by ids.qos g.cubes ≡ Some cube
  pub limits : IsCube cube
  pub fresh : (i : ℕ) (e : End) → At ends i e → e.flow ≢ asker.flow
  pub asks : asker.role ≡ roles.Asker
  pub waits : asker.state ≡ Pending
  pub asked : asker.flow.tick ≡ now
  pub unsent : asker.sent ≡ []
  pub asker_cube : asker.cube ≡ ids.qos
  pub apart : ids.far ≡ ids.own → ⊥
  pub free : IsFree now flows ids.own ids.scep
  pub asker_ids : AreIds g asker ids

module _ (g : Config) (now : ℕ) (cloud : ℕ → Pdu → Type 0) (held : List CepIds) (ends : List End) (conns : List Ids) (lines : List Direction) (own : IsOwn g now cloud held ends conns lines) (asker : End) (ids : Ids) (line : Direction) (cube : Cube) (new : IsAsked g now ends own.flows asker ids cube) where
  abbrev ends' : List End
  ends' = ends ++ asker ∷ []

  abbrev conns' : List Ids
  conns' = conns ++ ids ∷ []

  abbrev lines' : List Direction
  lines' = lines ++ line ∷ []

  abbrev flow : Flow
  flow = asked_flow now (rest_of (constants g cube ids)) ids.far ids.own ids.scep

  abbrev flows' : List Flow
  flows' = own.flows ++ flow ∷ []

  abbrev here : Place
  here = record { flow = length own.flows; side = Asker }

  abbrev places' : List Place
  places' = own.places ++ here ∷ []

  ledger_asked : LedgerHolds now flows' (Naming (IsOfFlow g) cloud)
  ledger_asked = ask_holds now own.flows (Naming (IsOfFlow g) cloud) (rest_of (constants g cube ids)) ids.far ids.own ids.scep own.ledger (some_rest (constants g cube ids) new.limits) new.apart new.free

  -- a place that was there has a flow that was there
  not_last : (i : ℕ) (x : Place) → slice_get own.places i ≡ Some x → x.flow ≡ length own.flows → ⊥
  not_last i x is same =
      let e = beside own.places ends i x (sym own.entered.places_alike) is in
      let c = beside ends conns i e.0 own.alike e.1 in
      let m = own.entered.each i e.0 c.0 x (record { end = e.1; ids_are = c.1 }) is in
      let lt = slice_get_within own.flows x.flow m.flow m.stands in
      omega (arith, lt, same)

  asker_is : IsEndOf flow Asker asker ids
  asker_is = record {
    point = flow.asker;
    is = refl;
    role = new.asks;
    own = refl;
    far = refl;
    scep = refl;
    up = λ u. refl;
    still = λ none. subst IsUp (sym new.waits) tt;
    knows = λ is. absurd (let waits = new.waits in cc);
    waits = λ is knows. (let untold : false ≡ true = knows in cc);
    known = λ far is knows. absurd (none-some far is);
    asked = λ none. new.asked;
    unsent = λ none. new.unsent;
  }

  here_entered : IsEntered flows' here asker ids
  here_entered = record { flow = flow; stands = (push_changed own.flows flow).at; end = asker_is }

  each_asked : (i : ℕ) (e : End) (c : Ids) (x : Place) → IsConn ends' conns' i e c → slice_get places' i ≡ Some x → IsEntered flows' x e c
  each_asked i e c x conn is_x = elim (one_at ends asker i e conn.end) [
    | inl o ↦
        (let c_is = kept_beside ends conns ids i e c own.alike o conn.ids_are in
        let x_is = kept_beside ends own.places here i e x own.entered.places_alike o is_x in
        let m = own.entered.each i e c x (record { end = o; ids_are = c_is }) x_is in
        record { flow = m.flow; stands = still_at own.flows (flow ∷ []) x.flow m.flow m.stands; end = m.end })
    | inr t ↦ rw (last_beside ends own.places here i x own.entered.places_alike t.0 is_x, t.1, last_beside ends conns ids i c own.alike t.0 conn.ids_are) here_entered
  ]

  once_asked : (i k : ℕ) (x y : Place) → slice_get places' i ≡ Some x → slice_get places' k ≡ Some y → x.flow ≡ y.flow → x.side ≡ y.side → i ≡ k
  once_asked i k x y h l same side = elim (one_at own.places here i x h) [
    | inl o ↦ elim (one_at own.places here k y l) [
      | inl p ↦ own.entered.once i k x y o p same side
      | inr t ↦ absurd (not_last i x o (same ∙ ap (λ (z : Place). z.flow) t.1))
    ]
    | inr s ↦ elim (one_at own.places here k y l) [
      | inl p ↦ absurd (not_last k y p (sym same ∙ ap (λ (z : Place). z.flow) s.1))
      | inr t ↦ s.0 ∙ sym t.0
    ]
  ]

  -- an end and its place were there, or are new
  place_asked : (i : ℕ) (e : End) (x : Place) → At ends' i e → slice_get places' i ≡ Some x → (At ends i e × (slice_get own.places i ≡ Some x)) ⊎ ((e.flow ≡ asker.flow) × (x.flow ≡ length own.flows))
  place_asked i e x h is_x = elim (one_at ends asker i e h) [
    | inl o ↦ inl (o, kept_beside ends own.places here i e x own.entered.places_alike o is_x)
    | inr t ↦ inr (ap (λ (z : End). z.flow) t.1, ap (λ (z : Place). z.flow) (last_beside ends own.places here i x own.entered.places_alike t.0 is_x))
  ]

  all_asked : (n : ℕ) (side : Side) (f : Flow) (point : Endpoint) → slice_get flows' n ≡ Some f → end_at side f ≡ Some point → (i : ℕ) × (slice_get places' i ≡ Some (record { flow = n; side = side }))
  all_asked n side f point stands is = elim (new_or_old own.flows flows' (length own.flows) flow n f (push_changed own.flows flow) stands) [
    | inl made ↦
        (let P : ℕ → Type 0 = λ m. (i : ℕ) × (slice_get places' i ≡ Some (record { flow = m; side = side })) in
        subst P (sym made.0) (at_side side (subst (λ (z : Flow). end_at side z ≡ Some point) (sym made.1) is)))
    | inr old ↦ (let p = own.entered.all n side f point old.1 is in (p.0, still_at own.places (here ∷ []) p.0 (record { flow = n; side = side }) p.1))
  ]
    where
      at_side : (s : Side) → end_at s flow ≡ Some point → (i : ℕ) × (slice_get places' i ≡ Some (record { flow = length own.flows; side = s }))
      at_side Asker found = (length own.places, end_at_last own.places here)
      at_side Far found = absurd (none-some point found)

  entered_asked : AreEntered ends' conns' flows' places'
  entered_asked = record {
    places_alike = one_long own.places ends here asker own.entered.places_alike;
    each = each_asked;
    once = once_asked;
    named = λ i k a b x y ha hb is_x is_y same. elim (place_asked i a x ha is_x) [
      | inl o ↦ elim (place_asked k b y hb is_y) [
        | inl p ↦ own.entered.named i k a b x y o.0 p.0 o.1 p.1 same
        | inr t ↦ absurd (not_last i x o.1 (same ∙ t.1))
      ]
      | inr s ↦ elim (place_asked k b y hb is_y) [
        | inl p ↦ absurd (not_last k y p.1 (sym same ∙ s.1))
        | inr t ↦ s.0 ∙ sym t.0
      ]
    ];
    apart = λ i k a b x y ha hb is_x is_y same. elim (place_asked i a x ha is_x) [
      | inl o ↦ elim (place_asked k b y hb is_y) [
        | inl p ↦ own.entered.apart i k a b x y o.0 p.0 o.1 p.1 same
        | inr t ↦ absurd (new.fresh i a o.0 (same ∙ t.0))
      ]
      | inr s ↦ elim (place_asked k b y hb is_y) [
        | inl p ↦ absurd (new.fresh k b p.0 (sym same ∙ s.0))
        | inr t ↦ s.1 ∙ sym t.1
      ]
    ];
    all = all_asked;
  }

  old_stands : (i : ℕ) (x : Place) (f : Flow) → slice_get own.places i ≡ Some x → slice_get flows' x.flow ≡ Some f → slice_get own.flows x.flow ≡ Some f
  old_stands i x f is_x stands = elim (new_or_old own.flows flows' (length own.flows) flow x.flow f (push_changed own.flows flow) stands) [
    | inl made ↦ absurd (not_last i x is_x made.0)
    | inr old ↦ old.1
  ]

  -- the new end has no partner
  flows_asked : (i k : ℕ) (a b : End) (x : Place) (f : Flow) (far : Endpoint) (z : Direction) → At ends' i a → At ends' k b → IsPartner a b → slice_get places' i ≡ Some x → slice_get flows' x.flow ≡ Some f → f.far ≡ Some far → slice_get lines' i ≡ Some z → IsFlow g now cloud f far x.side a b (ids_from x.side f far a.cube) z
  flows_asked i k a b x f far z ha hb p is_x stands known is_z = elim (one_at ends asker i a ha) [
    | inl o ↦ elim (one_at ends asker k b hb) [
      | inl q ↦
          (let x_is = kept_beside ends own.places here i a x own.entered.places_alike o is_x in
          own.flows_are i k a b x f far z o q p x_is (old_stands i x f x_is stands) known (kept_beside ends lines line i a z own.lines_alike o is_z))
      | inr t ↦ absurd (new.fresh i a o (sym p.same_flow ∙ ap (λ (e : End). e.flow) t.1))
    ]
    | inr s ↦ elim (one_at ends asker k b hb) [
      | inl q ↦ absurd (new.fresh k b q (p.same_flow ∙ ap (λ (e : End). e.flow) s.1))
      | inr t ↦ absurd (p.other_role (ap (λ (e : End). e.role) (t.1 ∙ sym s.1)))
    ]
  ]

  new_rests : (qos : ℕ) → qos ≡ ids.qos → RestsBy g qos flow.rest
  new_rests qos same other is = (let is_cube = new.is_cube in let one : cube ≡ other = cc in ap (λ (z : Cube). rest_of (constants g z ids)) one)

  rests_asked : (i : ℕ) (a : End) (x : Place) (f : Flow) → At ends' i a → slice_get places' i ≡ Some x → slice_get flows' x.flow ≡ Some f → RestsBy g a.cube f.rest
  rests_asked i a x f ha is_x stands = elim (one_at ends asker i a ha) [
    | inl o ↦
        (let x_is = kept_beside ends own.places here i a x own.entered.places_alike o is_x in
        own.rests i a x f o x_is (old_stands i x f x_is stands))
    | inr s ↦
        (let x_is = last_beside ends own.places here i x own.entered.places_alike s.0 is_x in
        let last : slice_get flows' x.flow ≡ Some flow = subst (λ (m : ℕ). slice_get flows' m ≡ Some flow) (sym (ap (λ (v : Place). v.flow) x_is)) (push_changed own.flows flow).at in
        let f_is : flow ≡ f = same_Some flow f (sym last ∙ stands) in
        subst (λ (v : Flow). RestsBy g a.cube v.rest) f_is (new_rests a.cube (ap (λ (v : End). v.cube) s.1 ∙ new.asker_cube)))
  ]

  -- the member of the asker holds the id so from then on. Any direction may stand at the place of an end that waits
  pub own_asked : (held' : List CepIds) → AreHeld g now flows' held' → IsOwn g now cloud held' ends' conns' lines'
  own_asked held' kept = record {
    alike = one_long conns ends ids asker own.alike;
    lines_alike = one_long lines ends line asker own.lines_alike;
    flows = flows';
    places = places';
    entered = entered_asked;
    ledger = ledger_asked;
    rests = rests_asked;
    kept = kept;
    ids = λ i e c conn. elim (one_at ends asker i e conn.end) [
      | inl o ↦ own.ids i e c (record { end = o; ids_are = kept_beside ends conns ids i e c own.alike o conn.ids_are })
      | inr t ↦ rw (t.1, last_beside ends conns ids i c own.alike t.0 conn.ids_are) new.asker_ids
    ];
    flows_are = flows_asked;
  }
