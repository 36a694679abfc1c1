-- The ask comes to the far IPC process: the far end of a flow is made. Both directions of the flow start then, with nothing in
-- flight, though the asker waits still, or has ended.
use Rattle.std.proofs.Common.{◌≡◌, ℕ, ◌+◌, ◌<◌, ◌≤◌, ◌⊎◌, List, [], ◌∷◌, ◌++◌, length, length-set, slice_get, slice_set, None, Some, refl, sym, ◌∙◌, ap, subst, arith, inl, inr}
use Rattle.std.proofs.lemmas.Bool.{cases_eq}
use Rattle.std.proofs.lemmas.Option.{none-some, same_Some}
use Rattle.rina_base.specs.declared.pdu.Pdu.{Pdu}
use Rattle.rina_cube.specs.declared.Cube.{Cube}
use Rattle.rina_cube.specs.Cubes.{IsCube}
use Rattle.rina_iface.specs.declared.ends.End.{End}
use Rattle.rina_iface.specs.declared.state.PortState.TheVariants.{Allocated}
use Rattle.rina_iface.specs.declared.state.Role.TheVariants as roles
use Rattle.rina_iface.specs.Journal.{At, IsPartner}
use Rattle.rina_iface.proofs.Changed.{set_at}
use Rattle.rina_iface.proofs.Grown.{still_at}
use Rattle.rina_law.specs.Constants.{Constants}
use Rattle.rina_law.specs.Direction.{Direction, start}
use Rattle.rina_law.proofs.Backing.{start_backed}
use Rattle.rina_rest.specs.Flows.{Asker, Endpoint, Far, Flow, Four, GoesFrom, IsFree, IsInUse, IsSameFour, Side, end_at}
use Rattle.rina_rest.specs.Ledger.{LedgerHolds, made, put}
use Rattle.rina_rest.specs.Naming.{Naming, four_in}
use Rattle.rina_rest.specs.Still.{HasEnded, rest_of}
use Rattle.rina_rest.proofs.Holding.{used_by}
use Rattle.rina_rest.proofs.Lists.{IsChanged, new_or_old, put_changed}
use Rattle.rina_rest.proofs.Rows.{make_alone, make_holds}
use Rattle.rina_rest.proofs.While.{if_backed}
use Rattle.rina_data.specs.Configs.{Config, cube_by}
use Rattle.rina_ids.specs.Members.{CepIds}
use Rattle.rina_dif_law.specs.CepIds.{AreHeld}
use Rattle.rina_dif_law.specs.Dif.{constants}
use Rattle.rina_dif_law.specs.Ids.{AcksOf, Ids, IsFrom, PiecesOf, flipped}
use Rattle.rina_dif_law.specs.Lifting.{ticked}
use Rattle.rina_dif_law.specs.Places.{IsEndOf, IsEntered, IsUp, Place, ids_from}
use Rattle.rina_dif_law.specs.Standing.{AreEntered, AreIds, IsConn, IsFlow, IsOfFlow, IsOwn, IsUntold, RestsBy}
use Rattle.rina_dif_law.proofs.Finding.{beside}
use Rattle.rina_dif_law.proofs.Lasts.{end_at_last, kept_beside, last_beside, one_at, one_long}
use Rattle.rina_dif_law.proofs.Own.{end_of_flow, end_on, not_itself}
use Rattle.rina_dif_law.proofs.OwnMade.{IsBlank}

-- where the asker's end stands: its flow of the ledger has no far end yet, and is younger than its ids rest
pub record IsWaiting (now : ℕ) (ends : List End) (flows : List Flow) (places : List Place) (at : ℕ) (e : End) : Type 0 where
  pub here : At ends at e
  pub x : Place
  pub is_x : slice_get places at ≡ Some x
  pub side : x.side ≡ Asker
  pub flow : Flow
  pub stands : slice_get flows x.flow ≡ Some flow
  pub none : flow.far ≡ None
  pub young : now < flow.asked + flow.rest
  pub blank : IsBlank e

-- the far end of the flow is new: its id is free at the address that was asked
pub record IsFarEnd (g : Config) (now : ℕ) (flows : List Flow) (flow : Flow) (e end : End) (ids : Ids) (cube : Cube) : Type 0 where
  pub is_cube : cube_by e.cube g.cubes ≡ Some cube
  pub limits : IsCube cube
  pub same_flow : end.flow ≡ e.flow
  pub answers : end.role ≡ roles.Far
  pub up : end.state ≡ Allocated
  pub same_cube : end.cube ≡ e.cube
  pub blank : IsBlank end
  pub own : ids.own ≡ flow.peer
  pub far : ids.far ≡ flow.asker.addr
  pub dcep : ids.dcep ≡ flow.asker.cep
  pub qos : ids.qos ≡ e.cube
  pub fit : AreIds g end ids
  pub free : IsFree now flows flow.peer ids.scep

-- a PDU from one end to the other has the four of the connection
same_four : (side : Side) (asker far here there : Endpoint) (four : Four) → GoesFrom side asker far four → four.src ≡ here.addr → four.scep ≡ here.cep → four.dst ≡ there.addr → four.dcep ≡ there.cep → IsSameFour here there asker far
same_four Asker asker far here there four goes src scep dst dcep = inl ((sym src ∙ goes.0, sym scep ∙ goes.1), (sym dst ∙ goes.2, sym dcep ∙ goes.3))
same_four Far asker far here there four goes src scep dst dcep = inr ((sym src ∙ goes.0, sym scep ∙ goes.1), (sym dst ∙ goes.2, sym dcep ∙ goes.3))

four_back : (a b x y : Endpoint) → IsSameFour a b x y → IsSameFour b a x y
four_back a b x y (inl h) = inr (h.1, h.0)
four_back a b x y (inr h) = inl (h.1, h.0)

module _ (g : Config) (now : ℕ) (cloud : ℕ → Pdu → Type 0) (held : List CepIds) (ends : List End) (conns : List Ids) (lines : List Direction) (own : IsOwn g now cloud held ends conns lines) (at : ℕ) (e : End) (waits : IsWaiting now ends own.flows own.places at e) (end : End) (ids : Ids) (cube : Cube) (new : IsFarEnd g now own.flows waits.flow e end ids cube) where
  abbrev ends' : List End
  ends' = ends ++ end ∷ []

  abbrev conns' : List Ids
  conns' = conns ++ ids ∷ []

  abbrev there : Direction
  there = ticked now (start (constants g cube (flipped ids)))

  abbrev back : Direction
  back = ticked now (start (constants g cube ids))

  abbrev lines' : List Direction
  lines' = slice_set lines at there ++ back ∷ []

  abbrev flow : Flow
  flow = made waits.flow ids.scep

  abbrev far_end : Endpoint
  far_end = record { addr = waits.flow.peer; cep = ids.scep; ended = None }

  abbrev flows' : List Flow
  flows' = put waits.x.flow flow own.flows

  abbrev here : Place
  here = record { flow = waits.x.flow; side = Far }

  abbrev places' : List Place
  places' = own.places ++ here ∷ []

  changed : IsChanged own.flows flows' waits.x.flow flow
  changed = put_changed own.flows waits.x.flow waits.flow flow waits.stands

  ledger_far : LedgerHolds now flows' (Naming (IsOfFlow g) cloud)
  ledger_far = make_holds now own.flows (Naming (IsOfFlow g) cloud) waits.x.flow waits.flow ids.scep own.ledger waits.stands waits.none waits.young new.free

  lines_alike : length (slice_set lines at there) ≡ length ends
  lines_alike = length-set lines at there ∙ own.lines_alike

  -- ---- the flow before: it has the asker's end alone

  at_asker : (i : ℕ) (x : Place) → slice_get own.places i ≡ Some x → x.flow ≡ waits.x.flow → x.side ≡ Asker → i ≡ at
  at_asker i x is_x same side = own.entered.once i at x waits.x is_x waits.is_x same (side ∙ sym waits.side)

  -- no end is its far end
  no_far : (i : ℕ) (x : Place) → slice_get own.places i ≡ Some x → x.flow ≡ waits.x.flow → x.side ≡ Far → ⊥
  no_far i x is_x same side =
      let a = beside own.places ends i x (sym own.entered.places_alike) is_x in
      let c = beside ends conns i a.0 own.alike a.1 in
      let stands = subst (λ (n : ℕ). slice_get own.flows n ≡ Some waits.flow) (sym same) waits.stands in
      let m = end_of_flow g now cloud held ends conns lines own i a.0 c.0 x waits.flow (record { end = a.1; ids_are = c.1 }) is_x stands in
      let is : waits.flow.far ≡ Some m.point = subst (λ (s : Side). end_at s waits.flow ≡ Some m.point) side m.is in
      none-some m.point (sym waits.none ∙ is)

  -- an end of it is the asker
  its_end : (i : ℕ) (x : Place) → slice_get own.places i ≡ Some x → x.flow ≡ waits.x.flow → i ≡ at
  its_end i x is_x same = by_side x.side refl
    where
      by_side : (s : Side) → x.side ≡ s → i ≡ at
      by_side Asker is = at_asker i x is_x same is
      by_side Far is = absurd (no_far i x is_x same is)

  -- an end with its name is the asker
  its_name : (i : ℕ) (a : End) → At ends i a → a.flow ≡ e.flow → i ≡ at
  its_name i a is_a same =
      let x = beside ends own.places i a own.entered.places_alike is_a in
      its_end i x.0 x.1 (own.entered.apart i at a e x.0 waits.x is_a waits.here x.1 waits.is_x same)

  one_end : (i : ℕ) (a : End) → At ends i a → i ≡ at → a ≡ e
  one_end i a is_a is = (let l = subst (λ (n : ℕ). At ends n a) is is_a in let r = waits.here in cc)

  one_place : (i : ℕ) (x : Place) → slice_get own.places i ≡ Some x → i ≡ at → x ≡ waits.x
  one_place i x is_x is = (let l = subst (λ (n : ℕ). slice_get own.places n ≡ Some x) is is_x in let r = waits.is_x in cc)

  -- ---- the directions

  -- nothing that may still come has the ids of the new connection
  none_alive : (a b : Endpoint) → IsSameFour waits.flow.asker far_end a b ⊎ IsSameFour far_end waits.flow.asker a b → (j : ℕ) (f : Flow) (v : IsInUse now f) → slice_get own.flows j ≡ Some f → f.asker ≡ a → v.far ≡ b → ⊥
  none_alive a b same j f v stands is is' =
      let P : Endpoint → Endpoint → Type 0 = λ u w. IsSameFour waits.flow.asker far_end u w in
      let four : P a b = elim same [ inl s ↦ s | inr s ↦ four_back far_end waits.flow.asker a b s ] in
      let four' : P f.asker v.far = subst (λ (w : Endpoint). P f.asker w) (sym is') (subst (λ (u : Endpoint). P u b) (sym is) four) in
      make_alone now own.flows (Naming (IsOfFlow g) cloud) waits.x.flow waits.flow ids.scep own.ledger waits.stands waits.none waits.young new.free j f far_end v stands refl refl four'

  none_from : (here there : Endpoint) (c : Ids) → ((a b : Endpoint) → IsSameFour here there a b → IsSameFour waits.flow.asker far_end a b ⊎ IsSameFour far_end waits.flow.asker a b) → c.own ≡ here.addr → c.scep ≡ here.cep → c.far ≡ there.addr → c.dcep ≡ there.cep → c.qos ≡ e.cube
      → (death : ℕ) (pdu : Pdu) → cloud death pdu → now ≤ death → IsFrom c pdu → ⊥
  none_from here there c same c_own c_scep c_far c_dcep qos death pdu x alive from =
      let of_flow : IsOfFlow g pdu = inr (cube, subst (λ (q : ℕ). cube_by q g.cubes ≡ Some cube) (sym (from.qos ∙ qos)) new.is_cube) in
      let a = own.ledger.alive death (four_in pdu) (record { pdu = pdu; in_cloud = x; flow = of_flow; is = refl }) alive in
      let o = a.3 in
      let v = used_by now a.1 death (four_in pdu) alive o in
      let four = same_four o.side a.1.asker o.far here there (four_in pdu) o.goes (from.src ∙ c_own) (from.scep ∙ c_scep) (from.dst ∙ c_far) (from.dcep ∙ c_dcep) in
      none_alive a.1.asker o.far (same a.1.asker o.far four) a.0 a.1 v a.2 refl refl

  -- ids by the asker, and by the far end
  ids_there : ids_from Asker flow far_end e.cube ≡ flipped ids
  ids_there = (let own_is = new.own in let far_is = new.far in let dcep_is = new.dcep in let qos_is = new.qos in cc)

  ids_back : ids_from Far flow far_end end.cube ≡ ids
  ids_back = ap (λ (q : ℕ). ids_from Far flow far_end q) new.same_cube ∙ ap flipped ids_there

  rest_is : (c : Ids) → rest_of (constants g cube c) ≡ waits.flow.rest
  rest_is c = sym (own.rests at e waits.x waits.flow waits.here waits.is_x waits.stands cube new.is_cube)

  fresh_ended : (k : Constants) (t : ℕ) → HasEnded (ticked now (start k)) t
  fresh_ended k t = omega arith

  fresh_untold : (k : Constants) (side : Side) → IsUntold k side flow (ticked now (start k))
  fresh_untold k Asker = λ told. refl
  fresh_untold k Far = λ told. record { receiver = refl; inbox = refl; passed = refl; mark = refl }

  flow_begins : (side : Side) (a b : End) (c : Ids) → ids_from side flow far_end a.cube ≡ c → c.qos ≡ e.cube → IsBlank a → IsBlank b
      → ((death : ℕ) (pdu : Pdu) → cloud death pdu → now ≤ death → IsFrom c pdu → ⊥) → ((death : ℕ) (pdu : Pdu) → cloud death pdu → now ≤ death → IsFrom (flipped c) pdu → ⊥)
      → IsFlow g now cloud flow far_end side a b (ids_from side flow far_end a.cube) (ticked now (start (constants g cube c)))
  flow_begins side a b c is qos blank blank' none none' =
      let k : Constants = constants g cube c in
      let l : Direction = ticked now (start k) in
      let backed = start_backed k now (PiecesOf cloud c) (AcksOf cloud c) new.limits
      (λ death p x alive. none death x.pdu x.in_cloud alive x.from)
      (λ death p x alive. none' death x.pdu x.in_cloud alive x.from) in
      subst (λ (z : Ids). IsFlow g now cloud flow far_end side a b z l) (sym is) (record {
        direction = record {
          cube = cube;
          is_cube = subst (λ (q : ℕ). cube_by q g.cubes ≡ Some cube) (sym qos) new.is_cube;
          backed = if_backed (IsInUse now flow) k now (PiecesOf cloud c) (AcksOf cloud c) l backed;
          sent = sym blank.sent;
          got = sym blank'.got;
          passed = sym blank'.taken;
        };
        from = record { cube = new.limits; rest = rest_is c; ended = λ t h. fresh_ended k t };
        untold = fresh_untold k side;
      })

  flow_there : IsFlow g now cloud flow far_end Asker e end (ids_from Asker flow far_end e.cube) there
  flow_there = flow_begins Asker e end (flipped ids) ids_there new.qos waits.blank new.blank
      (none_from waits.flow.asker far_end (flipped ids) (λ a b s. inl s) new.far new.dcep new.own refl new.qos)
      (none_from far_end waits.flow.asker ids (λ a b s. inr s) new.own refl new.far new.dcep new.qos)

  flow_back : IsFlow g now cloud flow far_end Far end e (ids_from Far flow far_end end.cube) back
  flow_back = flow_begins Far end e ids ids_back new.qos new.blank waits.blank
      (none_from far_end waits.flow.asker ids (λ a b s. inr s) new.own refl new.far new.dcep new.qos)
      (none_from waits.flow.asker far_end (flipped ids) (λ a b s. inl s) new.far new.dcep new.own refl new.qos)

  -- ---- the places

  far_is : IsEndOf flow Far end ids
  far_is = record {
    point = far_end;
    is = refl;
    role = new.answers;
    own = new.own;
    far = new.far;
    scep = refl;
    up = λ u. refl;
    still = λ none. subst IsUp (sym new.up) tt;
    knows = λ is. tt;
    waits = λ is knows. absurd (let up = new.up in cc);
    known = λ far is knows.
        (let same : far_end ≡ far = same_Some far_end far is in
        sym ids_back ∙ ap (λ (z : Endpoint). ids_from Far flow z end.cube) same);
    asked = λ none. absurd (none-some far_end (sym none));
    unsent = λ none. new.blank.sent;
  }

  here_entered : IsEntered flows' here end ids
  here_entered = record { flow = flow; stands = changed.at; end = far_is }

  asker_still : (c : Ids) → IsEndOf waits.flow Asker e c → IsEndOf flow Asker e c
  asker_still c m = end_on waits.flow flow Asker e c m m.is refl (λ k. k) (λ k. k) (λ far is knows. absurd ((own.ledger.flow waits.x.flow waits.flow waits.stands).heard knows waits.none)) (λ none. (m.asked waits.none, waits.blank.sent))

  old_far : (i : ℕ) (a : End) (c : Ids) (x : Place) → IsConn ends conns i a c → slice_get own.places i ≡ Some x → IsEntered flows' x a c
  old_far i a c x conn is_x = elim (cases_eq x.flow waits.x.flow) [
    | inl same ↦
        (let i_is = its_end i x is_x same in
        let x_is = one_place i x is_x i_is in
        let a_is = one_end i a conn.end i_is in
        let stands : slice_get own.flows x.flow ≡ Some waits.flow = subst (λ (n : ℕ). slice_get own.flows n ≡ Some waits.flow) (sym same) waits.stands in
        let m = end_of_flow g now cloud held ends conns lines own i a c x waits.flow conn is_x stands in
        let side : x.side ≡ Asker = ap (λ (z : Place). z.side) x_is ∙ waits.side in
        let m' : IsEndOf waits.flow Asker e c = subst (λ (z : End). IsEndOf waits.flow Asker z c) a_is (subst (λ (s : Side). IsEndOf waits.flow s a c) side m) in
        record {
          flow = flow;
          stands = subst (λ (n : ℕ). slice_get flows' n ≡ Some flow) (sym same) changed.at;
          end = subst (λ (s : Side). IsEndOf flow s a c) (sym side) (subst (λ (z : End). IsEndOf flow Asker z c) (sym a_is) (asker_still c m'));
        })
    | inr ne ↦ (let m = own.entered.each i a c x conn is_x in record { flow = m.flow; stands = changed.others x.flow ne ∙ m.stands; end = m.end })
  ]

  each_far : (i : ℕ) (a : End) (c : Ids) (x : Place) → IsConn ends' conns' i a c → slice_get places' i ≡ Some x → IsEntered flows' x a c
  each_far i a c x conn is_x = elim (one_at ends end i a conn.end) [
    | inl o ↦ old_far i a c x (record { end = o; ids_are = kept_beside ends conns ids i a c own.alike o conn.ids_are }) (kept_beside ends own.places here i a x own.entered.places_alike o is_x)
    | inr t ↦ rw (last_beside ends own.places here i x own.entered.places_alike t.0 is_x, t.1, last_beside ends conns ids i c own.alike t.0 conn.ids_are) here_entered
  ]

  once_far : (i k : ℕ) (x y : Place) → slice_get places' i ≡ Some x → slice_get places' k ≡ Some y → x.flow ≡ y.flow → x.side ≡ y.side → i ≡ k
  once_far i k x y h l same side = elim (one_at own.places here i x h) [
    | inl o ↦ elim (one_at own.places here k y l) [
      | inl p ↦ own.entered.once i k x y o p same side
      | inr t ↦ absurd (no_far i x o (same ∙ ap (λ (z : Place). z.flow) t.1) (side ∙ ap (λ (z : Place). z.side) t.1))
    ]
    | inr s ↦ elim (one_at own.places here k y l) [
      | inl p ↦ absurd (no_far k y p (sym same ∙ ap (λ (z : Place). z.flow) s.1) (sym side ∙ ap (λ (z : Place). z.side) s.1))
      | inr t ↦ s.0 ∙ sym t.0
    ]
  ]

  -- an end and its place were there, or are new
  place_far : (i : ℕ) (a : End) (x : Place) → At ends' i a → slice_get places' i ≡ Some x → (At ends i a × (slice_get own.places i ≡ Some x)) ⊎ ((a.flow ≡ e.flow) × (x.flow ≡ waits.x.flow))
  place_far i a x h is_x = elim (one_at ends end i a h) [
    | inl o ↦ inl (o, kept_beside ends own.places here i a x own.entered.places_alike o is_x)
    | inr t ↦ inr (ap (λ (z : End). z.flow) t.1 ∙ new.same_flow, ap (λ (z : Place). z.flow) (last_beside ends own.places here i x own.entered.places_alike t.0 is_x))
  ]

  all_far : (n : ℕ) (side : Side) (f : Flow) (point : Endpoint) → slice_get flows' n ≡ Some f → end_at side f ≡ Some point → (i : ℕ) × (slice_get places' i ≡ Some (record { flow = n; side = side }))
  all_far n side f point stands is = elim (new_or_old own.flows flows' waits.x.flow flow n f changed stands) [
    | inl now_made ↦
        (let P : ℕ → Type 0 = λ m. (i : ℕ) × (slice_get places' i ≡ Some (record { flow = m; side = side })) in
        subst P (sym now_made.0) (at_side side))
    | inr old ↦ (let p = own.entered.all n side f point old.1 is in (p.0, still_at own.places (here ∷ []) p.0 (record { flow = n; side = side }) p.1))
  ]
    where
      at_side : (s : Side) → (i : ℕ) × (slice_get places' i ≡ Some (record { flow = waits.x.flow; side = s }))
      at_side Asker = (let p = own.entered.all waits.x.flow Asker waits.flow waits.flow.asker waits.stands refl in (p.0, still_at own.places (here ∷ []) p.0 (record { flow = waits.x.flow; side = Asker }) p.1))
      at_side Far = (length own.places, end_at_last own.places here)

  entered_far : AreEntered ends' conns' flows' places'
  entered_far = record {
    places_alike = one_long own.places ends here end own.entered.places_alike;
    each = each_far;
    once = once_far;
    named = λ i k a b x y ha hb is_x is_y same. elim (place_far i a x ha is_x) [
      | inl o ↦ elim (place_far k b y hb is_y) [
        | inl p ↦ own.entered.named i k a b x y o.0 p.0 o.1 p.1 same
        | inr t ↦ own.entered.named i at a e x waits.x o.0 waits.here o.1 waits.is_x (same ∙ t.1) ∙ sym t.0
      ]
      | inr s ↦ elim (place_far k b y hb is_y) [
        | inl p ↦ s.0 ∙ own.entered.named at k e b waits.x y waits.here p.0 waits.is_x p.1 (sym s.1 ∙ same)
        | inr t ↦ s.0 ∙ sym t.0
      ]
    ];
    apart = λ i k a b x y ha hb is_x is_y same. elim (place_far i a x ha is_x) [
      | inl o ↦ elim (place_far k b y hb is_y) [
        | inl p ↦ own.entered.apart i k a b x y o.0 p.0 o.1 p.1 same
        | inr t ↦ own.entered.apart i at a e x waits.x o.0 waits.here o.1 waits.is_x (same ∙ t.0) ∙ sym t.1
      ]
      | inr s ↦ elim (place_far k b y hb is_y) [
        | inl p ↦ s.1 ∙ own.entered.apart at k e b waits.x y waits.here p.0 waits.is_x p.1 (sym s.0 ∙ same)
        | inr t ↦ s.1 ∙ sym t.1
      ]
    ];
    all = all_far;
  }

  -- ---- the flows

  flow_is : (x : Place) (f : Flow) → x.flow ≡ waits.x.flow → slice_get flows' x.flow ≡ Some f → f ≡ flow
  flow_is x f is stands = (let l = subst (λ (m : ℕ). slice_get flows' m ≡ Some f) is stands in let r = changed.at in cc)

  -- two ends that were there are partners of another flow
  old_pair : (i k : ℕ) (a b : End) (x : Place) (f : Flow) (far : Endpoint) (z : Direction) → At ends i a → At ends k b → IsPartner a b → slice_get own.places i ≡ Some x → slice_get flows' x.flow ≡ Some f → f.far ≡ Some far → slice_get (slice_set lines at there) i ≡ Some z → IsFlow g now cloud f far x.side a b (ids_from x.side f far a.cube) z
  old_pair i k a b x f far z ha hb p is_x stands known is_z =
      let other : x.flow ≡ waits.x.flow → ⊥ = λ same.
      (let i_is = its_end i x is_x same in
      let a_is = one_end i a ha i_is in
      let k_is = its_name k b hb (p.same_flow ∙ ap (λ (v : End). v.flow) a_is) in
      not_itself e (subst (λ (v : End). IsPartner e v) (one_end k b hb k_is) (subst (λ (v : End). IsPartner v b) a_is p))) in
      let stands' : slice_get own.flows x.flow ≡ Some f = sym (changed.others x.flow other) ∙ stands in
      let l = beside ends lines i a own.lines_alike ha in
      let elsewhere : i ≡ at → ⊥ = λ is. other (ap (λ (v : Place). v.flow) (one_place i x is_x is)) in
      let is_line : slice_get lines i ≡ Some z = old_line i z l.0 l.1 elsewhere is_z in
      own.flows_are i k a b x f far z ha hb p is_x stands' known is_line
    where
      old_line : (i : ℕ) (z l : Direction) → slice_get lines i ≡ Some l → (i ≡ at → ⊥) → slice_get (slice_set lines at there) i ≡ Some z → slice_get lines i ≡ Some z
      old_line i z l is ne h =
          let here_line = beside ends lines at e own.lines_alike waits.here in
          elim (set_at lines at i here_line.0 there z here_line.1 h) [
            | inl t ↦ absurd (ne t.0)
            | inr o ↦ o.1
          ]

  there_is : (i : ℕ) (a : End) (z : Direction) → At ends i a → i ≡ at → slice_get (slice_set lines at there) i ≡ Some z → z ≡ there
  there_is i a z ha is h =
      let here_line = beside ends lines at e own.lines_alike waits.here in
      elim (set_at lines at i here_line.0 there z here_line.1 h) [
        | inl t ↦ t.1
        | inr o ↦ absurd (o.0 is)
      ]

  flows_far : (i k : ℕ) (a b : End) (x : Place) (f : Flow) (far : Endpoint) (z : Direction) → At ends' i a → At ends' k b → IsPartner a b → slice_get places' i ≡ Some x → slice_get flows' x.flow ≡ Some f → f.far ≡ Some far → slice_get lines' i ≡ Some z → IsFlow g now cloud f far x.side a b (ids_from x.side f far a.cube) z
  flows_far i k a b x f far z ha hb p is_x stands known is_z = elim (one_at ends end i a ha) [
    | inl o ↦
        (let x_is = kept_beside ends own.places here i a x own.entered.places_alike o is_x in
        let z_is = kept_beside ends (slice_set lines at there) back i a z lines_alike o is_z in
        elim (one_at ends end k b hb) [
          | inl q ↦ old_pair i k a b x f far z o q p x_is stands known z_is
          | inr t ↦
              (let i_is = its_name i a o (sym p.same_flow ∙ ap (λ (v : End). v.flow) t.1 ∙ new.same_flow) in
              let place_is = one_place i x x_is i_is in
              let f_is = flow_is x f (ap (λ (v : Place). v.flow) place_is) stands in
              let far_same : far ≡ far_end = same_Some far far_end (sym known ∙ ap (λ (v : Flow). v.far) f_is) in
              let side : x.side ≡ Asker = ap (λ (v : Place). v.side) place_is ∙ waits.side in
              rw (side, one_end i a o i_is, t.1, there_is i a z o i_is z_is, f_is, far_same) flow_there)
        ])
    | inr s ↦
        (let place_is = last_beside ends own.places here i x own.entered.places_alike s.0 is_x in
        let z_is = last_beside ends (slice_set lines at there) back i z lines_alike s.0 is_z in
        let f_is = flow_is x f (ap (λ (v : Place). v.flow) place_is) stands in
        let far_same : far ≡ far_end = same_Some far far_end (sym known ∙ ap (λ (v : Flow). v.far) f_is) in
        elim (one_at ends end k b hb) [
          | inl q ↦
              (let k_is = its_name k b q (p.same_flow ∙ ap (λ (v : End). v.flow) s.1 ∙ new.same_flow) in
              rw (place_is, s.1, one_end k b q k_is, z_is, f_is, far_same) flow_back)
          | inr t ↦ absurd (p.other_role (ap (λ (v : End). v.role) (t.1 ∙ sym s.1)))
        ])
  ]

  rests_far : (i : ℕ) (a : End) (x : Place) (f : Flow) → At ends' i a → slice_get places' i ≡ Some x → slice_get flows' x.flow ≡ Some f → RestsBy g a.cube f.rest
  rests_far i a x f ha is_x stands = elim (one_at ends end i a ha) [
    | inl o ↦
        (let x_is = kept_beside ends own.places here i a x own.entered.places_alike o is_x in
        elim (cases_eq x.flow waits.x.flow) [
          | inl same ↦
              (let f_is = flow_is x f same stands in
              let a_is = one_end i a o (its_end i x x_is same) in
              subst (λ (v : Flow). RestsBy g a.cube v.rest) (sym f_is) (subst (λ (v : End). RestsBy g v.cube waits.flow.rest) (sym a_is) (own.rests at e waits.x waits.flow waits.here waits.is_x waits.stands)))
          | inr ne ↦ own.rests i a x f o x_is (sym (changed.others x.flow ne) ∙ stands)
        ])
    | inr s ↦
        (let place_is = last_beside ends own.places here i x own.entered.places_alike s.0 is_x in
        let f_is = flow_is x f (ap (λ (v : Place). v.flow) place_is) stands in
        let cube_is : a.cube ≡ e.cube = ap (λ (v : End). v.cube) s.1 ∙ new.same_cube in
        subst (λ (v : Flow). RestsBy g a.cube v.rest) (sym f_is) (subst (λ (q : ℕ). RestsBy g q waits.flow.rest) (sym cube_is) (own.rests at e waits.x waits.flow waits.here waits.is_x waits.stands)))
  ]

  -- the member of the far end holds its id so from then on
  pub own_far : (held' : List CepIds) → AreHeld g now flows' held' → IsOwn g now cloud held' ends' conns' lines'
  own_far held' kept = record {
    alike = one_long conns ends ids end own.alike;
    lines_alike = one_long (slice_set lines at there) ends back end lines_alike;
    flows = flows';
    places = places';
    entered = entered_far;
    ledger = ledger_far;
    rests = rests_far;
    kept = kept;
    ids = λ i a c conn. elim (one_at ends end i a conn.end) [
      | inl o ↦ own.ids i a c (record { end = o; ids_are = kept_beside ends conns ids i a c own.alike o conn.ids_are })
      | inr t ↦ rw (t.1, last_beside ends conns ids i c own.alike t.0 conn.ids_are) new.fit
    ];
    flows_are = flows_far;
  }
