-- A flow is made, with both its ends: it is asked for, made and told at once, and its directions start now.
use Rattle.std.proofs.Common.{◌≡◌, ◌≢◌, ℕ, suc, ◌<◌, ◌≤◌, ◌⊎◌, true, false, List, [], ◌∷◌, ◌++◌, length, slice_get, None, Some, refl, sym, ◌∙◌, ap, subst, arith, inl, inr}
use Rattle.std.proofs.lemmas.Option.{none-some, same_Some, slice_get_within}
use Rattle.rina_base.specs.declared.pdu.Pdu.{Pdu}
use Rattle.rina_cube.specs.declared.Cube.{Cube}
use Rattle.rina_cube.specs.Cubes.{IsCube}
use Rattle.rina_iface.specs.declared.ends.End.{End}
use Rattle.rina_iface.specs.declared.state.PortState.TheVariants.{Allocated}
use Rattle.rina_iface.specs.declared.state.Role.TheVariants as roles
use Rattle.rina_iface.specs.Journal.{At, IsPartner}
use Rattle.rina_iface.proofs.Grown.{still_at}
use Rattle.rina_law.specs.Backed.{Covers}
use Rattle.rina_law.specs.Constants.{Constants}
use Rattle.rina_law.specs.Direction.{Direction, start}
use Rattle.rina_law.proofs.Backing.{start_backed}
use Rattle.rina_rest.specs.Flows.{Asker, Endpoint, Far, Flow, Four, GoesFrom, HasRested, IsFree, IsInUse, Side, end_at}
use Rattle.rina_rest.specs.Ledger.{LedgerHolds, Stands, bound_flow}
use Rattle.rina_rest.specs.Naming.{Naming, four_in}
use Rattle.rina_rest.specs.Still.{rest_of}
use Rattle.rina_rest.proofs.Holding.{used_by}
use Rattle.rina_rest.proofs.Lists.{new_or_old, push_changed}
use Rattle.rina_rest.proofs.Rows.{bound_holds, cloud_holds}
use Rattle.rina_rest.proofs.While.{from_standing, if_backed, naming_covers}
use Rattle.rina_data.specs.Configs.{Config, cube_by}
use Rattle.rina_ids.specs.Members.{CepIds}
use Rattle.rina_dif_law.specs.CepIds.{AreHeld}
use Rattle.rina_dif_law.specs.Dif.{constants}
use Rattle.rina_dif_law.specs.Ids.{AcksOf, Ids, IsFrom, PiecesOf, flipped}
use Rattle.rina_dif_law.specs.Lifting.{ticked}
use Rattle.rina_dif_law.specs.Places.{IsEndOf, IsEntered, IsUp, Place, ids_from}
use Rattle.rina_dif_law.specs.Standing.{AreEntered, AreIds, IsConn, IsFlow, IsOfFlow, IsOwn, IsUntold, RestsBy}
use Rattle.rina_dif_law.proofs.Finding.{beside}
use Rattle.rina_dif_law.proofs.Flows.{flow_recovered}
use Rattle.rina_dif_law.proofs.Pairs.{first_at, first_beside, old_beside, second_at, second_beside, two_at, two_long}

-- nothing was sent, got or taken
pub record IsBlank (e : End) : Type 0 where
  pub sent : e.sent ≡ []
  pub got : e.got ≡ []
  pub taken : e.taken ≡ 0

-- two ends and their directions are new: no flow has their name, and the ids of both are free
pub record AreNew (g : Config) (now : ℕ) (cloud cloud' : ℕ → Pdu → Type 0) (ends : List End) (flows : List Flow) (asker end : End) (ids : Ids) (there back : Direction) (cube : Cube) : Type 0 where
  pub covers : Covers now cloud cloud'
  pub is_cube : cube_by ids.qos g.cubes ≡ Some cube
  pub limits : IsCube cube
  pub fresh : (i : ℕ) (e : End) → At ends i e → e.flow ≢ asker.flow
  pub same_flow : end.flow ≡ asker.flow
  pub asks : asker.role ≡ roles.Asker
  pub answers : end.role ≡ roles.Far
  pub asker_up : asker.state ≡ Allocated
  pub end_up : end.state ≡ Allocated
  pub asker_cube : asker.cube ≡ ids.qos
  pub end_cube : end.cube ≡ ids.qos
  pub apart : ids.far ≡ ids.own → ⊥
  pub free : IsFree now flows ids.own ids.scep
  pub far_free : IsFree now flows ids.far ids.dcep
  pub asker_blank : IsBlank asker
  pub end_blank : IsBlank end
  pub asker_ids : AreIds g asker ids
  pub end_ids : AreIds g end (flipped ids)
  pub there_is : there ≡ ticked now (start (constants g cube ids))
  pub back_is : back ≡ ticked now (start (constants g cube (flipped ids)))

-- no connection in use goes between two ids that are free
none_in_use : (now : ℕ) (flows : List Flow) (a c b d : ℕ) → IsFree now flows a c → IsFree now flows b d → (n : ℕ) (f : Flow) (far : Endpoint) → slice_get flows n ≡ Some f → f.far ≡ Some far → (HasRested f.rest now f.asker → HasRested f.rest now far → ⊥) → (side : Side) (four : Four) → GoesFrom side f.asker far four → four.src ≡ a → four.scep ≡ c → four.dst ≡ b → four.dcep ≡ d → ⊥
none_in_use now flows a c b d free free' n f far stands known used Asker four goes src scep dst dcep = used (free n f Asker f.asker stands refl (sym goes.0 ∙ src) (sym goes.1 ∙ scep)) (free' n f Far far stands known (sym goes.2 ∙ dst) (sym goes.3 ∙ dcep))
none_in_use now flows a c b d free free' n f far stands known used Far four goes src scep dst dcep = used (free' n f Asker f.asker stands refl (sym goes.2 ∙ dst) (sym goes.3 ∙ dcep)) (free n f Far far stands known (sym goes.0 ∙ src) (sym goes.1 ∙ scep))

pub some_rest : (k : Constants) → IsCube k.cube → 1 ≤ rest_of k
some_rest k limits = (let least = limits.least_mpl in omega arith)

module _ (g : Config) (now : ℕ) (cloud cloud' : ℕ → Pdu → Type 0) (held : List CepIds) (ends : List End) (conns : List Ids) (lines : List Direction) (own : IsOwn g now cloud held ends conns lines) (asker end : End) (ids : Ids) (there back : Direction) (cube : Cube) (new : AreNew g now cloud cloud' ends own.flows asker end ids there back cube) where
  abbrev ends' : List End
  ends' = ends ++ asker ∷ end ∷ []

  abbrev conns' : List Ids
  conns' = conns ++ ids ∷ flipped ids ∷ []

  abbrev lines' : List Direction
  lines' = lines ++ there ∷ back ∷ []

  abbrev flow : Flow
  flow = bound_flow now (rest_of (constants g cube ids)) ids.far ids.own ids.scep ids.dcep

  abbrev far_end : Endpoint
  far_end = record { addr = ids.far; cep = ids.dcep; ended = None }

  abbrev flows' : List Flow
  flows' = own.flows ++ flow ∷ []

  abbrev here : Place
  here = record { flow = length own.flows; side = Asker }

  abbrev other : Place
  other = record { flow = length own.flows; side = Far }

  abbrev places' : List Place
  places' = own.places ++ here ∷ other ∷ []

  -- ---- the ledger

  ledger_made : LedgerHolds now flows' (Naming (IsOfFlow g) cloud')
  ledger_made = bound_holds now own.flows (Naming (IsOfFlow g) cloud') (rest_of (constants g cube ids)) ids.far ids.own ids.scep ids.dcep
      (cloud_holds now own.flows (Naming (IsOfFlow g) cloud) (Naming (IsOfFlow g) cloud') (naming_covers (IsOfFlow g) now cloud cloud' new.covers) own.ledger)
      (some_rest (constants g cube ids) new.limits) new.apart new.free new.far_free

  -- nothing that may still come goes between the two ids
  none_alive : (c : Ids) → c.qos ≡ ids.qos → IsFree now own.flows c.own c.scep → IsFree now own.flows c.far c.dcep → (death : ℕ) (pdu : Pdu) → cloud' death pdu → now ≤ death → IsFrom c pdu → ⊥
  none_alive c qos free free' death pdu x alive from =
      let old = new.covers death pdu x alive in
      let later = old.1 in
      let of_flow : IsOfFlow g pdu = inr (cube, subst (λ (q : ℕ). cube_by q g.cubes ≡ Some cube) (sym (from.qos ∙ qos)) new.is_cube) in
      let still : now ≤ old.0 = omega arith in
      let a = own.ledger.alive old.0 (four_in pdu) (record { pdu = pdu; in_cloud = old.2; flow = of_flow; is = refl }) still in
      let o = a.3 in
      none_in_use now own.flows c.own c.scep c.far c.dcep free free' a.0 a.1 o.far a.2 o.known (used_by now a.1 old.0 (four_in pdu) still o).unrested o.side (four_in pdu) o.goes from.src from.scep from.dst from.dcep

  -- ---- the directions

  flow_begins : (side : Side) (a b : End) (c : Ids) (line : Direction) → ids_from side flow far_end a.cube ≡ c → c.qos ≡ ids.qos → line ≡ ticked now (start (constants g cube c)) → Stands side flow far_end → IsBlank a → IsBlank b → IsFree now own.flows c.own c.scep → IsFree now own.flows c.far c.dcep
      → ((k : Constants) (l : Direction) → IsUntold k side flow l) → IsFlow g now cloud' flow far_end side a b (ids_from side flow far_end a.cube) line
  flow_begins side a b c line is qos begins up blank blank' free free' untold =
      let k : Constants = constants g cube c in
      let l : Direction = ticked now (start k) in
      let limits = new.limits in
      let backed = start_backed k now (PiecesOf cloud' c) (AcksOf cloud' c) limits
      (λ death p x alive. none_alive c qos free free' death x.pdu x.in_cloud alive x.from)
      (λ death p x alive. none_alive (flipped c) qos free' free death x.pdu x.in_cloud alive x.from) in
      subst (λ (z : Ids). IsFlow g now cloud' flow far_end side a b z line) (sym is) (subst (λ (z : Direction). IsFlow g now cloud' flow far_end side a b c z) (sym begins) (record {
        direction = record {
          cube = cube;
          is_cube = subst (λ (q : ℕ). cube_by q g.cubes ≡ Some cube) (sym qos) new.is_cube;
          backed = if_backed (IsInUse now flow) k now (PiecesOf cloud' c) (AcksOf cloud' c) l backed;
          sent = sym blank.sent;
          got = sym blank'.got;
          passed = sym blank'.taken;
        };
        from = from_standing k flow far_end l side limits refl up;
        untold = untold k l;
      }))

  flow_there : IsFlow g now cloud' flow far_end Asker asker end (ids_from Asker flow far_end asker.cube) there
  flow_there = flow_begins Asker asker end ids there (ap (λ (q : ℕ). ids_from Asker flow far_end q) new.asker_cube) refl new.there_is refl new.asker_blank new.end_blank new.free new.far_free (λ k l waiting. absurd (let clash : true ≡ false = waiting in cc))

  flow_back : IsFlow g now cloud' flow far_end Far end asker (ids_from Far flow far_end end.cube) back
  flow_back = flow_begins Far end asker (flipped ids) back (ap (λ (q : ℕ). ids_from Far flow far_end q) new.end_cube) refl new.back_is refl new.end_blank new.asker_blank new.far_free new.free (λ k l waiting. absurd (let clash : true ≡ false = waiting in cc))

  -- ---- the places

  -- a place that was there has a flow that was there
  old_flow : (i : ℕ) (x : Place) → slice_get own.places i ≡ Some x → x.flow < length own.flows
  old_flow i x is =
      let e = beside own.places ends i x (sym own.entered.places_alike) is in
      let c = beside ends conns i e.0 own.alike e.1 in
      let m = own.entered.each i e.0 c.0 x (record { end = e.1; ids_are = c.1 }) is in
      slice_get_within own.flows x.flow m.flow m.stands

  not_last : (i : ℕ) (x : Place) → slice_get own.places i ≡ Some x → x.flow ≡ length own.flows → ⊥
  not_last i x is same = (let lt = old_flow i x is in omega (arith, lt, same))

  last_stands : slice_get flows' (length own.flows) ≡ Some flow
  last_stands = (push_changed own.flows flow).at

  asker_is : IsEndOf flow Asker asker ids
  asker_is = record {
    point = flow.asker;
    is = refl;
    role = new.asks;
    own = refl;
    far = refl;
    scep = refl;
    up = λ u. refl;
    still = λ none. subst IsUp (sym new.asker_up) tt;
    knows = λ is. refl;
    waits = λ is knows. absurd (let up = new.asker_up in cc);
    known = λ far is knows.
        (let same : far_end ≡ far = same_Some far_end far is in
        ap (λ (q : ℕ). ids_from Asker flow far_end q) (sym new.asker_cube) ∙ ap (λ (z : Endpoint). ids_from Asker flow z asker.cube) same);
    asked = λ none. absurd (none-some far_end (sym none));
    unsent = λ none. new.asker_blank.sent;
  }

  end_is : IsEndOf flow Far end (flipped ids)
  end_is = record {
    point = far_end;
    is = refl;
    role = new.answers;
    own = refl;
    far = refl;
    scep = refl;
    up = λ u. refl;
    still = λ none. subst IsUp (sym new.end_up) tt;
    knows = λ is. tt;
    waits = λ is knows. absurd (let up = new.end_up in cc);
    known = λ far is knows.
        (let same : far_end ≡ far = same_Some far_end far is in
        ap (λ (q : ℕ). ids_from Far flow far_end q) (sym new.end_cube) ∙ ap (λ (z : Endpoint). ids_from Far flow z end.cube) same);
    asked = λ none. absurd (none-some far_end (sym none));
    unsent = λ none. new.end_blank.sent;
  }

  here_entered : IsEntered flows' here asker ids
  here_entered = record { flow = flow; stands = last_stands; end = asker_is }

  other_entered : IsEntered flows' other end (flipped ids)
  other_entered = record { flow = flow; stands = last_stands; end = end_is }

  each_made : (i : ℕ) (e : End) (c : Ids) (x : Place) → IsConn ends' conns' i e c → slice_get places' i ≡ Some x → IsEntered flows' x e c
  each_made i e c x conn is_x = elim (two_at ends asker end i e conn.end) [
    | inl o ↦
        (let c_is = old_beside ends conns ids (flipped ids) i e c own.alike o conn.ids_are in
        let x_is = old_beside ends own.places here other i e x own.entered.places_alike o is_x in
        let m = own.entered.each i e c x (record { end = o; ids_are = c_is }) x_is in
        record { flow = m.flow; stands = still_at own.flows (flow ∷ []) x.flow m.flow m.stands; end = m.end })
    | inr (inl t) ↦ rw (first_beside ends own.places here other i x own.entered.places_alike t.0 is_x, t.1, first_beside ends conns ids (flipped ids) i c own.alike t.0 conn.ids_are) here_entered
    | inr (inr t) ↦ rw (second_beside ends own.places here other i x own.entered.places_alike t.0 is_x, t.1, second_beside ends conns ids (flipped ids) i c own.alike t.0 conn.ids_are) other_entered
  ]

  once_made : (i k : ℕ) (x y : Place) → slice_get places' i ≡ Some x → slice_get places' k ≡ Some y → x.flow ≡ y.flow → x.side ≡ y.side → i ≡ k
  once_made i k x y h l flow_same side = elim (two_at own.places here other i x h) [
    | inl o ↦ elim (two_at own.places here other k y l) [
      | inl p ↦ own.entered.once i k x y o p flow_same side
      | inr (inl t) ↦ absurd (not_last i x o (flow_same ∙ ap (λ (z : Place). z.flow) t.1))
      | inr (inr t) ↦ absurd (not_last i x o (flow_same ∙ ap (λ (z : Place). z.flow) t.1))
    ]
    | inr (inl s) ↦ elim (two_at own.places here other k y l) [
      | inl p ↦ absurd (not_last k y p (sym flow_same ∙ ap (λ (z : Place). z.flow) s.1))
      | inr (inl t) ↦ s.0 ∙ sym t.0
      | inr (inr t) ↦ absurd (let clash : Asker ≡ Far = sym (ap (λ (z : Place). z.side) s.1) ∙ side ∙ ap (λ (z : Place). z.side) t.1 in cc)
    ]
    | inr (inr s) ↦ elim (two_at own.places here other k y l) [
      | inl p ↦ absurd (not_last k y p (sym flow_same ∙ ap (λ (z : Place). z.flow) s.1))
      | inr (inl t) ↦ absurd (let clash : Far ≡ Asker = sym (ap (λ (z : Place). z.side) s.1) ∙ side ∙ ap (λ (z : Place). z.side) t.1 in cc)
      | inr (inr t) ↦ s.0 ∙ sym t.0
    ]
  ]

  -- an end and its place were there, or both are new
  place_made : (i : ℕ) (e : End) (x : Place) → At ends' i e → slice_get places' i ≡ Some x → (At ends i e × (slice_get own.places i ≡ Some x)) ⊎ ((e.flow ≡ asker.flow) × (x.flow ≡ length own.flows))
  place_made i e x h is_x = elim (two_at ends asker end i e h) [
    | inl o ↦ inl (o, old_beside ends own.places here other i e x own.entered.places_alike o is_x)
    | inr (inl t) ↦ inr (ap (λ (z : End). z.flow) t.1, ap (λ (z : Place). z.flow) (first_beside ends own.places here other i x own.entered.places_alike t.0 is_x))
    | inr (inr t) ↦ inr (ap (λ (z : End). z.flow) t.1 ∙ new.same_flow, ap (λ (z : Place). z.flow) (second_beside ends own.places here other i x own.entered.places_alike t.0 is_x))
  ]

  all_made : (n : ℕ) (side : Side) (f : Flow) (point : Endpoint) → slice_get flows' n ≡ Some f → end_at side f ≡ Some point → (i : ℕ) × (slice_get places' i ≡ Some (record { flow = n; side = side }))
  all_made n side f point stands is = elim (new_or_old own.flows flows' (length own.flows) flow n f (push_changed own.flows flow) stands) [
    | inl made ↦
        (let P : ℕ → Type 0 = λ m. (i : ℕ) × (slice_get places' i ≡ Some (record { flow = m; side = side })) in
        subst P (sym made.0) (at_side side))
    | inr old ↦ (let p = own.entered.all n side f point old.1 is in (p.0, still_at own.places (here ∷ other ∷ []) p.0 (record { flow = n; side = side }) p.1))
  ]
    where
      at_side : (s : Side) → (i : ℕ) × (slice_get places' i ≡ Some (record { flow = length own.flows; side = s }))
      at_side Asker = (length own.places, first_at own.places here other)
      at_side Far = (suc (length own.places), second_at own.places here other)

  entered_made : AreEntered ends' conns' flows' places'
  entered_made = record {
    places_alike = two_long own.places ends here other asker end own.entered.places_alike;
    each = each_made;
    once = once_made;
    named = λ i k a b x y ha hb is_x is_y same. elim (place_made i a x ha is_x) [
      | inl o ↦ elim (place_made k b y hb is_y) [
        | inl p ↦ own.entered.named i k a b x y o.0 p.0 o.1 p.1 same
        | inr t ↦ absurd (not_last i x o.1 (same ∙ t.1))
      ]
      | inr s ↦ elim (place_made k b y hb is_y) [
        | inl p ↦ absurd (not_last k y p.1 (sym same ∙ s.1))
        | inr t ↦ s.0 ∙ sym t.0
      ]
    ];
    apart = λ i k a b x y ha hb is_x is_y same. elim (place_made i a x ha is_x) [
      | inl o ↦ elim (place_made k b y hb is_y) [
        | inl p ↦ own.entered.apart i k a b x y o.0 p.0 o.1 p.1 same
        | inr t ↦ absurd (new.fresh i a o.0 (same ∙ t.0))
      ]
      | inr s ↦ elim (place_made k b y hb is_y) [
        | inl p ↦ absurd (new.fresh k b p.0 (sym same ∙ s.0))
        | inr t ↦ s.1 ∙ sym t.1
      ]
    ];
    all = all_made;
  }

  -- ---- the flows

  -- which flow stands last
  last_is : (n : ℕ) (f : Flow) → n ≡ length own.flows → slice_get flows' n ≡ Some f → f ≡ flow
  last_is n f is at = (let there = subst (λ (m : ℕ). slice_get flows' m ≡ Some f) is at in let here = last_stands in cc)

  flows_made : (i k : ℕ) (a b : End) (x : Place) (f : Flow) (far : Endpoint) (line : Direction) → At ends' i a → At ends' k b → IsPartner a b → slice_get places' i ≡ Some x → slice_get flows' x.flow ≡ Some f → f.far ≡ Some far → slice_get lines' i ≡ Some line → IsFlow g now cloud' f far x.side a b (ids_from x.side f far a.cube) line
  flows_made i k a b x f far line ha hb p is_x stands known z = elim (two_at ends asker end i a ha) [
    | inl o ↦
        (let x_is = old_beside ends own.places here other i a x own.entered.places_alike o is_x in
        let line_is = old_beside ends lines there back i a line own.lines_alike o z in
        elim (two_at ends asker end k b hb) [
          | inl q ↦ elim (new_or_old own.flows flows' (length own.flows) flow x.flow f (push_changed own.flows flow) stands) [
            | inl made ↦ absurd (not_last i x x_is made.0)
            | inr old ↦ flow_recovered g now cloud cloud' f far x.side a b (ids_from x.side f far a.cube) line new.covers (own.flows_are i k a b x f far line o q p x_is old.1 known line_is)
          ]
          | inr (inl t) ↦ absurd (new.fresh i a o (sym p.same_flow ∙ ap (λ (e : End). e.flow) t.1))
          | inr (inr t) ↦ absurd (new.fresh i a o (sym p.same_flow ∙ ap (λ (e : End). e.flow) t.1 ∙ new.same_flow))
        ])
    | inr (inl s) ↦
        (let x_is = first_beside ends own.places here other i x own.entered.places_alike s.0 is_x in
        let line_is = first_beside ends lines there back i line own.lines_alike s.0 z in
        let f_is = last_is x.flow f (ap (λ (v : Place). v.flow) x_is) stands in
        elim (two_at ends asker end k b hb) [
          | inl q ↦ absurd (new.fresh k b q (p.same_flow ∙ ap (λ (e : End). e.flow) s.1))
          | inr (inl t) ↦ absurd (p.other_role (ap (λ (e : End). e.role) (t.1 ∙ sym s.1)))
          | inr (inr t) ↦
              (let far_is : far ≡ far_end = same_Some far far_end (sym known ∙ ap (λ (v : Flow). v.far) f_is) in
              rw (x_is, s.1, t.1, line_is, f_is, far_is) flow_there)
        ])
    | inr (inr s) ↦
        (let x_is = second_beside ends own.places here other i x own.entered.places_alike s.0 is_x in
        let line_is = second_beside ends lines there back i line own.lines_alike s.0 z in
        let f_is = last_is x.flow f (ap (λ (v : Place). v.flow) x_is) stands in
        elim (two_at ends asker end k b hb) [
          | inl q ↦ absurd (new.fresh k b q (p.same_flow ∙ ap (λ (e : End). e.flow) s.1 ∙ new.same_flow))
          | inr (inl t) ↦
              (let far_is : far ≡ far_end = same_Some far far_end (sym known ∙ ap (λ (v : Flow). v.far) f_is) in
              rw (x_is, s.1, t.1, line_is, f_is, far_is) flow_back)
          | inr (inr t) ↦ absurd (p.other_role (ap (λ (e : End). e.role) (t.1 ∙ sym s.1)))
        ])
  ]

  old_stands : (i : ℕ) (x : Place) (f : Flow) → slice_get own.places i ≡ Some x → slice_get flows' x.flow ≡ Some f → slice_get own.flows x.flow ≡ Some f
  old_stands i x f is_x stands = elim (new_or_old own.flows flows' (length own.flows) flow x.flow f (push_changed own.flows flow) stands) [
    | inl made ↦ absurd (not_last i x is_x made.0)
    | inr old ↦ old.1
  ]

  new_rests : (qos : ℕ) → qos ≡ ids.qos → RestsBy g qos flow.rest
  new_rests qos same other is = (let is_cube = new.is_cube in let one : cube ≡ other = cc in ap (λ (z : Cube). rest_of (constants g z ids)) one)

  rests_made : (i : ℕ) (a : End) (x : Place) (f : Flow) → At ends' i a → slice_get places' i ≡ Some x → slice_get flows' x.flow ≡ Some f → RestsBy g a.cube f.rest
  rests_made i a x f ha is_x stands = elim (two_at ends asker end i a ha) [
    | inl o ↦
        (let x_is = old_beside ends own.places here other i a x own.entered.places_alike o is_x in
        own.rests i a x f o x_is (old_stands i x f x_is stands))
    | inr (inl s) ↦
        (let f_is = last_is x.flow f (ap (λ (v : Place). v.flow) (first_beside ends own.places here other i x own.entered.places_alike s.0 is_x)) stands in
        subst (λ (v : Flow). RestsBy g a.cube v.rest) (sym f_is) (new_rests a.cube (ap (λ (v : End). v.cube) s.1 ∙ new.asker_cube)))
    | inr (inr s) ↦
        (let f_is = last_is x.flow f (ap (λ (v : Place). v.flow) (second_beside ends own.places here other i x own.entered.places_alike s.0 is_x)) stands in
        subst (λ (v : Flow). RestsBy g a.cube v.rest) (sym f_is) (new_rests a.cube (ap (λ (v : End). v.cube) s.1 ∙ new.end_cube)))
  ]

  -- the members of both ends hold their ids so from then on
  pub own_made : (held' : List CepIds) → AreHeld g now flows' held' → IsOwn g now cloud' held' ends' conns' lines'
  own_made held' kept = record {
    alike = two_long conns ends ids (flipped ids) asker end own.alike;
    lines_alike = two_long lines ends there back asker end own.lines_alike;
    flows = flows';
    places = places';
    entered = entered_made;
    ledger = ledger_made;
    rests = rests_made;
    kept = kept;
    ids = λ i e c conn. elim (two_at ends asker end i e conn.end) [
      | inl o ↦ own.ids i e c (record { end = o; ids_are = old_beside ends conns ids (flipped ids) i e c own.alike o conn.ids_are })
      | inr (inl t) ↦ rw (t.1, first_beside ends conns ids (flipped ids) i c own.alike t.0 conn.ids_are) new.asker_ids
      | inr (inr t) ↦ rw (t.1, second_beside ends conns ids (flipped ids) i c own.alike t.0 conn.ids_are) new.end_ids
    ];
    flows_are = flows_made;
  }
