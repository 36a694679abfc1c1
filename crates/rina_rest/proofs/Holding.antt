-- What holds of ids, connections and what is in flight, where one flow changes and where time goes on.
use Rattle.std.proofs.Common.{◌≡◌, ℕ, ◌+◌, ◌<◌, ◌≤◌, ◌⊎◌, List, slice_get, Option, Some, None, refl, sym, ◌∙◌, ap, subst, arith, inl, inr}
use Rattle.std.proofs.lemmas.Bool.{cases_eq}
use Rattle.std.proofs.lemmas.Option.{none-some}
use Rattle.rina_rest.specs.Flows.{Endpoint, RestedBy, HasRested, HasSameId, Side, Asker, Far, Flow, end_at, IsFree, IsInUse, IsSameFour, both_ended, Four, GoesFrom, IsOf}
use Rattle.rina_rest.specs.Ledger.{FlowHolds, LedgerHolds}
use Rattle.rina_rest.proofs.Lists.{IsChanged, new_or_old}

-- Rests

pub rested_later : (rest now later : ℕ) (e : Option ℕ) → now ≤ later → RestedBy rest now e → RestedBy rest later e
rested_later rest now later None le r = r
rested_later rest now later (Some t) le r = omega arith

pub unended : (rest now : ℕ) (e : Option ℕ) → e ≡ None → RestedBy rest now e → ⊥
unended rest now None is r = r
unended rest now (Some t) is r = absurd (none-some t (sym is))

-- what dies before a connection is over and is alive shows that it is not over
pub not_over : (rest now death : ℕ) (s t : Option ℕ) → death < both_ended now s t + rest → now ≤ death → RestedBy rest now s → RestedBy rest now t → ⊥
not_over rest now death None t lt le r q = r
not_over rest now death (Some s) None lt le r q = q
not_over rest now death (Some s) (Some t) lt le r q = absurd (omega arith)

pub both_later : (now later : ℕ) (s t : Option ℕ) → now ≤ later → both_ended now s t ≤ both_ended later s t
both_later now later None t le = le
both_later now later (Some s) None le = le
both_later now later (Some s) (Some t) le = omega arith

-- an end that stands
pub both_asker : (now : ℕ) (s t : Option ℕ) → s ≡ None → both_ended now s t ≡ now
both_asker now None t e = refl
both_asker now (Some s) t e = absurd (none-some s (sym e))

pub both_far : (now : ℕ) (s t : Option ℕ) → t ≡ None → both_ended now s t ≡ now
both_far now None t e = refl
both_far now (Some s) None e = refl
both_far now (Some s) (Some t) e = absurd (none-some t (sym e))

-- an end that ends now
pub both_asker_now : (now : ℕ) (t : Option ℕ) → now ≤ both_ended now (Some now) t
both_asker_now now None = omega arith
both_asker_now now (Some t) = omega arith

pub both_far_now : (now : ℕ) (s : Option ℕ) → now ≤ both_ended now s (Some now)
both_far_now now None = omega arith
both_far_now now (Some s) = omega arith

-- Addresses and CEP-ids

pub same_back : (h k : Endpoint) → HasSameId h k → HasSameId k h
same_back h k e = (sym e.0, sym e.1)

pub same_on : (h k l : Endpoint) → HasSameId h k → HasSameId k l → HasSameId h l
same_on h k l x y = (x.0 ∙ y.0, x.1 ∙ y.1)

pub same_to : (h k : Endpoint) → h ≡ k → HasSameId h k
same_to h k e = (ap (λ (x : Endpoint). x.addr) e, ap (λ (x : Endpoint). x.cep) e)

pub four_back : (a b x y : Endpoint) → IsSameFour a b x y → IsSameFour x y a b
four_back a b x y (inl e) = inl (same_back a x e.0, same_back b y e.1)
four_back a b x y (inr e) = inr (same_back b x e.1, same_back a y e.0)

-- a PDU names one pair of addresses and one pair of CEP-ids
pub four_of : (s t : Side) (a b x y : Endpoint) (p : Four) → GoesFrom s a b p → GoesFrom t x y p → IsSameFour a b x y
four_of Asker Asker a b x y p g h = inl ((sym g.0 ∙ h.0, sym g.1 ∙ h.1), (sym g.2 ∙ h.2, sym g.3 ∙ h.3))
four_of Asker Far a b x y p g h = inr ((sym g.0 ∙ h.0, sym g.1 ∙ h.1), (sym g.2 ∙ h.2, sym g.3 ∙ h.3))
four_of Far Asker a b x y p g h = inr ((sym g.2 ∙ h.2, sym g.3 ∙ h.3), (sym g.0 ∙ h.0, sym g.1 ∙ h.1))
four_of Far Far a b x y p g h = inl ((sym g.2 ∙ h.2, sym g.3 ∙ h.3), (sym g.0 ∙ h.0, sym g.1 ∙ h.1))

-- the ends may have changed since, but not their ids
pub goes_still : (s : Side) (a b x y : Endpoint) (p : Four) → HasSameId a x → HasSameId b y → GoesFrom s a b p → GoesFrom s x y p
goes_still Asker a b x y p e f g = (g.0 ∙ e.0, g.1 ∙ e.1, g.2 ∙ f.0, g.3 ∙ f.1)
goes_still Far a b x y p e f g = (g.0 ∙ f.0, g.1 ∙ f.1, g.2 ∙ e.0, g.3 ∙ e.1)

-- a PDU that is alive shows that its connection is in use
abbrev pub used_by : (now : ℕ) (f : Flow) (death : ℕ) (four : Four) → now ≤ death → IsOf now f death four → IsInUse now f
used_by now f death four alive of = record { far = of.far; known = of.known; unrested = not_over f.rest now death f.asker.ended of.far.ended of.in_time alive }

-- Where one flow changes

-- an end of the i-th flow had this id, which has not rested
pub record IsOldEnd (now : ℕ) (flows : List Flow) (i : ℕ) (h : Endpoint) : Type 0 where
  pub flow : Flow
  pub side : Side
  pub end : Endpoint
  pub stands : slice_get flows i ≡ Some flow
  pub is : end_at side flow ≡ Some end
  pub same : HasSameId end h
  pub unrested : HasRested flow.rest now end → ⊥

-- an end that was there and whose id has not rested, or one of a free id
abbrev pub IsKnownOrFree : ℕ → List Flow → ℕ → Endpoint → Type 0
IsKnownOrFree now flows i h = IsOldEnd now flows i h ⊎ IsFree now flows h.addr h.cep

module _ (now : ℕ) (flows flows' : List Flow) (cloud : ℕ → Four → Type 0) (i : ℕ) (x : Flow) where
  origin_of : (changed : IsChanged flows flows' i x) → ((s : Side) (h : Endpoint) → end_at s x ≡ Some h → (HasRested x.rest now h → ⊥) → IsKnownOrFree now flows i h) →
      (j : ℕ) (g : Flow) (s : Side) (h : Endpoint) → slice_get flows' j ≡ Some g → end_at s g ≡ Some h → (HasRested g.rest now h → ⊥) → IsOldEnd now flows j h ⊎ ((j ≡ i) × IsFree now flows h.addr h.cep)
  origin_of changed origin j g s h e is un = elim (new_or_old flows flows' i x j g changed e) [
    | inl new ↦
        (let P : Flow → Type 0 = λ z. end_at s z ≡ Some h in
        let Q : Flow → Type 0 = λ z. HasRested z.rest now h → ⊥ in
        let R : ℕ → Type 0 = λ k. IsOldEnd now flows k h in
        elim (origin s h (subst P (sym new.1) is) (subst Q (sym new.1) un)) [
          | inl old ↦ inl (subst R (sym new.0) old)
          | inr free ↦ inr (new.0, free)
        ])
    | inr old ↦ inl (record { flow = g; side = s; end = h; stands = old.1; is = is; same = same_to h h refl; unrested = un })
  ]

  freed : (h : Endpoint) (j : ℕ) (k : Endpoint) → IsFree now flows h.addr h.cep → IsOldEnd now flows j k → HasSameId h k → ⊥
  freed h j k free old same = old.unrested (free j old.flow old.side old.end old.stands old.is (old.same.0 ∙ sym same.0) (old.same.1 ∙ sym same.1))

  pub change_holds : IsChanged flows flows' i x → LedgerHolds now flows cloud → FlowHolds now x → ((s : Side) (h : Endpoint) → end_at s x ≡ Some h → (HasRested x.rest now h → ⊥) → IsKnownOrFree now flows i h) →
      ((j : ℕ) (g : Flow) (u : IsInUse now x) (v : IsInUse now g) → (j ≡ i → ⊥) → slice_get flows j ≡ Some g → IsSameFour x.asker u.far g.asker v.far → ⊥) →
      ((f : Flow) (death : ℕ) (four : Four) → slice_get flows i ≡ Some f → IsOf now f death four → IsOf now x death four) → LedgerHolds now flows' cloud
  change_holds changed h flow origin four of = record {
    flow = λ j g e. elim (new_or_old flows flows' i x j g changed e) [
      | inl new ↦ (let P : Flow → Type 0 = λ z. FlowHolds now z in subst P new.1 flow)
      | inr old ↦ h.flow j g old.1
    ];
    ids = λ j j' g g' s s' a b e e' is is' same un un'. elim (origin_of changed origin j g s a e is un) [
      | inl old ↦ elim (origin_of changed origin j' g' s' b e' is' un') [
        | inl old' ↦ h.ids j j' old.flow old'.flow old.side old'.side old.end old'.end old.stands old'.stands old.is old'.is (same_on old.end a old'.end old.same (same_on a b old'.end same (same_back old'.end b old'.same))) old.unrested old'.unrested
        | inr new' ↦ absurd (freed b j a new'.1 old (same_back a b same))
      ]
      | inr new ↦ elim (origin_of changed origin j' g' s' b e' is' un') [ inl old' ↦ absurd (freed a j' b new.1 old' same) | inr new' ↦ new.0 ∙ sym new'.0 ]
    ];
    fours = λ j j' g g' u v e e' same. elim (new_or_old flows flows' i x j g changed e) [
      | inl new ↦ elim (new_or_old flows flows' i x j' g' changed e') [
        | inl new' ↦ new.0 ∙ sym new'.0
        | inr old' ↦
            (let ne : j' ≡ i → ⊥ = old'.0 in
            let P : Flow → Type 0 = λ z. (w : IsInUse now z) → IsSameFour z.asker w.far g'.asker v.far → ⊥ in
            absurd (subst P new.1 (λ w f. four j' g' w v ne old'.1 f) u same))
      ]
      | inr old ↦ elim (new_or_old flows flows' i x j' g' changed e') [
        | inl new' ↦
            (let P : Flow → Type 0 = λ z. (w : IsInUse now z) → IsSameFour z.asker w.far g.asker u.far → ⊥ in
            absurd (subst P new'.1 (λ w f. four j g w u old.0 old.1 f) v (four_back g.asker u.far g'.asker v.far same)))
        | inr old' ↦ h.fours j j' g g' u v old.1 old'.1 same
      ]
    ];
    alive = λ death four comes alive.
        (let a = h.alive death four comes alive in
        let before = a.2 in
        let is = a.3 in
        elim (cases_eq (a.0) i) [
          | inl same ↦
              (let P : ℕ → Type 0 = λ k. slice_get flows k ≡ Some (a.1) in
              (i, x, changed.at, of (a.1) death four (subst P same before) is))
          | inr ne ↦ (a.0, a.1, changed.others (a.0) ne ∙ before, is)
        ]);
  }
