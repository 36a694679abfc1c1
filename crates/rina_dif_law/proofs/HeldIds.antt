-- What ends and new flows make of the CEP-ids that the members hold.
use Rattle.std.proofs.Common.{◌≡◌, ℕ, ◌+◌, ◌-◌, ◌*◌, ◌^◌, ◌<◌, ◌≤◌, List, [], ◌∷◌, ◌++◌, length, length-set, slice_get, None, Some, refl, sym, ◌∙◌, ap, subst, arith, inl, inr}
use Rattle.std.proofs.lemmas.Option.{same_Some}
use Rattle.rina_cube.specs.Cubes.{delta_of}
use Rattle.rina_ids.specs.declared.slot.Slot.{Slot}
use Rattle.rina_ids.specs.Ids.{drawn, given_back}
use Rattle.rina_iface.specs.declared.ends.End.{End}
use Rattle.rina_iface.specs.Ends.{drawn_at}
use Rattle.rina_iface.specs.Seen.{Seen}
use Rattle.rina_iface.proofs.Changed.{set_at, slice_get-set_other}
use Rattle.rina_rest.specs.Drawn.{AreKept, Draws, GivesBack as RestsBack}
use Rattle.rina_rest.specs.Flows.{Asker, Endpoint, Far, Flow, Four, IsFree, Side, end_at}
use Rattle.rina_rest.specs.Ledger.{LedgerHolds, asked_flow, bound_flow, made, put}
use Rattle.rina_rest.proofs.Keeping.{ask_keeps_slots, asker_keeps_slots, bound_keeps_slots, far_keeps_slots, make_keeps_slots}
use Rattle.rina_rest.proofs.Slots.{drawn_free, drawn_long}
use Rattle.rina_data.specs.Configs.{Config, Member}
use Rattle.rina_ids.specs.Members.{CepIds, DrawsAt, with_drawn, with_rest}
use Rattle.rina_dif_law.specs.CepIds.{AreHeld}
use Rattle.rina_dif_law.specs.Dif.{DifSeen}
use Rattle.rina_dif_law.specs.Ending.{GivesBack}
use Rattle.rina_dif_law.specs.Ids.{Ids}
use Rattle.rina_dif_law.specs.Numbered.{AreDrawn, IsNumbered}
use Rattle.rina_dif_law.specs.Standing.{IsConn, RestsBy}
use Rattle.rina_dif_law.proofs.OwnEnds.{ended_at}

-- no two members have one address
abbrev AddrsApart : Config → Type 0
AddrsApart g = (i k : ℕ) (a b : Member) → slice_get g.members i ≡ Some a → slice_get g.members k ≡ Some b → a.addr ≡ b.addr → i ≡ k

-- ---- an end ends

module _ (g : Config) (now : ℕ) (cloud : ℕ → Four → Type 0) (flows : List Flow) (held : List CepIds) (n : ℕ) (flow : Flow) (side : Side) (point : Endpoint) (ledger : LedgerHolds now flows cloud) (kept : AreHeld g now flows held) (stands : slice_get flows n ≡ Some flow) (is : end_at side flow ≡ Some point) (up : point.ended ≡ None) where
  -- what is kept of one member
  one_rests : (addr : ℕ) (before after : List Slot) → RestsBack flow.rest now addr point before after → AreKept now flows addr before → AreKept now (put n (ended_at now side flow point) flows) addr after
  one_rests addr before after gives was = at_side side is
    where
      at_side : (s : Side) → end_at s flow ≡ Some point → AreKept now (put n (ended_at now s flow point) flows) addr after
      at_side Asker there =
          let same : flow.asker ≡ point = same_Some flow.asker point there in
          asker_keeps_slots now flows cloud n flow addr before after ledger stands (ap (λ (z : Endpoint). z.ended) same ∙ up) (subst (λ (z : Endpoint). RestsBack flow.rest now addr z before after) (sym same) gives) was
      at_side Far there = far_keeps_slots now flows cloud n flow point addr before after ledger stands there up gives was

  pub rest_held : (place : ℕ) (member : Member) (old : CepIds) (cep until : ℕ) → AddrsApart g → slice_get g.members place ≡ Some member → member.addr ≡ point.addr → slice_get held place ≡ Some old → cep ≡ point.cep → until ≡ now + flow.rest → AreHeld g now (put n (ended_at now side flow point) flows) (with_rest place old cep until held)
  rest_held place member old cep until apart is_member addr is_old cep_is until_is i its ids is_its are_ids = elim (set_at held place i old (old.0, given_back old.1 cep until) ids is_old are_ids) [
    | inl t ↦
        (let it_is : member ≡ its = (let there = subst (λ (k : ℕ). slice_get g.members k ≡ Some its) t.0 is_its in cc) in
        let same : point.addr ≡ its.addr = sym addr ∙ ap (λ (z : Member). z.addr) it_is in
        let slots : ids.1 ≡ given_back old.1 point.cep (now + flow.rest) = rw (t.1, cep_is, until_is) refl in
        one_rests its.addr old.1 ids.1 (record { here = λ there. slots; elsewhere = λ ne. absurd (ne same) }) (kept place its old (subst (λ (k : ℕ). slice_get g.members k ≡ Some its) t.0 is_its) is_old))
    | inr o ↦ one_rests its.addr ids.1 ids.1 (record { here = λ there. absurd (o.0 (sym (apart place i member its is_member is_its (addr ∙ there)))); elsewhere = λ ne. refl }) (kept i its ids is_its o.1)
  ]

-- the member of an end gives its id back
pub ended_held : (d : DifSeen) (below : Seen) (cloud : ℕ → Four → Type 0) (flows : List Flow) (at : ℕ) (e : End) (c : Ids) (held : List CepIds) → IsNumbered d below → IsConn d.ends d.conns at e c → GivesBack d at e held → LedgerHolds d.clock flows cloud → AreHeld d.config d.clock flows d.ids
    → (n : ℕ) (flow : Flow) (side : Side) (its : Endpoint) → slice_get flows n ≡ Some flow → end_at side flow ≡ Some its → its.ended ≡ None → c.own ≡ its.addr → c.scep ≡ its.cep → RestsBy d.config e.cube flow.rest → AreHeld d.config d.clock (put n (ended_at d.clock side flow its) flows) held
ended_held d below cloud flows at e c held numbered conn gives ledger kept n flow side its stands is up own scep rests =
    let a = numbered.addressed at e c conn in
    let place : a.place ≡ gives.place = (let x = a.at_home in let y = gives.at_home in cc) in
    let ids : gives.ids ≡ c = (let x = conn.ids_are in let y = gives.are_ids in cc) in
    let until : d.clock + 3 * delta_of gives.cube ≡ d.clock + flow.rest = ap (λ (k : ℕ). d.clock + k) (sym (rests gives.cube gives.is_cube)) in
    subst (AreHeld d.config d.clock (put n (ended_at d.clock side flow its) flows)) (sym gives.held_is)
    (rest_held d.config d.clock cloud flows d.ids n flow side its ledger kept stands is up gives.place a.member gives.old gives.ids.scep (d.clock + 3 * delta_of gives.cube) numbered.members.addrs (subst (λ (k : ℕ). slice_get d.config.members k ≡ Some a.member) place a.stands) (sym a.addr ∙ own) gives.is_old (ap (λ (z : Ids). z.scep) ids ∙ scep) until)

-- as many were drawn
pub rest_drawn : (g : Config) (ends : List End) (held : List CepIds) (place : ℕ) (old : CepIds) (cep until : ℕ) → slice_get held place ≡ Some old → AreDrawn g ends held → AreDrawn g ends (with_rest place old cep until held)
rest_drawn g ends held place old cep until is_old h = record {
  aligned = length-set held place (old.0, given_back old.1 cep until) ∙ h.aligned;
  greatest = λ i ids are_ids. elim (set_at held place i old (old.0, given_back old.1 cep until) ids is_old are_ids) [
    | inl t ↦ ap (λ (z : CepIds). z.0) t.1 ∙ h.greatest place old is_old
    | inr o ↦ h.greatest i ids o.1
  ];
  few = λ i member ids is_member are_ids. elim (set_at held place i old (old.0, given_back old.1 cep until) ids is_old are_ids) [
    | inl t ↦
        (let was = h.few place member old (subst (λ (k : ℕ). slice_get g.members k ≡ Some member) t.0 is_member) is_old in
        let long : length ids.1 ≡ length old.1 = ap (λ (z : CepIds). length z.1) t.1 ∙ length-set old.1 (cep - 1) _ in
        omega (arith, was, long))
    | inr o ↦ h.few i member ids is_member o.1
  ];
}

-- ---- a flow is made

module _ (g : Config) (now : ℕ) (held : List CepIds) (a b scep dcep : ℕ) (of_a of_b : Member) (apart : AddrsApart g) (is_a : slice_get g.members a ≡ Some of_a) (is_b : slice_get g.members b ≡ Some of_b) (differ : of_b.addr ≡ of_a.addr → ⊥) (draws : DrawsAt held now a scep) (draws' : DrawsAt held now b dcep) where
  abbrev pub both_drawn : List CepIds
  both_drawn = with_drawn b draws'.ids dcep (with_drawn a draws.ids scep held)

  other_place : b ≡ a → ⊥
  other_place same = differ (let there = subst (λ (k : ℕ). slice_get g.members k ≡ Some of_b) same is_b in let one : of_b ≡ of_a = cc in ap (λ (z : Member). z.addr) one)

  -- what the member at a place has after it: what the one or the other drew, or what it had
  pub both_cases : (P : ℕ → CepIds → Type 0) → P a (draws.ids.0, drawn draws.ids.1 scep) → P b (draws'.ids.0, drawn draws'.ids.1 dcep) → ((i : ℕ) (ids : CepIds) → (i ≡ a → ⊥) → (i ≡ b → ⊥) → slice_get held i ≡ Some ids → P i ids) → (i : ℕ) (ids : CepIds) → slice_get both_drawn i ≡ Some ids → P i ids
  both_cases P at_a at_b other i ids are_ids = elim (set_at (with_drawn a draws.ids scep held) b i draws'.ids (draws'.ids.0, drawn draws'.ids.1 dcep) ids there are_ids) [
    | inl t ↦ subst (λ (k : ℕ). P k ids) (sym t.0) (subst (P b) (sym t.1) at_b)
    | inr o ↦ elim (set_at held a i draws.ids (draws.ids.0, drawn draws.ids.1 scep) ids draws.are_ids o.1) [
      | inl t ↦ subst (λ (k : ℕ). P k ids) (sym t.0) (subst (P a) (sym t.1) at_a)
      | inr u ↦ other i ids u.0 o.0 u.1
    ]
  ]
    where
      there : slice_get (with_drawn a draws.ids scep held) b ≡ Some draws'.ids
      there = slice_get-set_other held a b (draws.ids.0, drawn draws.ids.1 scep) other_place ∙ draws'.are_ids

  pub free_a : (flows : List Flow) → AreHeld g now flows held → IsFree now flows of_a.addr scep
  free_a flows kept = drawn_free draws.ids.0 now draws.ids.1 flows of_a.addr scep (kept a of_a draws.ids is_a draws.are_ids) draws.least

  pub free_b : (flows : List Flow) → AreHeld g now flows held → IsFree now flows of_b.addr dcep
  free_b flows kept = drawn_free draws'.ids.0 now draws'.ids.1 flows of_b.addr dcep (kept b of_b draws'.ids is_b draws'.are_ids) draws'.least

  pub both_held : (flows : List Flow) (rest : ℕ) → AreHeld g now flows held → AreHeld g now (flows ++ bound_flow now rest of_b.addr of_a.addr scep dcep ∷ []) both_drawn
  both_held flows rest kept i its ids is_its are_ids = both_cases (λ k x. (m : Member) → slice_get g.members k ≡ Some m → AreKept now (flows ++ bound_flow now rest of_b.addr of_a.addr scep dcep ∷ []) m.addr x.1)
      (λ m is_m.
      let same : of_a ≡ m = cc in
      let addr = ap (λ (z : Member). z.addr) same in
      keeps m.addr draws.ids.1 (drawn draws.ids.1 scep) (drawn draws.ids.1 scep)
      (record { here = λ there. (draws.least, refl); elsewhere = λ ne. absurd (ne addr) })
      (record { here = λ there. absurd (differ (there ∙ sym addr)); elsewhere = λ ne. refl })
      (kept a m draws.ids is_m draws.are_ids))
      (λ m is_m.
      let same : of_b ≡ m = cc in
      let addr = ap (λ (z : Member). z.addr) same in
      keeps m.addr draws'.ids.1 draws'.ids.1 (drawn draws'.ids.1 dcep)
      (record { here = λ there. absurd (differ (addr ∙ sym there)); elsewhere = λ ne. refl })
      (record { here = λ there. (draws'.least, refl); elsewhere = λ ne. absurd (ne addr) })
      (kept b m draws'.ids is_m draws'.are_ids))
      (λ k x not_a not_b at m is_m.
      keeps m.addr x.1 x.1 x.1
      (record { here = λ there. absurd (not_a (sym (apart a k of_a m is_a is_m there))); elsewhere = λ ne. refl })
      (record { here = λ there. absurd (not_b (sym (apart b k of_b m is_b is_m there))); elsewhere = λ ne. refl })
      (kept k m x is_m at))
      i ids are_ids its is_its
    where
      keeps : (addr : ℕ) (before between after : List Slot) → Draws draws.ids.0 now addr of_a.addr scep before between → Draws draws'.ids.0 now addr of_b.addr dcep between after → AreKept now flows addr before → AreKept now (flows ++ bound_flow now rest of_b.addr of_a.addr scep dcep ∷ []) addr after
      keeps addr before between after one two was = bound_keeps_slots draws.ids.0 draws'.ids.0 now flows rest of_b.addr of_a.addr scep dcep addr before between after differ one two was

  -- and so many were drawn, where each of the two nodes drew one port more, and no node fewer
  pub both_are_drawn : (ends ends' : List End) → AreDrawn g ends held → ((node : ℕ) → drawn_at node ends ≤ drawn_at node ends') → drawn_at of_a.node ends + 1 ≤ drawn_at of_a.node ends' → drawn_at of_b.node ends + 1 ≤ drawn_at of_b.node ends' → AreDrawn g ends' both_drawn
  both_are_drawn ends ends' h more more_a more_b = record {
    aligned = length-set (with_drawn a draws.ids scep held) b (draws'.ids.0, drawn draws'.ids.1 dcep) ∙ length-set held a (draws.ids.0, drawn draws.ids.1 scep) ∙ h.aligned;
    greatest = both_cases (λ k x. x.0 ≡ 2 ^ (8 * g.widths.cep) - 1) (h.greatest a draws.ids draws.are_ids) (h.greatest b draws'.ids draws'.are_ids) (λ k x not_a not_b at. h.greatest k x at);
    few = λ i its ids is_its are_ids. both_cases (λ k x. (m : Member) → slice_get g.members k ≡ Some m → length x.1 ≤ drawn_at m.node ends')
        (λ m is_m.
        let same : of_a ≡ m = cc in
        let was = h.few a of_a draws.ids is_a draws.are_ids in
        let long = drawn_long draws.ids.1 scep in
        subst (λ (z : Member). length (drawn draws.ids.1 scep) ≤ drawn_at z.node ends') same (omega (arith, was, long, more_a)))
        (λ m is_m.
        let same : of_b ≡ m = cc in
        let was = h.few b of_b draws'.ids is_b draws'.are_ids in
        let long = drawn_long draws'.ids.1 dcep in
        subst (λ (z : Member). length (drawn draws'.ids.1 dcep) ≤ drawn_at z.node ends') same (omega (arith, was, long, more_b)))
        (λ k x not_a not_b at m is_m. (let was = h.few k m x is_m at in let grown = more m.node in omega (arith, was, grown)))
        i ids are_ids its is_its;
  }

-- ---- one member draws

module _ (g : Config) (now : ℕ) (cloud : ℕ → Four → Type 0) (flows : List Flow) (held : List CepIds) (place cep : ℕ) (member : Member) (apart : AddrsApart g) (is_member : slice_get g.members place ≡ Some member) (draws : DrawsAt held now place cep) (ledger : LedgerHolds now flows cloud) (kept : AreHeld g now flows held) where
  abbrev one_drawn : List CepIds
  one_drawn = with_drawn place draws.ids cep held

  -- what the member at a place has after it: what was drawn, or what it had
  one_cases : (flows' : List Flow) → ((addr : ℕ) (before after : List Slot) → Draws draws.ids.0 now addr member.addr cep before after → AreKept now flows addr before → AreKept now flows' addr after) → AreHeld g now flows' one_drawn
  one_cases flows' keeps i its ids is_its are_ids = elim (set_at held place i draws.ids (draws.ids.0, drawn draws.ids.1 cep) ids draws.are_ids are_ids) [
    | inl t ↦
        (let is_here : slice_get g.members place ≡ Some its = subst (λ (k : ℕ). slice_get g.members k ≡ Some its) t.0 is_its in
        let same : member ≡ its = cc in
        keeps its.addr draws.ids.1 ids.1
        (record { here = λ there. (draws.least, ap (λ (z : CepIds). z.1) t.1); elsewhere = λ ne. absurd (ne (ap (λ (z : Member). z.addr) same)) })
        (kept place its draws.ids is_here draws.are_ids))
    | inr o ↦
        keeps its.addr ids.1 ids.1
        (record { here = λ there. absurd (o.0 (sym (apart place i member its is_member is_its there))); elsewhere = λ ne. refl })
        (kept i its ids is_its o.1)
  ]

  pub one_free : IsFree now flows member.addr cep
  one_free = drawn_free draws.ids.0 now draws.ids.1 flows member.addr cep (kept place member draws.ids is_member draws.are_ids) draws.least

  -- for a flow that it asks for
  pub asked_held : (rest peer : ℕ) → 1 ≤ rest → (peer ≡ member.addr → ⊥) → AreHeld g now (flows ++ asked_flow now rest peer member.addr cep ∷ []) one_drawn
  asked_held rest peer some other = one_cases (flows ++ asked_flow now rest peer member.addr cep ∷ [])
      (λ addr before after d was. ask_keeps_slots draws.ids.0 now flows cloud rest peer member.addr cep addr before after ledger some other one_free d was)

  -- for the far end of a flow that it was asked for
  pub far_held : (n : ℕ) (flow : Flow) → slice_get flows n ≡ Some flow → flow.far ≡ None → flow.peer ≡ member.addr → now < flow.asked + flow.rest → AreHeld g now (put n (made flow cep) flows) one_drawn
  far_held n flow stands none peer young = one_cases (put n (made flow cep) flows)
      (λ addr before after d was. make_keeps_slots draws.ids.0 now flows cloud n flow cep addr before after ledger stands none young
      (subst (λ (a : ℕ). IsFree now flows a cep) (sym peer) one_free) (subst (λ (a : ℕ). Draws draws.ids.0 now addr a cep before after) (sym peer) d) was)

  -- and so many were drawn, where its node drew one port more, and no node fewer
  pub one_are_drawn : (ends ends' : List End) → AreDrawn g ends held → ((node : ℕ) → drawn_at node ends ≤ drawn_at node ends') → drawn_at member.node ends + 1 ≤ drawn_at member.node ends' → AreDrawn g ends' one_drawn
  one_are_drawn ends ends' h more more_here = record {
    aligned = length-set held place (draws.ids.0, drawn draws.ids.1 cep) ∙ h.aligned;
    greatest = λ i ids are_ids. elim (set_at held place i draws.ids (draws.ids.0, drawn draws.ids.1 cep) ids draws.are_ids are_ids) [
      | inl t ↦ ap (λ (z : CepIds). z.0) t.1 ∙ h.greatest place draws.ids draws.are_ids
      | inr o ↦ h.greatest i ids o.1
    ];
    few = λ i its ids is_its are_ids. elim (set_at held place i draws.ids (draws.ids.0, drawn draws.ids.1 cep) ids draws.are_ids are_ids) [
      | inl t ↦
          (let is_here : slice_get g.members place ≡ Some its = subst (λ (k : ℕ). slice_get g.members k ≡ Some its) t.0 is_its in
          let same : member ≡ its = cc in
          let was = h.few place member draws.ids is_member draws.are_ids in
          let long = drawn_long draws.ids.1 cep in
          let count : length ids.1 ≡ length (drawn draws.ids.1 cep) = ap (λ (z : CepIds). length z.1) t.1 in
          subst (λ (z : Member). length ids.1 ≤ drawn_at z.node ends') same (omega (arith, was, long, count, more_here)))
      | inr o ↦ (let was = h.few i its ids is_its o.1 in let grown = more its.node in omega (arith, was, grown))
    ];
  }
