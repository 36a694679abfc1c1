-- Ends of which only the states changed stay sound.
use Rattle.std.proofs.Common.{◌≡◌, ◌≢◌, ℕ, ◌+◌, List, [], ◌∷◌, map, slice_get, slice_set, Some, refl, sym, ◌∙◌, ap, subst, inl, inr, ◌⊎◌, arith}
use Rattle.std.proofs.lemmas.List.{length-map}
use Rattle.std.proofs.lemmas.List.Elements.{All-map, All-weaker}
use Rattle.std.proofs.lemmas.List.Sums.{sum_by-append}
use Rattle.std.proofs.lemmas.Option.{slice_get-map}
use Rattle.rina_iface.specs.declared.ends.End.{End}
use Rattle.rina_iface.specs.declared.state.Fail.TheVariants.{GaveUp, Below, Cut}
use Rattle.rina_iface.specs.declared.state.PortState.{PortState}
use Rattle.rina_iface.specs.declared.state.PortState.TheVariants.{Pending, Allocated, Refused, Failed, Closed}
use Rattle.rina_iface.specs.Ends.{drawn_at}
use Rattle.rina_iface.specs.Journal.{At}
use Rattle.rina_iface.specs.State.{cut_off, cut_state, with_state}
use Rattle.rina_iface.proofs.Changed.{set_at, slice_get-set_other}
use Rattle.rina_wire.specs.Send.{mate}
use Rattle.rina_wire.specs.Sound.{AreMates, AreSound, IsSoundEnd, IsWireState, Site}
use Rattle.rina_wire.proofs.Kept.{is_mapped}
use Rattle.rina_wire.proofs.Mates.{mate_apart, mate_mate}
use Rattle.rina_wire.proofs.Sound.{C, IsLike, one_at}

-- only states changed, to states of wires, and those of mates alike
pub record IsRestated (now : ℕ) (ends ends' : List End) : Type 0 where
  pub was : (i : ℕ) (e' : End) → At ends' i e' → (e : End) × At ends i e × (e' ≡ with_state e e'.state)
  pub states : (i : ℕ) (e' : End) → At ends' i e' → IsWireState now e'.state
  pub mates : (i : ℕ) (a b : End) → At ends' i a → At ends' (mate i) b → b.state ≡ a.state

end_restated : (s : Site) (now frames i : ℕ) (e : End) (state : PortState) → IsWireState now state → IsSoundEnd s now frames i e → IsSoundEnd s now frames i (with_state e state)
end_restated s now frames i e state w x = record {
  role = x.role;
  flow = x.flow;
  facility = x.facility;
  number = x.number;
  node = x.node;
  state = w;
  whole = record { sent = x.whole.sent; got = x.whole.got; taken = x.whole.taken };
  sent = x.sent;
  got = x.got;
}

mates_restated : (s : Site) (a b : End) (p q : PortState) → q ≡ p → AreMates s a b → AreMates s (with_state a p) (with_state b q)
mates_restated s a b p q same m = record { flow = m.flow; peer = m.peer; node = m.node; state = same; born = m.born }

pub sound_restated : (s : Site) (now frames : ℕ) (ends ends' : List End) → AreSound s now frames ends → IsRestated now ends ends' → AreSound s now frames ends'
sound_restated s now frames ends ends' sound r = record {
  each = λ i e h. let w = r.was i e h in subst (IsSoundEnd s now frames i) (sym w.2) (end_restated s now frames i w.0 e.state (r.states i e h) (sound.each i w.0 w.1));
  mates = λ i a b ha hb.
      let u = r.was i a ha in
      let v = r.was (mate i) b hb in
      let m = mates_restated s u.0 v.0 a.state b.state (r.mates i a b ha hb) (sound.mates i u.0 v.0 u.1 v.1) in
      subst (λ (x : End). AreMates s x b) (sym u.2) (subst (λ (y : End). AreMates s (with_state u.0 a.state) y) (sym v.2) m);
  numbers = λ i k j m a b x y ha hb hx hy n.
      let u = r.was i a ha in
      let v = r.was k b hb in
      sound.numbers i k j m u.0 v.0 x y u.1 v.1 (subst (λ (z : End). slice_get z.sent j ≡ Some x) u.2 hx) (subst (λ (z : End). slice_get z.sent m ≡ Some y) v.2 hy) n;
}

-- ---- a cut

cut_wire_state : (now : ℕ) (s : PortState) → IsWireState now s → IsWireState now (cut_state now s)
cut_wire_state now Pending w = w
cut_wire_state now Allocated w = omega arith
cut_wire_state now (Refused why) w = w
cut_wire_state now (Failed (GaveUp num first at)) w = w
cut_wire_state now (Failed (Below port)) w = w
cut_wire_state now (Failed (Cut at)) w = w
cut_wire_state now Closed w = w

pub was_cut : (now : ℕ) (ends : List End) (i : ℕ) (e' : End) → At (map (cut_off now) ends) i e' → (e : End) × At ends i e × (cut_off now e ≡ e')
was_cut now ends i e' h = is_mapped (cut_off now) (slice_get ends i) e' (sym (slice_get-map (cut_off now) ends i) ∙ h)

-- the end that a cut changed
pub cut_from : (now : ℕ) (ends : List End) (i : ℕ) (e' : End) → At (map (cut_off now) ends) i e' → (e : End) × At ends i e × (e' ≡ with_state e e'.state)
cut_from now ends i e' h = let w = was_cut now ends i e' h in (w.0, w.1, subst (λ (z : End). z ≡ with_state w.0 z.state) w.2 refl)

pub cut_restated : (s : Site) (now frames : ℕ) (ends : List End) → AreSound s now frames ends → IsRestated now ends (map (cut_off now) ends)
cut_restated s now frames ends sound = record {
  was = λ i e' h. cut_from now ends i e' h;
  states = λ i e' h. let w = was_cut now ends i e' h in subst (λ (z : End). IsWireState now z.state) w.2 (cut_wire_state now w.0.state (sound.each i w.0 w.1).state);
  mates = λ i a b ha hb.
      let u = was_cut now ends i a ha in
      let v = was_cut now ends (mate i) b hb in
      let same : v.0.state ≡ u.0.state = (sound.mates i u.0 v.0 u.1 v.1).state in
      ap (λ (z : End). z.state) (sym v.2) ∙ ap (cut_state now) same ∙ ap (λ (z : End). z.state) u.2;
}

drawn_cut : (now node : ℕ) (es : List End) → drawn_at node (map (cut_off now) es) ≡ drawn_at node es
drawn_cut now node [] = refl
drawn_cut now node (e ∷ es) = sum_by-append (one_at node) (cut_off now e ∷ []) (map (cut_off now) es) ∙ ap (λ k. drawn_at node (e ∷ []) + k) (drawn_cut now node es) ∙ sym (sum_by-append (one_at node) (e ∷ []) es)

pub like_cut : (now : ℕ) (es : List End) → IsLike es (map (cut_off now) es)
like_cut now es = record {
  cubes = λ all. All-map C (cut_off now) es (All-weaker C (λ e. C (cut_off now e)) (λ e c. c) es all);
  drawn = λ node. drawn_cut now node es;
  size = length-map es (cut_off now);
}

-- ---- a flow that is closed at both ends

-- one of the two ends, which is closed now, or another end, which is as it was
abbrev pub Closes : List End → ℕ → ℕ → End → Type 0
Closes ends p i a = (((i ≡ p) ⊎ (i ≡ mate p)) × (a.state ≡ Closed)) ⊎ ((i ≢ p) × (i ≢ mate p) × At ends i a)

pub still_mate : (ends : List End) (p : ℕ) (e other : End) → At ends (mate p) other → At (slice_set ends p (with_state e Closed)) (mate p) other
still_mate ends p e other ho = slice_get-set_other ends p (mate p) (with_state e Closed) (mate_apart p) ∙ ho

closes : (ends : List End) (p : ℕ) (e other : End) (i : ℕ) (a : End) → At ends p e → At ends (mate p) other → At (slice_set (slice_set ends p (with_state e Closed)) (mate p) (with_state other Closed)) i a → Closes ends p i a
closes ends p e other i a he ho h = elim (set_at (slice_set ends p (with_state e Closed)) (mate p) i other (with_state other Closed) a (still_mate ends p e other ho) h) [
  | inl t ↦ inl (inr t.0, ap (λ (z : End). z.state) t.1)
  | inr f ↦ elim (set_at ends p i e (with_state e Closed) a he f.1) [
    | inl t ↦ inl (inl t.0, ap (λ (z : End). z.state) t.1)
    | inr g ↦ inr (g.0, f.0, g.1)
  ]
]

pub was_closed : (ends : List End) (p : ℕ) (e other : End) (i : ℕ) (a : End) → At ends p e → At ends (mate p) other → At (slice_set (slice_set ends p (with_state e Closed)) (mate p) (with_state other Closed)) i a → (was : End) × At ends i was × (a ≡ with_state was a.state)
was_closed ends p e other i a he ho h = elim (set_at (slice_set ends p (with_state e Closed)) (mate p) i other (with_state other Closed) a (still_mate ends p e other ho) h) [
  | inl t ↦ (other, rw t.0 ho, subst (λ (z : End). z ≡ with_state other z.state) (sym t.1) refl)
  | inr f ↦ elim (set_at ends p i e (with_state e Closed) a he f.1) [
    | inl t ↦ (e, rw t.0 he, subst (λ (z : End). z ≡ with_state e z.state) (sym t.1) refl)
    | inr g ↦ (a, g.1, refl)
  ]
]

-- mates are closed together
closed_mates : (s : Site) (now frames : ℕ) (ends : List End) (p i : ℕ) (a b : End) → AreSound s now frames ends → Closes ends p i a → Closes ends p (mate i) b → b.state ≡ a.state
closed_mates s now frames ends p i a b sound (inl x) (inl y) = y.1 ∙ sym x.1
closed_mates s now frames ends p i a b sound (inl x) (inr y) = absurd (elim x.0 [ inl t ↦ y.1 (ap mate t) | inr t ↦ y.0 (ap mate t ∙ mate_mate p) ])
closed_mates s now frames ends p i a b sound (inr x) (inl y) = absurd (elim y.0 [ inl t ↦ x.1 (sym (mate_mate i) ∙ ap mate t) | inr t ↦ x.0 (sym (mate_mate i) ∙ ap mate t ∙ mate_mate p) ])
closed_mates s now frames ends p i a b sound (inr x) (inr y) = (sound.mates i a b x.2 y.2).state

closed_state : (s : Site) (now frames : ℕ) (ends : List End) (p i : ℕ) (a : End) → AreSound s now frames ends → Closes ends p i a → IsWireState now a.state
closed_state s now frames ends p i a sound (inl x) = subst (IsWireState now) (sym x.1) tt
closed_state s now frames ends p i a sound (inr x) = (sound.each i a x.2).state

pub closed_restated : (s : Site) (now frames : ℕ) (ends : List End) (p : ℕ) (e other : End) → AreSound s now frames ends → At ends p e → At ends (mate p) other → IsRestated now ends (slice_set (slice_set ends p (with_state e Closed)) (mate p) (with_state other Closed))
closed_restated s now frames ends p e other sound he ho = record {
  was = λ i a h. was_closed ends p e other i a he ho h;
  states = λ i a h. closed_state s now frames ends p i a sound (closes ends p e other i a he ho h);
  mates = λ i a b ha hb. closed_mates s now frames ends p i a b sound (closes ends p e other i a he ho ha) (closes ends p e other (mate i) b he ho hb);
}
