-- A change of one end of a wire keeps its ends sound.
use Rattle.std.proofs.Common.{◌≡◌, ℕ, ◌≤◌, List, slice_set, refl, sym, ◌∙◌, ap, inl, inr, arith}
use Rattle.rina_base.specs.declared.number.Port.{Port}
use Rattle.rina_law.specs.Journal.{Born}
use Rattle.rina_iface.specs.declared.ends.End.{End}
use Rattle.rina_iface.specs.declared.state.Fail.TheVariants.{GaveUp, Below, Cut}
use Rattle.rina_iface.specs.declared.state.PortState.{PortState}
use Rattle.rina_iface.specs.declared.state.PortState.TheVariants.{Pending, Allocated, Refused, Failed, Closed}
use Rattle.rina_iface.specs.Journal.{At, IsWhole}
use Rattle.rina_iface.proofs.Changed.{set_at}
use Rattle.rina_iface.proofs.Grown.{dated_later}
use Rattle.rina_wire.specs.Send.{mate}
use Rattle.rina_wire.specs.Sound.{AreMates, AreSound, HaveNumbers, IsSoundEnd, IsWireState, Site}
use Rattle.rina_wire.proofs.Mates.{mate_apart, mate_mate}

-- the end that stood there, which sent the same
pub was_sent : (ends : List End) (i : ℕ) (e e' : End) (k : ℕ) (x : End) → At ends i e → e'.sent ≡ e.sent → At (slice_set ends i e') k x → (was : End) × At ends k was × (was.sent ≡ x.sent)
was_sent ends i e e' k x is same h = elim (set_at ends i k e e' x is h) [
  | inl t ↦ (e, rw t.0 is, sym (ap (λ (z : End). z.sent) t.1 ∙ same))
  | inr f ↦ (x, f.1, refl)
]

-- no number is used again where nothing was sent
pub numbers_same : (ends : List End) (i : ℕ) (e e' : End) → At ends i e → e'.sent ≡ e.sent → HaveNumbers ends → HaveNumbers (slice_set ends i e')
numbers_same ends i e e' is same numbers p q j m a b x y ha hb hx hy n =
    let u = was_sent ends i e e' p a is same ha in
    let v = was_sent ends i e e' q b is same hb in
    numbers p q j m u.0 v.0 x y u.1 v.1 (rw u.2 hx) (rw v.2 hy) n

-- a change of the end at place i
pub record IsChange (s : Site) (now frames : ℕ) (ends : List End) (i : ℕ) (e e' : End) : Type 0 where
  pub flow : e'.flow ≡ e.flow
  pub app : e'.app ≡ e.app
  pub peer : e'.peer ≡ e.peer
  pub port : e'.port ≡ e.port
  pub state : e'.state ≡ e.state
  pub sound : IsSoundEnd s now frames i e'
  pub got : (other : End) → At ends (mate i) other → Born s.life other.sent e'.got
  pub sent : (other : End) → At ends (mate i) other → Born s.life e'.sent other.got

-- its mate is that of before
mates_of : (s : Site) (now frames : ℕ) (ends : List End) (i : ℕ) (e e' other : End) → IsChange s now frames ends i e e' → At ends (mate i) other → AreMates s e other → AreMates s e' other
mates_of s now frames ends i e e' other c at m = record {
  flow = m.flow ∙ sym c.flow;
  peer = m.peer ∙ sym c.app;
  node = λ h. m.node (h ∙ ap (λ (p : Port). p.node) c.port);
  state = m.state ∙ sym c.state;
  born = c.got other at;
}

mates_to : (s : Site) (now frames : ℕ) (ends : List End) (i : ℕ) (e e' other : End) → IsChange s now frames ends i e e' → At ends (mate i) other → AreMates s other e → AreMates s other e'
mates_to s now frames ends i e e' other c at m = record {
  flow = c.flow ∙ m.flow;
  peer = c.peer ∙ m.peer;
  node = λ h. m.node (ap (λ (p : Port). p.node) (sym c.port) ∙ h);
  state = c.state ∙ m.state;
  born = c.sent other at;
}

mates_set : (s : Site) (now frames : ℕ) (ends : List End) (i : ℕ) (e e' : End) → AreSound s now frames ends → At ends i e → IsChange s now frames ends i e e' → (k : ℕ) (x y : End) → At (slice_set ends i e') k x → At (slice_set ends i e') (mate k) y → AreMates s x y
mates_set s now frames ends i e e' sound is c k x y hx hy = elim (set_at ends i k e e' x is hx) [
  | inl t ↦ elim (set_at ends i (mate k) e e' y is hy) [
    | inl u ↦ absurd (mate_apart k (u.0 ∙ sym t.0))
    | inr v ↦
        let other : At ends (mate i) y = rw t.0 at v.1 in
        rw t.1 (mates_of s now frames ends i e e' y c other (sound.mates i e y is other))
  ]
  | inr f ↦ elim (set_at ends i (mate k) e e' y is hy) [
    | inl u ↦
        let place : k ≡ mate i = sym (mate_mate k) ∙ ap mate u.0 in
        let other : At ends (mate i) x = rw place at f.1 in
        rw u.1 (mates_to s now frames ends i e e' x c other (sound.mates k x e f.1 (rw u.0 is)))
    | inr v ↦ sound.mates k x y f.1 v.1
  ]
]

pub sound_set : (s : Site) (now frames : ℕ) (ends : List End) (i : ℕ) (e e' : End) → AreSound s now frames ends → At ends i e → IsChange s now frames ends i e e' → HaveNumbers (slice_set ends i e') → AreSound s now frames (slice_set ends i e')
sound_set s now frames ends i e e' sound is c numbers = record {
  each = λ k x h. elim (set_at ends i k e e' x is h) [
    | inl t ↦ rw (t.0, t.1) c.sound
    | inr f ↦ sound.each k x f.1
  ];
  mates = mates_set s now frames ends i e e' sound is c;
  numbers = numbers;
}

whole_later : (before now : ℕ) (e : End) → before ≤ now → IsWhole before e → IsWhole now e
whole_later before now e le w = record { sent = dated_later before now e.sent le w.sent; got = dated_later before now e.got le w.got; taken = w.taken }

state_later : (before now : ℕ) (state : PortState) → before ≤ now → IsWireState before state → IsWireState now state
state_later before now Pending le w = w
state_later before now Allocated le w = w
state_later before now (Refused why) le w = w
state_later before now (Failed (GaveUp num first at)) le w = w
state_later before now (Failed (Below port)) le w = w
state_later before now (Failed (Cut at)) le w = omega (arith, w, le)
state_later before now Closed le w = w

-- time goes by, and frames are sent
pub end_later : (s : Site) (before now few frames i : ℕ) (e : End) → before ≤ now → few ≤ frames → IsSoundEnd s before few i e → IsSoundEnd s now frames i e
end_later s before now few frames i e le more x = record {
  role = x.role;
  flow = x.flow;
  facility = x.facility;
  number = x.number;
  node = x.node;
  state = state_later before now e.state le x.state;
  whole = whole_later before now e le x.whole;
  sent = λ j y h. let lt = x.sent j y h in omega (arith, lt, more);
  got = λ j y h. let lt = x.got j y h in omega (arith, lt, more);
}

pub sound_later : (s : Site) (before now few frames : ℕ) (ends : List End) → before ≤ now → few ≤ frames → AreSound s before few ends → AreSound s now frames ends
sound_later s before now few frames ends le more x = record {
  each = λ i e h. end_later s before now few frames i e le more (x.each i e h);
  mates = x.mates;
  numbers = x.numbers;
}
