-- A new flow keeps the ends of a wire sound.
use Rattle.std.proofs.Common.{◌≡◌, ◌≢◌, ℕ, zero, suc, ◌+◌, ◌*◌, true, List, [], ◌∷◌, ◌++◌, length, slice_get, Some, refl, sym, ◌∙◌, ap, inl, inr, ◌⊎◌, arith}
use Rattle.std.proofs.lemmas.Bool.Decides.{eqb_tells}
use Rattle.std.proofs.lemmas.Option.{slice_get_within}
use Rattle.rina_law.specs.declared.entry.Entry.{Entry}
use Rattle.rina_iface.specs.declared.ask.Ask.{Ask}
use Rattle.rina_iface.specs.declared.ends.End.{End}
use Rattle.rina_iface.specs.declared.state.PortState.TheVariants.{Allocated}
use Rattle.rina_iface.specs.Allocate.{asker_end, far_end}
use Rattle.rina_iface.specs.Journal.{At}
use Rattle.rina_iface.specs.Seen.{is_member}
use Rattle.rina_iface.proofs.Grown.{born_none, dated_none}
use Rattle.rina_wire.specs.Air.{Line}
use Rattle.rina_wire.specs.Allocate.{flow_on, other_node, port_on}
use Rattle.rina_wire.specs.Send.{mate}
use Rattle.rina_wire.specs.Sound.{AreMates, AreSound, IsSoundEnd, Site}
use Rattle.rina_wire.proofs.Mates.{mate_apart, mate_within, side}

-- what stands behind two more
two_at : {X : Type 0} (xs : List X) (y z : X) (i : ℕ) (x : X) → slice_get (xs ++ y ∷ z ∷ []) i ≡ Some x → (slice_get xs i ≡ Some x) ⊎ (((i ≡ length xs) × (x ≡ y)) ⊎ ((i ≡ length xs + 1) × (x ≡ z)))
two_at [] y z zero x h = inr (inl (refl, cc))
two_at [] y z (suc zero) x h = inr (inr (omega arith, cc))
two_at [] y z (suc (suc i)) x h = cc
two_at (w ∷ xs) y z zero x h = inl h
two_at (w ∷ xs) y z (suc i) x h = elim (two_at xs y z i x h) [
  | inl o ↦ inl o
  | inr n ↦ elim n [ inl a ↦ inr (inl (ap suc a.0, a.1)) | inr b ↦ inr (inr (omega (arith, b.0), b.1)) ]
]

-- the two ends of a new flow, which stand at the places n and n + 1
pub record ArePair (s : Site) (now frames n : ℕ) (x y : End) : Type 0 where
  pub asker : IsSoundEnd s now frames n x
  pub far : IsSoundEnd s now frames (n + 1) y
  pub mates : AreMates s x y
  pub back : AreMates s y x
  pub sent : x.sent ≡ []
  pub far_sent : y.sent ≡ []

-- what an end sent stands among the old ones
pub sent_before : (ends : List End) (x y : End) (i j : ℕ) (a : End) (e : Entry) → x.sent ≡ [] → y.sent ≡ [] → At (ends ++ x ∷ y ∷ []) i a → slice_get a.sent j ≡ Some e → At ends i a
sent_before ends x y i j a e xs ys ha he = elim (two_at ends x y i a ha) [
  | inl o ↦ o
  | inr n ↦ elim n [
    | inl t ↦ let none : slice_get [] j ≡ Some e = rw (t.1, xs) at he in cc
    | inr t ↦ let none : slice_get [] j ≡ Some e = rw (t.1, ys) at he in cc
  ]
]

mates_two : (s : Site) (now frames flows : ℕ) (ends : List End) (x y : End) → length ends ≡ 2 * flows → AreSound s now frames ends → ArePair s now frames (length ends) x y → (i : ℕ) (a b : End) → At (ends ++ x ∷ y ∷ []) i a → At (ends ++ x ∷ y ∷ []) (mate i) b → AreMates s a b
mates_two s now frames flows ends x y pairs sound new i a b ha hb = elim (two_at ends x y i a ha) [
  | inl old ↦
      let within = mate_within i (length ends) flows pairs (slice_get_within ends i a old) in
      elim (two_at ends x y (mate i) b hb) [
        | inl o ↦ sound.mates i a b old o
        | inr n ↦ elim n [ inl t ↦ absurd (omega (arith, t.0, within)) | inr t ↦ absurd (omega (arith, t.0, within)) ]
      ]
  | inr m ↦ elim m [
    | inl u ↦ elim (two_at ends x y (mate i) b hb) [
      | inl o ↦ let within = slice_get_within ends (mate i) b o in absurd (elim (side i) [ inl e ↦ omega (arith, e.mate_is, within, u.0) | inr e ↦ omega (arith, e.odd, u.0, pairs) ])
      | inr n ↦ elim n [ inl t ↦ absurd (mate_apart i (t.0 ∙ sym u.0)) | inr t ↦ rw (u.1, t.1) new.mates ]
    ]
    | inr u ↦ elim (two_at ends x y (mate i) b hb) [
      | inl o ↦ let within = slice_get_within ends (mate i) b o in absurd (elim (side i) [ inl e ↦ omega (arith, e.even, u.0, pairs) | inr e ↦ omega (arith, e.mate_is, within, u.0) ])
      | inr n ↦ elim n [ inl t ↦ rw (u.1, t.1) new.back | inr t ↦ absurd (mate_apart i (t.0 ∙ sym u.0)) ]
    ]
  ]
]

pub ends_two : (s : Site) (now frames flows : ℕ) (ends : List End) (x y : End) → length ends ≡ 2 * flows → AreSound s now frames ends → ArePair s now frames (length ends) x y → AreSound s now frames (ends ++ x ∷ y ∷ [])
ends_two s now frames flows ends x y pairs sound new = record {
  each = λ i e h. elim (two_at ends x y i e h) [
    | inl o ↦ sound.each i e o
    | inr n ↦ elim n [ inl t ↦ rw (t.0, t.1) new.asker | inr t ↦ rw (t.0, t.1) new.far ]
  ];
  mates = mates_two s now frames flows ends x y pairs sound new;
  numbers = λ i k j m a b e f ha hb he hf n. sound.numbers i k j m a b e f (sent_before ends x y i j a e new.sent new.far_sent ha he) (sent_before ends x y k m b f new.sent new.far_sent hb hf) he hf n;
}

-- the node at the other end is a member, and another
other_member : (l : Line) (node : ℕ) → is_member (l.a ∷ l.b ∷ []) (other_node l node) ≡ true
other_member l node = elim (eqb_tells node l.a) [ inl t ↦ rw t.0 (grind arith) | inr f ↦ rw f.0 (grind arith) ]

other_apart : (l : Line) (node : ℕ) → l.a ≢ l.b → other_node l node ≢ node
other_apart l node apart h = elim (eqb_tells node l.a) [
  | inl t ↦ let is : l.b ≡ node = rw t.0 at h in apart (sym t.1 ∙ sym is)
  | inr f ↦ let is : l.a ≡ node = rw f.0 at h in f.1 (sym is)
]

-- the ends of the next flow
pub pair_made : (s : Site) (now frames fac : ℕ) (l : Line) (ask : Ask) → s ≡ record { fac = fac; a = l.a; b = l.b; life = l.life } → ask.fac ≡ fac → l.a ≢ l.b → length l.ends ≡ 2 * l.flows → is_member (l.a ∷ l.b ∷ []) ask.node ≡ true → ArePair s now frames (length l.ends) (asker_end (flow_on l now ask.node) (port_on l ask.fac ask.node) ask 0 Allocated) (far_end (flow_on l now ask.node) (port_on l ask.fac (other_node l ask.node)) ask 0)
pair_made s now frames fac l ask site_is fac_is apart pairs member = rw site_is (record {
  asker = record {
    role = elim (side (length l.ends)) [ inl e ↦ sym e.role_is | inr e ↦ absurd (omega (arith, e.odd, pairs)) ];
    flow = omega (arith, pairs);
    facility = fac_is;
    number = omega (arith, pairs);
    node = member;
    state = tt;
    whole = record { sent = dated_none now; got = dated_none now; taken = omega arith };
    sent = λ j x h. cc;
    got = λ j x h. cc;
  };
  far = record {
    role = elim (side (length l.ends + 1)) [ inl e ↦ absurd (omega (arith, e.even, pairs)) | inr e ↦ sym e.role_is ];
    flow = omega (arith, pairs);
    facility = fac_is;
    number = omega (arith, pairs);
    node = other_member l ask.node;
    state = tt;
    whole = record { sent = dated_none now; got = dated_none now; taken = omega arith };
    sent = λ j x h. cc;
    got = λ j x h. cc;
  };
  mates = record { flow = refl; peer = refl; node = other_apart l ask.node apart; state = refl; born = born_none l.life [] };
  back = record { flow = refl; peer = refl; node = λ h. other_apart l ask.node apart (sym h); state = refl; born = born_none l.life [] };
  sent = refl;
  far_sent = refl;
})
