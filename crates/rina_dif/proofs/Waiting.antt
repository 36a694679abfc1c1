-- What begins to wait to be claimed in one step, and in one after the other.
use Rattle.std.proofs.Common.{◌≡◌, ℕ, zero, suc, ◌+◌, ◌≤◌, ◌⊎◌, List, [], ◌∷◌, ◌++◌, append_assoc, length, length-append, slice_get, Some, refl, sym, ◌∙◌, ap, arith, inl, inr}
use Rattle.std.proofs.lemmas.Bool.{cases_lt}
use Rattle.std.proofs.lemmas.List.{append-nil}
use Rattle.std.proofs.lemmas.Option.{same_Some, slice_get_within}
use Rattle.rina_iface.specs.declared.ends.End.{End}
use Rattle.rina_iface.specs.Later.{AreLater}
use Rattle.rina_law.specs.Direction.{Direction}
use Rattle.rina_data.proofs.Finding.{there}
use Rattle.rina_dif_law.specs.Answering.{IsFarMade}
use Rattle.rina_dif_law.specs.Dif.{DifSeen}
use Rattle.rina_dif_law.specs.Upward.{IsSilent}
use Rattle.rina_dif.specs.Waiting.{BeginToWait}

-- as many ends stand there, or more
pub no_fewer : (before now : ℕ) (old new : List End) → AreLater before now old new → length old ≤ length new
no_fewer before now old new later = elim (cases_lt (length new) (length old)) [
  | inl fewer ↦
      let e = there old (length new) fewer in
      let m = later (length new) e.0 e.1 in
      let low = slice_get_within new (length new) m.0 m.1 in
      absurd (omega (arith, low))
  | inr le ↦ le
]

pub none_begin : (d d' : DifSeen) → d'.waiting ≡ d.waiting → BeginToWait d d'
none_begin d d' is = record {
  more = [];
  waiting = is ∙ sym (append-nil d.waiting);
  are_new = λ k place h. cc;
  once = λ j k place h g. cc;
}

-- what stands in both lists together stands in the first, or behind it in the second
pub in_either : {X : Type 0} (xs ys : List X) (i : ℕ) (x : X) → slice_get (xs ++ ys) i ≡ Some x → (slice_get xs i ≡ Some x) ⊎ ((k : ℕ) × (i ≡ length xs + k) × (slice_get ys k ≡ Some x))
in_either [] ys i x h = inr (i, omega arith, h)
in_either (z ∷ xs) ys zero x h = inl h
in_either (z ∷ xs) ys (suc i) x h = elim (in_either xs ys i x h) [ inl o ↦ inl o | inr o ↦ inr (o.0, (let is = o.1 in omega (arith, is)), o.2) ]

-- they begin in one step, or in the other
begin_on : (a b c : DifSeen) → length a.ends ≤ length b.ends → length b.ends ≤ length c.ends → BeginToWait a b → BeginToWait b c → BeginToWait a c
begin_on a b c le le' x y = record {
  more = x.more ++ y.more;
  waiting = y.waiting ∙ ap (λ (ws : List ℕ). ws ++ y.more) x.waiting ∙ append_assoc a.waiting x.more y.more;
  are_new = λ k place h. elim (in_either x.more y.more k place h) [
    | inl o ↦ (let p = x.are_new k place o in (p.0, let q = p.1 in omega (arith, q, le')))
    | inr o ↦ (let p = y.are_new o.0 place o.2 in ((let q = p.0 in omega (arith, q, le)), p.1))
  ];
  once = λ j k place h g. elim (in_either x.more y.more j place h) [
    | inl o ↦ elim (in_either x.more y.more k place g) [
      | inl p ↦ x.once j k place o p
      | inr p ↦ (let q = (x.are_new j place o).1 in let r = (y.are_new p.0 place p.2).0 in absurd (omega (arith, q, r)))
    ]
    | inr o ↦ elim (in_either x.more y.more k place g) [
      | inl p ↦ (let q = (x.are_new k place p).1 in let r = (y.are_new o.0 place o.2).0 in absurd (omega (arith, q, r)))
      | inr p ↦ (let same = y.once o.0 p.0 place o.2 p.2 in let a = o.1 in let b = p.1 in omega (arith, same, a, b))
    ]
  ];
}

pub waits_on : (a b c : DifSeen) → IsSilent a b → IsSilent b c → BeginToWait a b → BeginToWait b c → BeginToWait a c
waits_on a b c x y p q = begin_on a b c (no_fewer a.clock b.clock a.ends b.ends x.later.ends) (no_fewer b.clock c.clock b.ends c.ends y.later.ends) p q

-- a far end that is made waits
pub made_waits : (d : DifSeen) (lines : List Direction) (node at : ℕ) (d' : DifSeen) (lines' : List Direction) → IsFarMade d lines node at d' lines' → BeginToWait d d'
made_waits d lines node at d' lines' s = record {
  more = length d.ends ∷ [];
  waiting = ap (λ (z : DifSeen). z.waiting) s.new_is;
  are_new = λ k place h. (let is = alone k place h in (let at_end = is.1 in omega (arith, at_end), let at_end = is.1 in omega (arith, at_end, longer)));
  once = λ j k place h g. (let a = (alone j place h).0 in let b = (alone k place g).0 in omega (arith, a, b));
}
  where
    alone : (k place : ℕ) → slice_get (length d.ends ∷ []) k ≡ Some place → (k ≡ 0) × (place ≡ length d.ends)
    alone zero place h = (refl, sym (same_Some (length d.ends) place h))
    alone (suc k) place h = cc

    longer : length d'.ends ≡ length d.ends + 1
    longer = ap (λ (z : DifSeen). length z.ends) s.new_is ∙ length-append d.ends _
