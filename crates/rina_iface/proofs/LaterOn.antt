-- Later than what is later is later.
use Rattle.std.proofs.Common.{◌≡◌, ℕ, zero, suc, ◌≤◌, List, [], ◌∷◌, ◌++◌, slice_get, Some, append_assoc, sym, ◌∙◌, ap, subst, arith, inl, inr, ◌⊎◌}
use Rattle.rina_law.specs.declared.entry.Entry.{Entry}
use Rattle.rina_iface.specs.declared.ends.End.{End}
use Rattle.rina_iface.specs.declared.state.PortState.{PortState}
use Rattle.rina_iface.specs.declared.state.PortState.TheVariants.{Pending, Allocated, Refused, Failed, Closed}
use Rattle.rina_iface.specs.Later.{AreLater, Grows, IsLater, IsLaterEnd, Moves, WasAllocated}
use Rattle.rina_iface.specs.Seen.{Seen}

moves_on : (a b c : PortState) → Moves a b → Moves b c → Moves a c
moves_on Pending b c p q = tt
moves_on Allocated Pending c p q = cc
moves_on Allocated Allocated c p q = q
moves_on Allocated (Refused why) c p q = cc
moves_on Allocated (Failed fail) c p q = subst (Moves Allocated) (sym q) tt
moves_on Allocated Closed c p q = subst (Moves Allocated) (sym q) tt
moves_on (Refused why) b c p q = rw p at q
moves_on (Failed fail) b c p q = rw p at q
moves_on Closed b c p q = rw p at q

-- a port that was allocated before a move was allocated
was_on : (a b c : PortState) → Moves b c → WasAllocated a b → WasAllocated a c
was_on Pending Pending c q w = absurd w
was_on Pending Allocated Pending q w = cc
was_on Pending Allocated Allocated q w = tt
was_on Pending Allocated (Refused why) q w = cc
was_on Pending Allocated (Failed fail) q w = tt
was_on Pending Allocated Closed q w = tt
was_on Pending (Refused why) c q w = absurd w
was_on Pending (Failed fail) c q w = subst (WasAllocated Pending) (sym q) tt
was_on Pending Closed c q w = subst (WasAllocated Pending) (sym q) tt
was_on Allocated b c q w = tt
was_on (Refused why) b c q w = absurd w
was_on (Failed fail) b c q w = absurd w
was_on Closed b c q w = absurd w

-- and so was one that was allocated after it
was_after : (a b c : PortState) → Moves a b → Moves b c → WasAllocated b c → WasAllocated a c
was_after Pending Pending c p q w = w
was_after Pending Allocated c p q w = was_on Pending Allocated c q tt
was_after Pending (Refused why) c p q w = absurd w
was_after Pending (Failed fail) c p q w = absurd w
was_after Pending Closed c p q w = absurd w
was_after Allocated b c p q w = tt
was_after (Refused why) b c p q w = absurd (rw p at w)
was_after (Failed fail) b c p q w = absurd (rw p at w)
was_after Closed b c p q w = absurd (rw p at w)

-- what stands in two lists stands in one of them
either_at : {X : Type 0} (xs ys : List X) (i : ℕ) (x : X) → slice_get (xs ++ ys) i ≡ Some x → ((k : ℕ) × (slice_get xs k ≡ Some x)) ⊎ ((k : ℕ) × (slice_get ys k ≡ Some x))
either_at [] ys i x h = inr (i, h)
either_at (z ∷ xs) ys zero x h = inl (zero, h)
either_at (z ∷ xs) ys (suc i) x h = elim (either_at xs ys i x h) [ inl g ↦ inl (suc g.0, g.1) | inr g ↦ inr g ]

pub grows_wider : (b n b' n' : ℕ) (xs ys : List Entry) → b' ≤ b → n ≤ n' → Grows b n xs ys → Grows b' n' xs ys
grows_wider b n b' n' xs ys from to g = record { more = g.more; is = g.is; dated = λ i e h. let d = g.dated i e h in (omega (arith, d.0, from), omega (arith, d.1, to)) }

pub grows_on : (b n : ℕ) (xs ys zs : List Entry) → Grows b n xs ys → Grows b n ys zs → Grows b n xs zs
grows_on b n xs ys zs g k = record {
  more = g.more ++ k.more;
  is = k.is ∙ ap (λ (l : List Entry). l ++ k.more) g.is ∙ append_assoc xs g.more k.more;
  dated = λ i e h. elim (either_at g.more k.more i e h) [ inl o ↦ g.dated o.0 e o.1 | inr o ↦ k.dated o.0 e o.1 ];
}

pub end_wider : (b n b' n' : ℕ) (e e' : End) → b' ≤ b → n ≤ n' → IsLaterEnd b n e e' → IsLaterEnd b' n' e e'
end_wider b n b' n' e e' from to l = record { flow = l.flow; role = l.role; port = l.port; app = l.app; peer = l.peer; cube = l.cube; sent = grows_wider b n b' n' e.sent e'.sent from to l.sent; got = grows_wider b n b' n' e.got e'.got from to l.got; taken = l.taken; state = l.state; only_allocated = l.only_allocated }

pub end_on : (b n : ℕ) (x y z : End) → IsLaterEnd b n x y → IsLaterEnd b n y z → IsLaterEnd b n x z
end_on b n x y z l k = record {
  flow = k.flow ∙ l.flow;
  role = k.role ∙ l.role;
  port = k.port ∙ l.port;
  app = k.app ∙ l.app;
  peer = k.peer ∙ l.peer;
  cube = k.cube ∙ l.cube;
  sent = grows_on b n x.sent y.sent z.sent l.sent k.sent;
  got = grows_on b n x.got y.got z.got l.got k.got;
  taken = omega (arith, l.taken, k.taken);
  state = moves_on x.state y.state z.state l.state k.state;
  only_allocated = λ none. k.only_allocated (λ w. none (was_after x.state y.state z.state l.state k.state w)) ∙ l.only_allocated (λ w. none (was_on x.state y.state z.state k.state w));
}

pub ends_on : (b n : ℕ) (xs ys zs : List End) → AreLater b n xs ys → AreLater b n ys zs → AreLater b n xs zs
ends_on b n xs ys zs l k i e h =
    let a = l i e h in
    let c = k i a.0 a.1 in
    (c.0, c.1, end_on b n e a.0 c.0 a.2 c.2)

pub ends_wider : (b n b' n' : ℕ) (xs ys : List End) → b' ≤ b → n ≤ n' → AreLater b n xs ys → AreLater b' n' xs ys
ends_wider b n b' n' xs ys from to l i e h = let a = l i e h in (a.0, a.1, end_wider b n b' n' e a.0 from to a.2)

pub later_on : (x y z : Seen) → IsLater x y → IsLater y z → IsLater x z
later_on x y z l k = record {
  clock = omega (arith, l.clock, k.clock);
  number = k.number ∙ l.number;
  facs = λ n f h.
      let a = l.facs n f h in
      let c = k.facs n a.0 a.1 in
      let first = ends_wider x.now y.now x.now z.now f.ends a.0.ends (omega arith) k.clock a.2.ends in
      let second = ends_wider y.now z.now x.now z.now a.0.ends c.0.ends l.clock (omega arith) c.2.ends in
      (c.0, c.1, record { ends = ends_on x.now z.now f.ends a.0.ends c.0.ends first second; cubes = c.2.cubes ∙ a.2.cubes });
}
