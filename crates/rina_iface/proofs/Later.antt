-- What a change is to journals: they are later.
use Rattle.std.proofs.Common.{◌≡◌, ℕ, zero, suc, ◌≤◌, List, [], ◌∷◌, ◌++◌, slice_get, slice_set, length-set, Some, refl, sym, ◌∙◌, arith, inl, inr}
use Rattle.std.proofs.lemmas.Bool.Decides.{eqb_tells}
use Rattle.std.proofs.lemmas.List.{append-nil}
use Rattle.rina_law.specs.declared.entry.Entry.{Entry}
use Rattle.rina_iface.specs.declared.ends.End.{End}
use Rattle.rina_iface.specs.declared.state.PortState.{PortState}
use Rattle.rina_iface.specs.declared.state.PortState.TheVariants.{Pending, Allocated, Refused, Failed, Closed}
use Rattle.rina_iface.specs.Ends.{with_passed, with_sent}
use Rattle.rina_iface.specs.Journal.{At}
use Rattle.rina_iface.specs.Later.{AreLater, Grows, IsLater, IsLaterEnd, IsLaterFac, Moves}
use Rattle.rina_iface.specs.Seen.{Fac, Seen, with_fac}
use Rattle.rina_iface.specs.State.{cut_state, freed_state, with_state}
use Rattle.rina_iface.proofs.Changed.{slice_get-set_other, slice_get-set_same}
use Rattle.rina_iface.proofs.Grown.{still_at}

pub moves_refl : (s : PortState) → Moves s s
moves_refl Pending = tt
moves_refl Allocated = tt
moves_refl (Refused why) = refl
moves_refl (Failed fail) = refl
moves_refl Closed = refl

pub moves_freed : (s : PortState) → Moves s (freed_state s)
moves_freed Pending = tt
moves_freed Allocated = tt
moves_freed (Refused why) = refl
moves_freed (Failed fail) = refl
moves_freed Closed = refl

pub moves_cut : (at : ℕ) (s : PortState) → Moves s (cut_state at s)
moves_cut at Pending = tt
moves_cut at Allocated = tt
moves_cut at (Refused why) = refl
moves_cut at (Failed fail) = refl
moves_cut at Closed = refl

pub grows_refl : (before now : ℕ) (xs : List Entry) → Grows before now xs xs
grows_refl before now xs = record { more = []; is = sym (append-nil xs); dated = λ i e h. cc }

one_dated : (before now : ℕ) (x : Entry) → before ≤ x.tick → x.tick ≤ now → (i : ℕ) (e : Entry) → slice_get (x ∷ []) i ≡ Some e → (before ≤ e.tick) × (e.tick ≤ now)
one_dated before now x from to zero e h = let is : x ≡ e = cc in rw (← is) (from, to)
one_dated before now x from to (suc i) e h = cc

-- one more entry, of a tick between the two clocks
pub grows_push : (before now : ℕ) (xs : List Entry) (x : Entry) → before ≤ x.tick → x.tick ≤ now → Grows before now xs (xs ++ x ∷ [])
grows_push before now xs x from to = record { more = x ∷ []; is = refl; dated = one_dated before now x from to }

pub end_refl : (before now : ℕ) (e : End) → IsLaterEnd before now e e
end_refl before now e = record { flow = refl; role = refl; port = refl; app = refl; peer = refl; cube = refl; sent = grows_refl before now e.sent; got = grows_refl before now e.got; taken = omega arith; state = moves_refl e.state; only_allocated = λ n. refl }

pub end_sent : (now : ℕ) (e : End) (x : Entry) → x.tick ≡ now → IsLaterEnd now now e (with_sent e x)
end_sent now e x at = record { flow = refl; role = refl; port = refl; app = refl; peer = refl; cube = refl; sent = grows_push now now e.sent x (omega (arith, at)) (omega (arith, at)); got = grows_refl now now e.got; taken = omega arith; state = moves_refl e.state; only_allocated = λ n. refl }

pub end_passed : (now : ℕ) (e : End) → IsLaterEnd now now e (with_passed e)
end_passed now e = record { flow = refl; role = refl; port = refl; app = refl; peer = refl; cube = refl; sent = grows_refl now now e.sent; got = grows_refl now now e.got; taken = omega arith; state = moves_refl e.state; only_allocated = λ n. refl }

-- the state moved, and nothing else
pub end_restated : (before now : ℕ) (e : End) (state : PortState) → Moves e.state state → IsLaterEnd before now e (with_state e state)
end_restated before now e state moves = record { flow = refl; role = refl; port = refl; app = refl; peer = refl; cube = refl; sent = grows_refl before now e.sent; got = grows_refl before now e.got; taken = omega arith; state = moves; only_allocated = λ n. refl }

pub ends_refl : (before now : ℕ) (es : List End) → AreLater before now es es
ends_refl before now es i e h = (e, h, end_refl before now e)

-- one end is later
pub ends_set : (before now : ℕ) (es : List End) (i : ℕ) (e e' : End) → At es i e → IsLaterEnd before now e e' → AreLater before now es (slice_set es i e')
ends_set before now es i e e' is later k a h = elim (eqb_tells k i) [
  | inl t ↦
      let h' : slice_get es i ≡ Some a = rw t.1 at h in
      let same : a ≡ e = cc in
      (e', rw t.1 (slice_get-set_same es i e e' is), rw same later)
  | inr f ↦ (a, slice_get-set_other es i k e' f.1 ∙ h, end_refl before now a)
]

-- new ends stand after the old ones
pub ends_more : (before now : ℕ) (es more : List End) → AreLater before now es (es ++ more)
ends_more before now es more i e h = (e, still_at es more i e h, end_refl before now e)

pub fac_refl : (before now : ℕ) (f : Fac) → IsLaterFac before now f f
fac_refl before now f = record { ends = ends_refl before now f.ends; cubes = refl }

pub later_refl : (s : Seen) → IsLater s s
later_refl s = record { clock = omega arith; number = refl; facs = λ n f h. (f, h, fac_refl s.now s.now f) }

-- one facility is later
pub later_fac : (s : Seen) (n : ℕ) (f f' : Fac) → slice_get s.facs n ≡ Some f → IsLaterFac s.now s.now f f' → IsLater s (with_fac s n f')
later_fac s n f f' is later = record {
  clock = omega arith;
  number = length-set s.facs n f';
  facs = λ k g h. elim (eqb_tells k n) [
    | inl t ↦
        let h' : slice_get s.facs n ≡ Some g = rw t.1 at h in
        let same : g ≡ f = cc in
        (f', rw t.1 (slice_get-set_same s.facs n f f' is), rw same later)
    | inr o ↦ (g, slice_get-set_other s.facs n k f' o.1 ∙ h, fac_refl s.now s.now g)
  ];
}
