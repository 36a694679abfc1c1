-- Copies that arrive keep the ends of a wire sound.
use Rattle.std.proofs.Common.{◌≡◌, ℕ, ◌+◌, ◌≤◌, cond, Bool, true, false, List, [], ◌∷◌, All, fold, take, length, nat_le, slice_get, slice_set, Some, None, Option, refl, sym, ◌∙◌, subst, inl, inr, ◌⊎◌, arith}
use Rattle.std.proofs.lemmas.Bool.{leb-true}
use Rattle.std.proofs.lemmas.List.Elements.{All-head, All-tail, All-take}
use Rattle.rina_iface.specs.declared.ends.End.{End}
use Rattle.rina_iface.specs.declared.state.PortState.{PortState}
use Rattle.rina_iface.specs.declared.state.PortState.TheVariants.{Pending, Allocated, Refused, Failed, Closed}
use Rattle.rina_iface.specs.Ends.{with_got}
use Rattle.rina_iface.specs.Journal.{At}
use Rattle.rina_wire.specs.declared.flight.Flight.{Flight}
use Rattle.rina_wire.specs.Air.{Line}
use Rattle.rina_wire.specs.Allocate.{is_allocated}
use Rattle.rina_wire.specs.Sound.{AreSound, IsCopy, IsFarPlace, KeepsFlows, Site, site_of}
use Rattle.rina_wire.specs.Tick.{IsPart, arrival, arrived_at, line_ticked, looked_at}
use Rattle.rina_wire.proofs.Changes.{ends_got}
use Rattle.rina_wire.proofs.Copies.{copies_left, copies_set}
use Rattle.rina_wire.proofs.Keeps.{sound_later}

-- a copy arrived at this end
pub record IsArrival (now : ℕ) (es : List End) (f : Flight) (es' : List End) : Type 0 where
  pub end : End
  pub stands : At es f.to end
  pub due : f.due ≤ now
  pub allocated : end.state ≡ Allocated
  pub is : es' ≡ slice_set es f.to (with_got end (arrival now f))

allocated_by : (s : PortState) → is_allocated s ≡ true → s ≡ Allocated
allocated_by Pending h = cc
allocated_by Allocated h = refl
allocated_by (Refused why) h = cc
allocated_by (Failed fail) h = cc
allocated_by Closed h = cc

arrives : (now : ℕ) (es : List End) (f : Flight) (o : Option End) → slice_get es f.to ≡ o → f.due ≤ now → (arrived_at now f es o ≡ es) ⊎ IsArrival now es f (arrived_at now f es o)
arrives now es f None h due = inl refl
arrives now es f (Some e) h due = elim (is_allocated e.state) as (λ b. is_allocated e.state ≡ b → (cond b (slice_set es f.to (with_got e (arrival now f))) es ≡ es) ⊎ IsArrival now es f (cond b (slice_set es f.to (with_got e (arrival now f))) es)) [
  | true ↦ λ is. inr (record { end = e; stands = h; due = due; allocated = allocated_by e.state is; is = refl })
  | false ↦ λ is. inl refl
] refl

-- a copy that is looked at arrives, or nothing changes
pub looks : (now : ℕ) (es : List End) (f : Flight) → (looked_at now es f ≡ es) ⊎ IsArrival now es f (looked_at now es f)
looks now es f = elim (nat_le f.due now) as (λ b. nat_le f.due now ≡ b → (cond b (arrived_at now f es (slice_get es f.to)) es ≡ es) ⊎ IsArrival now es f (cond b (arrived_at now f es (slice_get es f.to)) es)) [
  | true ↦ λ is. arrives now es f (slice_get es f.to) refl (leb-true f.due now is)
  | false ↦ λ is. inl refl
] refl

looked_sound : (s : Site) (before now frames : ℕ) (es : List End) (f : Flight) → now ≡ before + 1 → AreSound s now frames es → IsCopy s.life before es f → AreSound s now frames (looked_at now es f)
looked_sound s before now frames es f next sound c = elim (looks now es f) [
  | inl same ↦ subst (AreSound s now frames) (sym same) sound
  | inr a ↦ subst (AreSound s now frames) (sym a.is) (ends_got s before now frames es f a.end next sound c a.due a.stands)
]

looked_copies : (life before now : ℕ) (es : List End) (f : Flight) (gs : List Flight) → All (IsCopy life before es) gs → All (IsCopy life before (looked_at now es f)) gs
looked_copies life before now es f gs cs = elim (looks now es f) [
  | inl same ↦ subst (λ (x : List End). All (IsCopy life before x) gs) (sym same) cs
  | inr a ↦ subst (λ (x : List End). All (IsCopy life before x) gs) (sym a.is) (copies_set life before es f.to a.end (with_got a.end (arrival now f)) gs a.stands refl (λ j x h. h) cs)
]

-- all copies that are looked at, one after another
fold_sound : (s : Site) (before now frames : ℕ) (es : List End) (fs : List Flight) → now ≡ before + 1 → AreSound s now frames es → All (IsCopy s.life before es) fs → AreSound s now frames (fold (looked_at now) es fs)
fold_sound s before now frames es [] next sound cs = sound
fold_sound s before now frames es (f ∷ fs) next sound cs =
    let P : Flight → Type 0 = IsCopy s.life before es in
    fold_sound s before now frames (looked_at now es f) fs next (looked_sound s before now frames es f next sound (All-head P f fs cs)) (looked_copies s.life before now es f fs (All-tail P f fs cs))

fold_copies : (life before now : ℕ) (es : List End) (fs gs : List Flight) → All (IsCopy life before es) gs → All (IsCopy life before (fold (looked_at now) es fs)) gs
fold_copies life before now es [] gs cs = cs
fold_copies life before now es (f ∷ fs) gs cs = fold_copies life before now (looked_at now es f) fs gs (looked_copies life before now es f gs cs)

-- one tick of a wire
pub ticked_flows : (before now : ℕ) (failed : Bool) (fac : ℕ) (l : Line) → now ≡ before + 1 → failed ≡ false → length (fold (looked_at now) l.ends l.flights) ≡ length l.ends → KeepsFlows before failed fac l → KeepsFlows now failed fac (line_ticked now l)
ticked_flows before now failed fac l next alive size k =
    let sound = sound_later (site_of fac l) before now l.frames l.frames l.ends (omega (arith, next)) (omega arith) k.sound in
    record {
      pairs = size ∙ k.pairs;
      sound = fold_sound (site_of fac l) before now l.frames l.ends l.flights next sound (k.copies alive);
      waiting = subst (λ (n : ℕ). All (IsFarPlace n) l.waiting) (sym size) k.waiting;
      copies = λ a. copies_left l.life before now (fold (looked_at now) l.ends l.flights) l.flights (omega (arith, next)) (fold_copies l.life before now l.ends l.flights l.flights (k.copies alive));
    }

-- only the first copies were looked at, and none will arrive
pub part_flows : (before now : ℕ) (failed : Bool) (fac : ℕ) (l l' : Line) → now ≡ before + 1 → failed ≡ false → ((count : ℕ) → length (fold (looked_at now) l.ends (take count l.flights)) ≡ length l.ends) → IsPart now l l' → KeepsFlows before failed fac l → KeepsFlows now true fac l'
part_flows before now failed fac l l' next alive size p k =
    let sound = sound_later (site_of fac l) before now l.frames l.frames l.ends (omega (arith, next)) (omega arith) k.sound in
    let P : Flight → Type 0 = IsCopy l.life before l.ends in
    let made : KeepsFlows now true fac (record l { ends = fold (looked_at now) l.ends (take p.count l.flights); flights = l'.flights }) = record {
      pairs = size p.count ∙ k.pairs;
      sound = fold_sound (site_of fac l) before now l.frames l.ends (take p.count l.flights) next sound (All-take P p.count l.flights (k.copies alive));
      waiting = subst (λ (n : ℕ). All (IsFarPlace n) l.waiting) (sym (size p.count)) k.waiting;
      copies = λ h. cc;
    } in
    subst (KeepsFlows now true fac) (sym p.is) made
