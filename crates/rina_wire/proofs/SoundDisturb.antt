-- Wires stay sound where copies in flight are disturbed, and their journals stay as they are.
use Rattle.std.proofs.Common.{◌≡◌, ℕ, ◌+◌, ◌<◌, ◌≤◌, Bool, false, List, [], ◌∷◌, ◌++◌, remove, slice_get, slice_set, Some, None, Option, option_and_then, option_map, Result, Ok, Err, All, refl, sym, ◌∙◌, ap, subst, inl, inr, arith}
use Rattle.std.proofs.lemmas.Bool.Decides.{leb_tells}
use Rattle.std.proofs.lemmas.List.Elements.{All-push, All-set}
use Rattle.std.proofs.lemmas.Option.{none-some}
use Rattle.rina_iface.specs.declared.ends.End.{End}
use Rattle.rina_iface.specs.Seen.{Fac}
use Rattle.rina_iface.proofs.Changed.{all_at, slice_set-same}
use Rattle.rina_wire.specs.declared.flight.Flight.{Flight}
use Rattle.rina_wire.specs.declared.event.WireError.{WireError}
use Rattle.rina_wire.specs.declared.event.WireError.TheVariants.{Memory, NoWire, NoFrame, EarlyHold, LateHold}
use Rattle.rina_wire.specs.Air.{Air, Line, fac_of, on_wire, seen_of, wire_at}
use Rattle.rina_wire.specs.Disturb.{HoldsOn, LosesOn, RepeatsOn, at_refusal, copy_place, copy_refusal, due_at, first_copy, held, lost, move_refusal_on, moved, moved_at, repeated, with_copy, without_copy}
use Rattle.rina_wire.specs.Sound.{IsCopy, IsSound, IsSoundLine, KeepsFlows}
use Rattle.rina_wire.proofs.Seen.{fac_at, seen_on_wire}
use Rattle.rina_wire.proofs.Sound.{all_remove, keeps, like_refl, sound_failed, sound_on_wire}

-- ---- what is seen

unseen_at : (a : Air) (wire : ℕ) (change : Line → Line) (o : Option Line) → wire_at a wire ≡ o → ((l : Line) → fac_of (change l) ≡ fac_of l) → seen_of (on_wire a wire change) ≡ seen_of a
unseen_at a wire change None h same = rw h refl
unseen_at a wire change (Some l) h same = seen_on_wire a wire change l h ∙ rw (same l) (ap (λ (fs : List Fac). record { now = a.now; facs = fs }) (slice_set-same (seen_of a).facs wire (fac_of l) (fac_at a wire ∙ ap (option_map fac_of) h)))

-- a change that no facility shows
pub unseen : (a : Air) (wire : ℕ) (change : Line → Line) → ((l : Line) → fac_of (change l) ≡ fac_of l) → seen_of (on_wire a wire change) ≡ seen_of a
unseen a wire change same = unseen_at a wire change (wire_at a wire) refl same

without_unseen : (l : Line) (o : Option ℕ) → fac_of (without_copy l o) ≡ fac_of l
without_unseen l None = refl
without_unseen l (Some place) = refl

with_unseen : (at : ℕ) (l : Line) (o : Option Flight) → fac_of (with_copy at l o) ≡ fac_of l
with_unseen at l None = refl
with_unseen at l (Some f) = refl

moved_at_unseen : (at : ℕ) (l : Line) (place : ℕ) (o : Option Flight) → fac_of (moved_at at l place o) ≡ fac_of l
moved_at_unseen at l place None = refl
moved_at_unseen at l place (Some f) = refl

moved_unseen : (at : ℕ) (l : Line) (o : Option ℕ) → fac_of (moved at l o) ≡ fac_of l
moved_unseen at l None = refl
moved_unseen at l (Some place) = moved_at_unseen at l place (slice_get l.flights place)

pub loses_unseen : (a : Air) (wire frame : ℕ) (r : Result (Unit {0}) WireError) (a' : Air) → LosesOn a wire frame r a' → seen_of a' ≡ seen_of a
loses_unseen a wire frame (Ok done) a' g = rw g.air (unseen a wire (lost frame) (λ l. without_unseen l (copy_place frame l.flights)))
loses_unseen a wire frame (Err e) a' g = ap seen_of g.air

pub holds_unseen : (a : Air) (wire frame at : ℕ) (r : Result (Unit {0}) WireError) (a' : Air) → HoldsOn a wire frame at r a' → seen_of a' ≡ seen_of a
holds_unseen a wire frame at (Ok done) a' g = rw g.air (unseen a wire (held frame at) (λ l. moved_unseen at l (copy_place frame l.flights)))
holds_unseen a wire frame at (Err e) a' g = ap seen_of g.air

pub repeats_unseen : (a : Air) (wire frame at : ℕ) (r : Result (Unit {0}) WireError) (a' : Air) → RepeatsOn a wire frame at r a' → seen_of a' ≡ seen_of a
repeats_unseen a wire frame at (Ok done) a' g = rw g.air (unseen a wire (repeated frame at) (λ l. with_unseen at l (first_copy frame l.flights)))
repeats_unseen a wire frame at (Err Memory) a' g = ap seen_of g
repeats_unseen a wire frame at (Err NoWire) a' g = ap seen_of g.air
repeats_unseen a wire frame at (Err (NoFrame k)) a' g = ap seen_of g.air
repeats_unseen a wire frame at (Err (EarlyHold now)) a' g = ap seen_of g.air
repeats_unseen a wire frame at (Err (LateHold last)) a' g = ap seen_of g.air

-- ---- the copies

-- a copy may arrive at that tick
record InTime (now life at : ℕ) (f : Flight) : Type 0 where
  later : now < at
  alive : at ≤ f.sent + life

in_time : (now life at : ℕ) (f : Flight) → at_refusal now life at f ≡ None → InTime now life at f
in_time now life at f h = elim (leb_tells at now) [
  | inl t ↦ absurd (none-some (EarlyHold now) (sym (rw t.0 at h)))
  | inr o ↦ elim (leb_tells at (f.sent + life)) [
    | inl t ↦ record { later = omega (arith, o.1); alive = t.1 }
    | inr p ↦ absurd (none-some (LateHold (f.sent + life)) (sym (rw (o.0, p.0) at h)))
  ]
]

copy_due : (life now at : ℕ) (ends : List End) (f : Flight) → InTime now life at f → IsCopy life now ends f → IsCopy life now ends (due_at at f)
copy_due life now at ends f t c = record {
  sender = c.sender;
  stands = c.stands;
  allocated = c.allocated;
  place = c.place;
  source = c.source;
  is = c.is;
  number = c.number;
  bytes = c.bytes;
  since = c.since;
  sent = c.sent;
  waits = t.later;
  in_time = let alive = t.alive in omega (arith, alive, c.since);
}

-- other copies
pub copies_flows : (now : ℕ) (failed : Bool) (fac : ℕ) (l : Line) (fs : List Flight) → KeepsFlows now failed fac l → (failed ≡ false → All (IsCopy l.life now l.ends) fs) → KeepsFlows now failed fac (record l { flights = fs })
copies_flows now failed fac l fs k copies = record { pairs = k.pairs; sound = k.sound; waiting = k.waiting; copies = copies }

pub copies_stay : (l : Line) (fs : List Flight) → IsSoundLine l → IsSoundLine (record l { flights = fs })
copies_stay l fs s = keeps l l.ends l.waiting l.names fs s (like_refl l.ends)

-- ---- lose

without_stays : (l : Line) (o : Option ℕ) → IsSoundLine l → IsSoundLine (without_copy l o)
without_stays l None s = s
without_stays l (Some place) s = copies_stay l (remove l.flights place) s

without_flows : (now : ℕ) (failed : Bool) (fac : ℕ) (l : Line) (o : Option ℕ) → KeepsFlows now failed fac l → KeepsFlows now failed fac (without_copy l o)
without_flows now failed fac l None k = k
without_flows now failed fac l (Some place) k = copies_flows now failed fac l (remove l.flights place) k (λ alive. all_remove (IsCopy l.life now l.ends) l.flights place (k.copies alive))

pub sound_loses : (a : Air) (wire frame : ℕ) (r : Result (Unit {0}) WireError) (a' : Air) → IsSound a → LosesOn a wire frame r a' → IsSound a'
sound_loses a wire frame (Ok done) a' s g = subst IsSound (sym g.air) (sound_on_wire a wire (lost frame) s (λ l h k. without_stays l (copy_place frame l.flights) k) (λ l h line k. without_flows a.now a.failed wire l (copy_place frame l.flights) k))
sound_loses a wire frame (Err e) a' s g = subst IsSound (sym g.air) s

-- ---- hold

moved_at_stays : (at : ℕ) (l : Line) (place : ℕ) (o : Option Flight) → IsSoundLine l → IsSoundLine (moved_at at l place o)
moved_at_stays at l place None s = s
moved_at_stays at l place (Some f) s = copies_stay l (slice_set l.flights place (due_at at f)) s

moved_stays : (at : ℕ) (l : Line) (o : Option ℕ) → IsSoundLine l → IsSoundLine (moved at l o)
moved_stays at l None s = s
moved_stays at l (Some place) s = moved_at_stays at l place (slice_get l.flights place) s

moved_at_flows : (now : ℕ) (failed : Bool) (fac frame at : ℕ) (l : Line) (place : ℕ) (o : Option Flight) → slice_get l.flights place ≡ o → copy_refusal frame (at_refusal now l.life at) o ≡ None → KeepsFlows now failed fac l → KeepsFlows now failed fac (moved_at at l place o)
moved_at_flows now failed fac frame at l place None is h k = k
moved_at_flows now failed fac frame at l place (Some f) is h k =
    let P : Flight → Type 0 = IsCopy l.life now l.ends in
    copies_flows now failed fac l (slice_set l.flights place (due_at at f)) k (λ alive. All-set P l.flights place (due_at at f) (copy_due l.life now at l.ends f (in_time now l.life at f h) (all_at P l.flights place f (k.copies alive) is)) (k.copies alive))

moved_flows : (now : ℕ) (failed : Bool) (fac frame at : ℕ) (l : Line) (o : Option ℕ) → copy_refusal frame (at_refusal now l.life at) (option_and_then (λ i. slice_get l.flights i) o) ≡ None → KeepsFlows now failed fac l → KeepsFlows now failed fac (moved at l o)
moved_flows now failed fac frame at l None h k = k
moved_flows now failed fac frame at l (Some place) h k = moved_at_flows now failed fac frame at l place (slice_get l.flights place) refl h k

-- what was not refused on a wire that is there
free_on : (now frame at : ℕ) (l : Line) (o : Option Line) → o ≡ Some l → move_refusal_on now frame at o ≡ None → copy_refusal frame (at_refusal now l.life at) (first_copy frame l.flights) ≡ None
free_on now frame at l o is h = rw is at h

pub sound_holds : (a : Air) (wire frame at : ℕ) (r : Result (Unit {0}) WireError) (a' : Air) → IsSound a → HoldsOn a wire frame at r a' → IsSound a'
sound_holds a wire frame at (Ok done) a' s g = subst IsSound (sym g.air) (sound_on_wire a wire (held frame at) s (λ l h k. moved_stays at l (copy_place frame l.flights) k) (λ l h line k. moved_flows a.now a.failed wire frame at l (copy_place frame l.flights) (free_on a.now frame at l (wire_at a wire) h g.refused) k))
sound_holds a wire frame at (Err e) a' s g = subst IsSound (sym g.air) s

-- ---- repeat

with_stays : (at : ℕ) (l : Line) (o : Option Flight) → IsSoundLine l → IsSoundLine (with_copy at l o)
with_stays at l None s = s
with_stays at l (Some f) s = copies_stay l (l.flights ++ due_at at f ∷ []) s

with_at_flows : (now : ℕ) (failed : Bool) (fac frame at : ℕ) (l : Line) (place : ℕ) (o : Option Flight) → slice_get l.flights place ≡ o → copy_refusal frame (at_refusal now l.life at) o ≡ None → KeepsFlows now failed fac l → KeepsFlows now failed fac (with_copy at l o)
with_at_flows now failed fac frame at l place None is h k = k
with_at_flows now failed fac frame at l place (Some f) is h k =
    let P : Flight → Type 0 = IsCopy l.life now l.ends in
    copies_flows now failed fac l (l.flights ++ due_at at f ∷ []) k (λ alive. All-push P l.flights (due_at at f) (k.copies alive) (copy_due l.life now at l.ends f (in_time now l.life at f h) (all_at P l.flights place f (k.copies alive) is)))

with_flows : (now : ℕ) (failed : Bool) (fac frame at : ℕ) (l : Line) (o : Option ℕ) → copy_refusal frame (at_refusal now l.life at) (option_and_then (λ i. slice_get l.flights i) o) ≡ None → KeepsFlows now failed fac l → KeepsFlows now failed fac (with_copy at l (option_and_then (λ i. slice_get l.flights i) o))
with_flows now failed fac frame at l None h k = k
with_flows now failed fac frame at l (Some place) h k = with_at_flows now failed fac frame at l place (slice_get l.flights place) refl h k

pub sound_repeats : (a : Air) (wire frame at : ℕ) (r : Result (Unit {0}) WireError) (a' : Air) → IsSound a → RepeatsOn a wire frame at r a' → IsSound a'
sound_repeats a wire frame at (Ok done) a' s g = subst IsSound (sym g.air) (sound_on_wire a wire (repeated frame at) s (λ l h k. with_stays at l (first_copy frame l.flights) k) (λ l h line k. with_flows a.now a.failed wire frame at l (copy_place frame l.flights) (free_on a.now frame at l (wire_at a wire) h g.refused) k))
sound_repeats a wire frame at (Err Memory) a' s g = subst IsSound (sym g) (sound_failed a s)
sound_repeats a wire frame at (Err NoWire) a' s g = subst IsSound (sym g.air) s
sound_repeats a wire frame at (Err (NoFrame k)) a' s g = subst IsSound (sym g.air) s
sound_repeats a wire frame at (Err (EarlyHold now)) a' s g = subst IsSound (sym g.air) s
sound_repeats a wire frame at (Err (LateHold last)) a' s g = subst IsSound (sym g.air) s
