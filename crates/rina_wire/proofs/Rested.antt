-- Ticks at which nothing arrives.
use Rattle.std.proofs.Common.{◌≡◌, ◌⊎◌, inl, inr, ℕ, zero, suc, ◌+◌, ◌-◌, ◌<◌, ◌≤◌, cond, List, [], ◌∷◌, fold, filter, get_or, length, map, nat_lt, slice_get, Some, None, Ok, refl, sym, ◌∙◌, ap, subst, arith}
use Rattle.std.proofs.Common.{le-leb}
use Rattle.std.proofs.lemmas.Bool.{cases_lt, lt-leb}
use Rattle.std.proofs.lemmas.Option.{get_or_from_slice_get, slice_get_read}
use Rattle.rina_iface.specs.declared.ends.End.{End}
use Rattle.rina_wire.specs.declared.flight.Flight.{Flight}
use Rattle.rina_wire.specs.declared.tick.TickError.TheVariants.{ClockSpent}
use Rattle.rina_wire.specs.Air.{Air, Line, wire_at}
use Rattle.rina_wire.specs.Resting.{AreQuietCopies, AreQuietLines, IsLast, IsQuietLine, RestsUntil, at_tick}
use Rattle.rina_wire.specs.Sound.{IsSound}
use Rattle.rina_wire.specs.Tick.{TicksOn, arrived_at, line_ticked, looked_at}
use Rattle.rina_wire.proofs.SoundTick.{sound_ticks}

-- One wire

-- these copies are due after a tick
abbrev AreLater : ℕ → List Flight → Type 0
AreLater now fs = (place : ℕ) (f : Flight) → slice_get fs place ≡ Some f → now < f.due

one_waits : (now : ℕ) (es : List End) (f : Flight) → now < f.due → looked_at now es f ≡ es
one_waits now es f lt = ap (λ b. cond b (arrived_at now f es (slice_get es f.to)) es) (lt-leb f.due now lt)

all_wait : (now : ℕ) (es : List End) (fs : List Flight) → AreLater now fs → fold (looked_at now) es fs ≡ es
all_wait now es [] later = refl
all_wait now es (f ∷ fs) later = ap (λ xs. fold (looked_at now) xs fs) (one_waits now es f (later 0 f refl)) ∙ all_wait now es fs (λ k. later (suc k))

all_stay : (now : ℕ) (fs : List Flight) → AreLater now fs → filter (λ (f : Flight). nat_lt now f.due) fs ≡ fs
all_stay now [] later = refl
all_stay now (f ∷ fs) later =
    let lt = later 0 f refl in
    ap (λ b. cond b (f ∷ filter (λ (g : Flight). nat_lt now g.due) fs) (filter (λ (g : Flight). nat_lt now g.due) fs)) (le-leb (suc now) f.due (omega (arith, lt))) ∙ ap (λ (xs : List Flight). f ∷ xs) (all_stay now fs (λ k. later (suc k)))

line_waits : (now : ℕ) (l : Line) → AreLater now l.flights → line_ticked now l ≡ l
line_waits now l later = rw (all_wait now l.ends l.flights later, all_stay now l.flights later) refl

lines_wait : (now : ℕ) (ls : List Line) → ((fac : ℕ) (l : Line) → slice_get ls fac ≡ Some l → AreLater now l.flights) → map (line_ticked now) ls ≡ ls
lines_wait now [] later = refl
lines_wait now (l ∷ ls) later = ap (λ x. x ∷ map (line_ticked now) ls) (line_waits now l (later 0 l refl)) ∙ ap (λ (xs : List Line). l ∷ xs) (lines_wait now ls (λ k. later (suc k)))

-- none waits at a wire more
pub next_claimed : (ls : List Line) (fac : ℕ) (here : Line) → here ≡ get_or ls fac here → here.waiting ≡ [] → ((at : ℕ) (w : Line) → at < fac → slice_get ls at ≡ Some w → w.waiting ≡ []) → (at : ℕ) (w : Line) → at < fac + 1 → slice_get ls at ≡ Some w → w.waiting ≡ []
next_claimed ls fac here is none before at w lt stands = elim (cases_lt at fac) [
  | inl l ↦ before at w l stands
  | inr ge ↦
      let e : at ≡ fac = omega (arith, lt, ge) in
      subst (λ (l : Line). l.waiting ≡ []) (is ∙ get_or_from_slice_get ls fac w here (subst (λ (k : ℕ). slice_get ls k ≡ Some w) e stands)) none
]

-- All wires

-- a tick of wires that rest is their clock, one later
pub tick_rests : (a : Air) → a.now < 10000000 → RestsUntil (a.now + 2) a → TicksOn a (Ok tt) (at_tick (a.now + 1) a)
tick_rests a lt r = record {
  alive = r.alive;
  refused = ap (λ b. cond b (Some ClockSpent) None) (lt-leb 10000000 a.now lt);
  air = sym (ap (λ (ls : List Line). record a { now = a.now + 1; wires = ls }) (lines_wait (a.now + 1) a.wires (λ fac l is place f at. (let le = r.quiet fac l is place f at in omega (arith, le)))));
}

pub rests_sooner : (until until' : ℕ) (a : Air) → until' ≤ until → RestsUntil until a → RestsUntil until' a
rests_sooner until until' a le r = record { alive = r.alive; quiet = λ fac l is place f at. (let due = r.quiet fac l is place f at in omega (arith, due, le)) }

rested_by : (count : ℕ) (a : Air) → IsSound a → a.now + count ≤ 10000000 → RestsUntil (a.now + count + 1) a → IsSound (at_tick (a.now + count) a)
rested_by zero a s le r = subst (λ (n : ℕ). IsSound (at_tick n a)) (omega arith) s
rested_by (suc count) a s le r =
    let one = sound_ticks a (Ok tt) (at_tick (a.now + 1) a) s (tick_rests a (omega (arith, le)) (rests_sooner (a.now + suc count + 1) (a.now + 2) a (omega arith) r)) in
    let same : a.now + 1 + count + 1 ≡ a.now + suc count + 1 = omega arith in
    let next : RestsUntil (a.now + 1 + count + 1) (at_tick (a.now + 1) a) = record { alive = r.alive; quiet = subst (λ (n : ℕ). (fac : ℕ) (l : Line) → wire_at a fac ≡ Some l → IsQuietLine n l) (sym same) r.quiet } in
    subst (λ (n : ℕ). IsSound (at_tick n a)) (omega arith) (rested_by count (at_tick (a.now + 1) a) one (omega (arith, le)) next)

pub rested_sound : (now : ℕ) (a a' : Air) → IsSound a → a.now ≤ now → now ≤ 10000000 → RestsUntil (now + 1) a → a' ≡ at_tick now a → IsSound a'
rested_sound now a a' s later le r is =
    let same : now ≡ a.now + (now - a.now) = omega (arith, later) in
    let last = rested_by (now - a.now) a s (omega (arith, le, later)) (subst (λ (n : ℕ). RestsUntil (n + 1) a) same r) in
    subst IsSound (ap (λ (n : ℕ). at_tick n a) (sym same) ∙ sym is) last

-- Until when

pub sooner : (until until' : ℕ) (l : Line) → IsQuietLine until l → until' ≤ until → IsQuietLine until' l
sooner until until' l quiet le = λ place f at. (let due = quiet place f at in omega (arith, due, le))

at_or_before : (i n : ℕ) → i < n + 1 → (i < n) ⊎ (i ≡ n)
at_or_before i n lt = elim (cases_lt i n) [ inl l ↦ inl l | inr g ↦ inr (omega (arith, lt, g)) ]

-- one copy more was looked at
pub next_copy : (fs : List Flight) (place until until' : ℕ) (here : Flight) → here ≡ get_or fs place here → until' ≤ until → until' ≤ here.due → ((at : ℕ) (f : Flight) → at < place → slice_get fs at ≡ Some f → until ≤ f.due) → (at : ℕ) (f : Flight) → at < place + 1 → slice_get fs at ≡ Some f → until' ≤ f.due
next_copy fs place until until' here is le le' before at f lt stands = elim (at_or_before at place lt) [
  | inl l ↦ (let due = before at f l stands in omega (arith, due, le))
  | inr e ↦
      let same : f ≡ here = sym (is ∙ get_or_from_slice_get fs place f here (subst (λ i. slice_get fs i ≡ Some f) e stands)) in
      subst (λ (x : Flight). until' ≤ x.due) (sym same) le'
]

-- one wire more was looked at
pub next_line : (ls : List Line) (place until quiet until' : ℕ) (here : Line) → here ≡ get_or ls place here → until' ≤ until → until' ≤ quiet → IsQuietLine quiet here → ((at : ℕ) (l : Line) → at < place → slice_get ls at ≡ Some l → IsQuietLine until l) → (at : ℕ) (l : Line) → at < place + 1 → slice_get ls at ≡ Some l → IsQuietLine until' l
next_line ls place until quiet until' here is le le' quiet_here before at l lt stands = elim (at_or_before at place lt) [
  | inl b ↦ sooner until until' l (before at l b stands) le
  | inr e ↦
      let same : l ≡ here = sym (is ∙ get_or_from_slice_get ls place l here (subst (λ i. slice_get ls i ≡ Some l) e stands)) in
      subst (λ (x : Line). IsQuietLine until' x) (sym same) (sooner quiet until' here quiet_here le')
]

-- one copy more was looked at, and no later tick serves for all
pub last_copy : (fs : List Flight) (place until until' : ℕ) (here : Flight) → place < length fs → here ≡ get_or fs place here → ((later : ℕ) → later ≤ until → later ≤ here.due → later ≤ until') → IsLast (λ u. AreQuietCopies u fs) until → IsLast (λ u. AreQuietCopies u fs) until'
last_copy fs place until until' here within is least last = λ later small quiet. least later (last later small quiet) (quiet place here (slice_get_read fs (length fs) place here refl within is))

-- one wire more was looked at, and no later tick serves for all
pub last_line : (ls : List Line) (place until rest until' : ℕ) (here : Line) → place < length ls → here ≡ get_or ls place here → IsLast (λ u. IsQuietLine u here) rest → ((later : ℕ) → later ≤ until → later ≤ rest → later ≤ until') → IsLast (λ u. AreQuietLines u ls) until → IsLast (λ u. AreQuietLines u ls) until'
last_line ls place until rest until' here within is last_here least last = λ later small quiet. least later (last later small quiet) (last_here later small (quiet place here (slice_get_read ls (length ls) place here refl within is)))
