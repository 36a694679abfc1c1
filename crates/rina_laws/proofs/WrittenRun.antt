-- Each line of each ledger was written in a step of the run, before which its cause held.
use Rattle.std.proofs.Common.{◌≡◌, ◌∙◌, ℕ, ◌+◌, nat_lt, List, [], ◌∷◌, length, slice_get, Some, None, Ok, sym, ap, subst, arith, inl, inr, ◌⊎◌}
use Rattle.std.proofs.lemmas.Bool.Decides.{eqb_tells}
use Rattle.std.proofs.lemmas.List.{length-map}
use Rattle.std.proofs.lemmas.Option.{slice_get_within}
use Rattle.rina_account.specs.declared.ledger.Off.{Off}
use Rattle.rina_policy.specs.Slots.{Slot}
use Rattle.rina_report.specs.declared.note.Note.{Note}
use Rattle.rina_schedule.specs.declared.event.Event.{Event}
use Rattle.rina_schedule.specs.declared.event.Event.TheVariants as events
use Rattle.rina_stack.specs.declared.plan.Plan.{Plan}
use Rattle.rina_data.proofs.Finding.{there}
use Rattle.rina_data.specs.Configs.{member_of}
use Rattle.rina_data.specs.Deciding.{process_of}
use Rattle.rina_dif.specs.declared.dif.Dif.{Dif}
use Rattle.rina_dif.specs.Holding.{Stands}
use Rattle.rina_tower.specs.declared.tower.Tower.{Tower, Wires, Rank'}
use Rattle.rina_tower.specs.Ranks.{height_of, now_of, seen_of}
use Rattle.rina_tower.specs.Rounds.{AllMove, IsRound, Move}
use Rattle.rina_tower.specs.Stands.{IsTower}
use Rattle.rina_words.specs.declared.run.Run.{Run}
use Rattle.rina_words.specs.Step.{Acts, Stage}
use Rattle.rina_laws.specs.SomeStep.{LinesHaveCauses, SomeMove, SomeOfRound, SomeOfWord}
use Rattle.rina_laws.specs.Starts.{AreUntouched, IsUntouched}
use Rattle.rina_laws.specs.Written.{IsWritten, MayWrite, line_at, line_of}
use Rattle.rina_laws.proofs.Leading.{Leads, TicksLead, leads_on, leads_same, runs, ticking}
use Rattle.rina_laws.proofs.StartsAt.{difs_start}
use Rattle.rina_laws.proofs.WrittenGoes.{Goes}
use Rattle.rina_laws.proofs.WrittenGrows.{Grows, Never, dif_in, grown_at, line_in, low_line, no_line, own_line}
use Rattle.rina_laws.proofs.WrittenSteps.{moves, ticks}
use Rattle.rina_laws.proofs.WrittenWords.{lets, words}

-- a line of a ledger, by its places
record Spot : Type 0 where
  rank : ℕ
  dif : ℕ
  process : ℕ
  place : ℕ
  off : Off

-- it is there
abbrev At : Spot → Tower → Type 0
At s t = line_at t s.rank s.dif s.process s.place ≡ Some s.off

-- a step writes it
abbrev Is : Spot → Tower → Tower → Type 0
Is s t t' = IsWritten s.rank s.dif s.process s.place s.off t t'

-- after a step that writes nothing, or with cause

quiet_back : (x : Spot) (t t' : Tower) → height_of t' ≡ height_of t → Grows Never t t' → At x t' → At x t ⊎ ⊥
quiet_back x t t' height g h = elim (grown_at Never t t' x.rank x.dif x.process x.place x.off height g h) [ inl o ↦ inl o | inr w ↦ inr w.may ]

writes_back : (x : Spot) (t t' : Tower) → height_of t' ≡ height_of t → Grows MayWrite t t' → At x t' → At x t ⊎ Is x t t'
writes_back x t t' height g h = elim (grown_at MayWrite t t' x.rank x.dif x.process x.place x.off height g h) [
  | inl o ↦ inl o
  | inr w ↦ inr (record { none = w.none; written = w.written; rank = w.rank; is_rank = w.is_rank; below = w.below; is_below = w.is_below; dif = w.dif; is_dif = w.is_dif; may = w.may })
]

quiet : (x : Spot) (t t' : Tower) → Goes Never t t' → Leads (At x) ⊥ t t'
quiet x t t' g = record { valid = g.valid; back = quiet_back x t t' g.height g.grows }

writes : (x : Spot) (t t' : Tower) → Goes MayWrite t t' → Leads (At x) (Is x t t') t t'
writes x t t' g = record { valid = g.valid; back = writes_back x t t' g.height g.grows }

-- ---- rounds

all_move : (x : Spot) (ms : List Move) (slots : List Slot) (t : Tower) (slots' : List Slot) (t' : Tower) → IsTower t → (d : AllMove ms slots t slots' t') → Leads (At x) (SomeMove (Is x) ms slots t slots' t' d) t t'
all_move x [] slots t slots' t' v d = leads_same (At x) ⊥ t t' v d.1
all_move x (m ∷ ms) slots t slots' t' v (mid, between, one, others) =
    let first = writes x t between (moves m slots mid t between v one) in
    leads_on (At x) (Is x t between) (SomeMove (Is x) ms mid between slots' t' others) t between t' first (all_move x ms mid between slots' t' first.valid others)

round : (x : Spot) (slots slots' : List Slot) (t t' : Tower) → IsTower t → (d : IsRound slots slots' t t') → Leads (At x) (SomeOfRound (Is x) slots slots' t t' d) t t'
round x slots slots' t t' v d =
    let taken = all_move x d.takes slots t slots d.taken v d.do_take in
    let clocked = all_move x d.dues slots d.taken slots d.clocked taken.valid d.do_dues in
    let left = all_move x d.leaves slots d.clocked slots' t' clocked.valid d.do_leave in
    leads_on (At x) _ _ t d.taken t' taken (leads_on (At x) _ _ d.taken d.clocked t' clocked left)

-- ---- ticks

tick : (x : Spot) → TicksLead (At x)
tick x t t' v d = (let k = ticks Never (Ok tt) t t' v d in record { valid = k.valid; back = quiet_back x t t' k.height k.grows })

-- ---- words and lines

word : (x : Spot) (plan : Plan) (line : ℕ) (event : Event) (s : Stage) (ns : List Note) (s' : Stage) → IsTower s.run.tower → (d : Acts plan line event s ns s') → Leads (At x) (SomeOfWord (Is x) plan line event s ns s' d) s.run.tower s'.run.tower
word x plan line (events.Tick count) s ns s' v d = ticking (At x) (Is x) (round x) (tick x) (nat_lt 10000000 (now_of s.run.tower + count)) plan line count s ns s' v d
word x plan line events.Round s ns s' v d = round x s.shelf s'.shelf s.run.tower s'.run.tower v d.does
word x plan line (events.In dif node link) s ns s' v d = writes x s.run.tower s'.run.tower (words plan line (events.In dif node link) s.run ns s'.run v d.0)
word x plan line (events.Clock dif node) s ns s' v d = writes x s.run.tower s'.run.tower (words plan line (events.Clock dif node) s.run ns s'.run v d.0)
word x plan line (events.Out dif node link) s ns s' v d = writes x s.run.tower s'.run.tower (lets plan line dif node link s ns s' v d)
word x plan line (events.Free label) s ns s' v d = writes x s.run.tower s'.run.tower (words plan line (events.Free label) s.run ns s'.run v d.0)
word x plan line (events.Retire policy) s ns s' v d = leads_same (At x) ⊥ s.run.tower s'.run.tower v (ap (λ (w : Run). w.tower) d.run)
word x plan line event s ns s' v d = quiet x s.run.tower s'.run.tower (words plan line event s.run ns s'.run v d.0)

-- ---- no ledger has a line at the start

no_lines : (d : Dif) (below : Tower) (i k : ℕ) (off : Off) → Stands d (seen_of below) → IsUntouched d → line_of d.processes i k ≡ Some off → ⊥
no_lines d below i k off st new h =
    let m = line_in (slice_get d.processes i) k off h in
    let within = slice_get_within d.processes i m.0 m.1 in
    let aligned : length d.processes ≡ length d.settings.members = sym (length-map d.processes process_of) ∙ st.1.standing.aligned ∙ length-map d.settings.members member_of in
    let member = there d.settings.members i (omega (arith, within, aligned)) in
    let empty : m.0.ledger ≡ [] = (new.processes i member.0 m.0 member.1 m.1).ledger in
    let no : None ≡ Some off = subst (λ (ls : List Off). slice_get ls k ≡ Some off) empty m.2 in
    cc

none_before : (t : Tower) (r n i k : ℕ) (off : Off) → IsTower t → AreUntouched t → line_at t r n i k ≡ Some off → ⊥
none_before (Wires a) r n i k off v new h = no_line a r n i k off h
none_before (Rank' p difs below) r n i k off v new h = elim (eqb_tells r (height_of below + 1)) [
  | inl e ↦ (let m = dif_in (slice_get difs n) i k off (sym (own_line p difs below r n i k e.0) ∙ h) in no_lines m.0 below i k off (v.0.standing.stand n m.0 m.1) (new.0 n m.0 m.1) m.2)
  | inr f ↦ none_before below r n i k off v.1 new.1 (sym (low_line p difs below r n i k f.0) ∙ h)
]

pub lines_have_causes : LinesHaveCauses
lines_have_causes plan shelf start lines ns s o d r n i k off h =
    let x : Spot = record { rank = r; dif = n; process = i; place = k; off = off } in
    elim ((runs (At x) (Is x) (round x) (word x) plan 1 start lines ns s o.stands d).back h) [
      | inl old ↦ absurd (none_before start.run.tower r n i k off o.stands (difs_start plan shelf start o) old)
      | inr step ↦ step
    ]
