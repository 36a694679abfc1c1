-- What stands at the end of a run stood at its start, or one of the run's steps made it: so it is where each round, each tick and each word leads so.
use Rattle.std.proofs.Common.{◌≡◌, ◌⊎◌, ℕ, ◌+◌, zero, suc, Bool, true, false, List, [], ◌∷◌, Option, Some, None, Result, Ok, Err, sym, ap, subst, inl, inr}
use Rattle.rina_policy.specs.Slots.{Slot}
use Rattle.rina_report.specs.declared.note.Note.{Note}
use Rattle.rina_schedule.specs.declared.error.LineError.{LineError}
use Rattle.rina_schedule.specs.declared.event.Event.{Event}
use Rattle.rina_stack.specs.declared.plan.Plan.{Plan}
use Rattle.rina_table.specs.declared.sketch.Rounds.{Rounds}
use Rattle.rina_table.specs.declared.sketch.Rounds.TheVariants.{Auto, Manual}
use Rattle.rina_tower.specs.declared.tower.Tower.{Tower}
use Rattle.rina_tower.specs.Rounds.{IsRound}
use Rattle.rina_tower.specs.Stands.{IsTower}
use Rattle.rina_tower.specs.ClockTick.{Ticks as TowerTicks}
use Rattle.rina_schedule.specs.Line.{line_at as event_at}
use Rattle.rina_words.specs.Step.{Acts, RoundsBy, Stage, Ticking, Ticks, rounds_after}
use Rattle.rina_run.specs.Run.{LineDoes, Runs}
use Rattle.rina_laws.specs.SomeStep.{SomeAfter, SomeOfLine, SomeOfRound, SomeOfTicking, SomeOfTicks, SomeOfWord, SomeStep}

-- the tower stands afterwards, and where this holds of it, it held before, or that is so
pub record Leads (At : Tower → Type 0) (S : Type 0) (t t' : Tower) : Type 0 where
  pub valid : IsTower t'
  pub back : At t' → At t ⊎ S

pub leads_same : (At : Tower → Type 0) (S : Type 0) (t t' : Tower) → IsTower t → t' ≡ t → Leads At S t t'
leads_same At S t t' v is = subst (Leads At S t) (sym is) (record { valid = v; back = λ h. inl h })

pub leads_on : (At : Tower → Type 0) (S S' : Type 0) (t u v : Tower) → Leads At S t u → Leads At S' u v → Leads At (S ⊎ S') t v
leads_on At S S' t u v f g = record {
  valid = g.valid;
  back = λ h. elim (g.back h) [
    | inl o ↦ elim (f.back o) [ inl z ↦ inl z | inr s ↦ inr (inl s) ]
    | inr s ↦ inr (inr s)
  ];
}

-- a quiet part before
after_quiet : (At : Tower → Type 0) (S : Type 0) (t u v : Tower) → Leads At ⊥ t u → Leads At S u v → Leads At S t v
after_quiet At S t u v f g = record {
  valid = g.valid;
  back = λ h. elim (g.back h) [
    | inl o ↦ elim (f.back o) [ inl z ↦ inl z | inr none ↦ absurd none ]
    | inr s ↦ inr s
  ];
}

-- so does each round, each tick of the clock, and each word

abbrev pub RoundsLead : (Tower → Type 0) → (Tower → Tower → Type 0) → Type 0
RoundsLead At Is = (slots slots' : List Slot) (t t' : Tower) → IsTower t → (d : IsRound slots slots' t t') → Leads At (SomeOfRound Is slots slots' t t' d) t t'

abbrev pub TicksLead : (Tower → Type 0) → Type 0
TicksLead At = (t t' : Tower) → IsTower t → TowerTicks (Ok tt) t t' → Leads At ⊥ t t'

abbrev pub WordsLead : (Tower → Type 0) → (Tower → Tower → Type 0) → Type 0
WordsLead At Is = (plan : Plan) (line : ℕ) (event : Event) (s : Stage) (ns : List Note) (s' : Stage) → IsTower s.run.tower → (d : Acts plan line event s ns s') → Leads At (SomeOfWord Is plan line event s ns s' d) s.run.tower s'.run.tower

module _ (At : Tower → Type 0) (Is : Tower → Tower → Type 0) (round : RoundsLead At Is) where
  rounds_by : (rounds : Rounds) (slots : List Slot) (t : Tower) (slots' : List Slot) (t' : Tower) → IsTower t → (d : RoundsBy rounds slots t slots' t') → Leads At (SomeAfter Is rounds slots t slots' t' d) t t'
  rounds_by Auto slots t slots' t' v d = round slots slots' t t' v d
  rounds_by Manual slots t slots' t' v d = leads_same At ⊥ t t' v d.1

  -- the rounds of ticks
  all_ticks : TicksLead At → (plan : Plan) (line count : ℕ) (s : Stage) (ns : List Note) (s' : Stage) → IsTower s.run.tower → (d : Ticks plan line count s ns s') → Leads At (SomeOfTicks Is plan line count s ns s' d) s.run.tower s'.run.tower
  all_ticks tick plan line zero s ns s' v d = leads_same At ⊥ s.run.tower s'.run.tower v (ap (λ (z : Stage). z.run.tower) d.1)
  all_ticks tick plan line (suc count) s ns s' v (mid, first, rest, once, others, told) =
      let ticked = tick s.run.tower once.ticked v once.ticks in
      let rounded = rounds_by plan.rounds s.shelf once.ticked mid.shelf mid.run.tower ticked.valid once.rounds in
      leads_on At _ _ s.run.tower mid.run.tower s'.run.tower (after_quiet At _ s.run.tower once.ticked mid.run.tower ticked rounded) (all_ticks tick plan line count mid rest s' rounded.valid others)

  pub ticking : TicksLead At → (over : Bool) (plan : Plan) (line count : ℕ) (s : Stage) (ns : List Note) (s' : Stage) → IsTower s.run.tower → (d : Ticking over plan line count s ns s') → Leads At (SomeOfTicking Is over plan line count s ns s' d) s.run.tower s'.run.tower
  ticking tick true plan line count s ns s' v d = leads_same At ⊥ s.run.tower s'.run.tower v (ap (λ (z : Stage). z.run.tower) d.1)
  ticking tick false plan line count s ns s' v d = all_ticks tick plan line count s d.told s' v d.ticks

  -- a line, and all lines
  line_does : WordsLead At Is → (plan : Plan) (number : ℕ) (asks : Result (Option Event) LineError) (s : Stage) (ns : List Note) (s' : Stage) → IsTower s.run.tower → (d : LineDoes plan number asks s ns s') → Leads At (SomeOfLine Is plan number asks s ns s' d) s.run.tower s'.run.tower
  line_does word plan number (Ok None) s ns s' v d = leads_same At ⊥ s.run.tower s'.run.tower v (ap (λ (z : Stage). z.run.tower) d.1)
  line_does word plan number (Ok (Some event)) s ns s' v d =
      let first = word plan number event s d.answer d.mid v d.acts in
      leads_on At _ _ s.run.tower d.mid.run.tower s'.run.tower first (rounds_by (rounds_after plan.rounds event) d.mid.shelf d.mid.run.tower s'.shelf s'.run.tower first.valid d.rounds)
  line_does word plan number (Err e) s ns s' v d = absurd d

  pub runs : WordsLead At Is → (plan : Plan) (number : ℕ) (s : Stage) (lines : List (List ℕ)) (ns : List Note) (s' : Stage) → IsTower s.run.tower → (d : Runs plan number s lines ns s') → Leads At (SomeStep Is plan number s lines ns s' d) s.run.tower s'.run.tower
  runs word plan number s [] ns s' v d = leads_same At ⊥ s.run.tower s'.run.tower v (ap (λ (z : Stage). z.run.tower) d.1)
  runs word plan number s (l ∷ ls) ns s' v (mid, first, rest, does, others, told) =
      let one = line_does word plan number (event_at l) s first mid v does in
      leads_on At _ _ s.run.tower mid.run.tower s'.run.tower one (runs word plan (number + 1) mid ls rest s' one.valid others)
