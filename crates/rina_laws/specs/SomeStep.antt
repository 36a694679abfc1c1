-- The steps of a run that may write a PDU off, or make a far end: each step of a round, and each line that lets a DIF take a step or frees a flow.
-- Each definition says that this holds of the towers before and after some of the steps that a relation of the run names.
use Rattle.std.specs.Prelude.{◌≡◌, ◌⊎◌, ℕ, ◌+◌, zero, suc, nat_lt, Bool, true, false, List, [], ◌∷◌, Option, Some, None, Result, Ok, Err}
use Rattle.rina_account.specs.declared.ledger.Off.{Off}
use Rattle.rina_iface.specs.declared.ends.End.{End}
use Rattle.rina_iface.specs.declared.state.Role.TheVariants.{Far}
use Rattle.rina_policy.specs.Slots.{Slot}
use Rattle.rina_report.specs.declared.note.Note.{Note}
use Rattle.rina_schedule.specs.declared.error.LineError.{LineError}
use Rattle.rina_schedule.specs.declared.event.Event.{Event}
use Rattle.rina_schedule.specs.declared.event.Event.TheVariants as events
use Rattle.rina_stack.specs.declared.plan.Plan.{Plan}
use Rattle.rina_table.specs.declared.sketch.Rounds.{Rounds}
use Rattle.rina_table.specs.declared.sketch.Rounds.TheVariants.{Auto, Manual}
use Rattle.rina_tower.specs.declared.tower.Tower.{Tower}
use Rattle.rina_tower.specs.Ranks.{now_of}
use Rattle.rina_tower.specs.Rounds.{AllMove, IsRound, Move}
use Rattle.rina_schedule.specs.Line.{line_at as event_at}
use Rattle.rina_words.specs.Step.{Acts, RoundsBy, Stage, Ticking, Ticks, rounds_after}
use Rattle.rina_run.specs.Opening.{IsOpening}
use Rattle.rina_run.specs.Run.{LineDoes, Runs}
use Rattle.rina_laws.specs.Named.{MakesFarEnd, end_at}
use Rattle.rina_laws.specs.Written.{IsWritten, line_at}

-- of some step of a round's list
abbrev pub SomeMove : (Is : Tower → Tower → Type 0) (ms : List Move) (slots : List Slot) (t : Tower) (slots' : List Slot) (t' : Tower) → AllMove ms slots t slots' t' → Type 0
SomeMove Is [] slots t slots' t' moves = ⊥
SomeMove Is (m ∷ ms) slots t slots' t' (mid, between, one, others) = Is t between ⊎ SomeMove Is ms mid between slots' t' others

-- of some step of a round: one that takes what came, does what is due, or lets a PDU go
abbrev pub SomeOfRound : (Is : Tower → Tower → Type 0) (slots slots' : List Slot) (t t' : Tower) → IsRound slots slots' t t' → Type 0
SomeOfRound Is slots slots' t t' round =
    SomeMove Is round.takes slots t slots round.taken round.do_take ⊎ (SomeMove Is round.dues slots round.taken slots round.clocked round.do_dues ⊎ SomeMove Is round.leaves slots round.clocked slots' t' round.do_leave)

-- of some step of the round that follows by itself, where one does
abbrev pub SomeAfter : (Is : Tower → Tower → Type 0) (rounds : Rounds) (slots : List Slot) (t : Tower) (slots' : List Slot) (t' : Tower) → RoundsBy rounds slots t slots' t' → Type 0
SomeAfter Is Auto slots t slots' t' round = SomeOfRound Is slots slots' t t' round
SomeAfter Is Manual slots t slots' t' same = ⊥

-- of some step of the rounds of so many ticks
abbrev pub SomeOfTicks : (Is : Tower → Tower → Type 0) (plan : Plan) (line count : ℕ) (s : Stage) (ns : List Note) (s' : Stage) → Ticks plan line count s ns s' → Type 0
SomeOfTicks Is plan line zero s ns s' ticks = ⊥
SomeOfTicks Is plan line (suc count) s ns s' (mid, first, rest, once, others, told) =
    SomeAfter Is plan.rounds s.shelf once.ticked mid.shelf mid.run.tower once.rounds ⊎ SomeOfTicks Is plan line count mid rest s' others

abbrev pub SomeOfTicking : (Is : Tower → Tower → Type 0) (over : Bool) (plan : Plan) (line count : ℕ) (s : Stage) (ns : List Note) (s' : Stage) → Ticking over plan line count s ns s' → Type 0
SomeOfTicking Is true plan line count s ns s' ticks = ⊥
SomeOfTicking Is false plan line count s ns s' all = SomeOfTicks Is plan line count s all.told s' all.ticks

-- of some step of what a word does: of those of its rounds, or of the word where it lets a DIF take a step or frees a flow; no other
-- word takes a step that may write
abbrev pub SomeOfWord : (Is : Tower → Tower → Type 0) (plan : Plan) (line : ℕ) (event : Event) (s : Stage) (ns : List Note) (s' : Stage) → Acts plan line event s ns s' → Type 0
SomeOfWord Is plan line (events.Tick count) s ns s' acts = SomeOfTicking Is (nat_lt 10000000 (now_of s.run.tower + count)) plan line count s ns s' acts
SomeOfWord Is plan line events.Round s ns s' acts = SomeOfRound Is s.shelf s'.shelf s.run.tower s'.run.tower acts.does
SomeOfWord Is plan line (events.In dif node link) s ns s' acts = Is s.run.tower s'.run.tower
SomeOfWord Is plan line (events.Clock dif node) s ns s' acts = Is s.run.tower s'.run.tower
SomeOfWord Is plan line (events.Out dif node link) s ns s' acts = Is s.run.tower s'.run.tower
SomeOfWord Is plan line (events.Free label) s ns s' acts = Is s.run.tower s'.run.tower
SomeOfWord Is plan line event s ns s' acts = ⊥

-- of some step of a line: of its word, or of the round that follows
abbrev pub SomeOfLine : (Is : Tower → Tower → Type 0) (plan : Plan) (number : ℕ) (asks : Result (Option Event) LineError) (s : Stage) (ns : List Note) (s' : Stage) → LineDoes plan number asks s ns s' → Type 0
SomeOfLine Is plan number (Ok None) s ns s' same = ⊥
SomeOfLine Is plan number (Ok (Some event)) s ns s' step =
    SomeOfWord Is plan number event s step.answer step.mid step.acts ⊎ SomeAfter Is (rounds_after plan.rounds event) step.mid.shelf step.mid.run.tower s'.shelf s'.run.tower step.rounds
SomeOfLine Is plan number (Err e) s ns s' none = ⊥

-- of some step of a run
abbrev pub SomeStep : (Is : Tower → Tower → Type 0) (plan : Plan) (number : ℕ) (s : Stage) (lines : List (List ℕ)) (ns : List Note) (s' : Stage) → Runs plan number s lines ns s' → Type 0
SomeStep Is plan number s [] ns s' same = ⊥
SomeStep Is plan number s (l ∷ ls) ns s' (mid, first, rest, does, others, told) = SomeOfLine Is plan number (event_at l) s first mid does ⊎ SomeStep Is plan (number + 1) mid ls rest s' others

-- in every run of a stack, each line of each ledger of each DIF was written in one of the run's steps, before which its cause held
abbrev pub LinesHaveCauses : Type 0
LinesHaveCauses =
    (plan : Plan) (shelf : List Slot) (start : Stage) (lines : List (List ℕ)) (ns : List Note) (s : Stage) → IsOpening plan shelf start → (runs : Runs plan 1 start lines ns s)
    → (r n i k : ℕ) (off : Off) → line_at s.run.tower r n i k ≡ Some off → SomeStep (IsWritten r n i k off) plan 1 start lines ns s runs

-- in every run of a stack, each far end of each DIF that was not there at the opening was made in one of the run's steps, in which it was asked for
abbrev pub FarEndsAreAskedFor : Type 0
FarEndsAreAskedFor =
    (plan : Plan) (shelf : List Slot) (start : Stage) (lines : List (List ℕ)) (ns : List Note) (s : Stage) → IsOpening plan shelf start → (runs : Runs plan 1 start lines ns s)
    → (r n i : ℕ) (e : End) → end_at s.run.tower r n i ≡ Some e → e.role ≡ Far → end_at start.run.tower r n i ≡ None → SomeStep (MakesFarEnd r n i e) plan 1 start lines ns s runs
