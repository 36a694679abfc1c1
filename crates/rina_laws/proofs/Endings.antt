-- A status that `run` answers has its cause, and what was read is the cause of one status.
use Rattle.std.proofs.Common.{◌≡◌, ℕ, zero, suc, ◌+◌, ◌≤◌, Bool, List, [], ◌∷◌, ◌++◌, length, length-append, get_or, slice_get, Option, Some, None, IfSome, Result, Ok, Err, ◌⊎◌, inl, inr, refl, sym, ap, ◌∙◌, arith, subst, ap₂, unwrap_or, append_assoc, append-nil}
use Rattle.std.proofs.lemmas.List.{length-take}
use Rattle.std.proofs.lemmas.Option.{same_Some, slice_get_within, unwrap_or-slice_get}
use Rattle.std.specs.List.{All}
use Rattle.rina_gen.specs.Input.{input}
use Rattle.rina_gen.specs.Text.{input_text}
use Rattle.rina_policy.specs.Slots.{Slot}
use Rattle.rina_report.specs.declared.note.Fault.{Fault}
use Rattle.rina_report.specs.declared.note.Fault.TheVariants as faults
use Rattle.rina_report.specs.declared.note.Note.{Note}
use Rattle.rina_report.specs.declared.note.Note.TheVariants as notes
use Rattle.rina_schedule.specs.declared.error.LineError.{LineError}
use Rattle.rina_schedule.specs.declared.event.Event.{Event}
use Rattle.rina_schedule.specs.Errors.{field_of, number_of}
use Rattle.rina_schedule.specs.Line.{line_at}
use Rattle.rina_stack.specs.declared.plan.Plan.{Plan}
use Rattle.rina_stack.specs.Stack.{Reads}
use Rattle.rina_table.specs.declared.error.StackError.{StackError}
use Rattle.rina_table.specs.declared.error.StackError.TheVariants as stack
use Rattle.rina_tower.specs.declared.tower.Tower.{Tower}
use Rattle.rina_words.specs.Step.{Stage}
use Rattle.rina_run.specs.declared.command.Command.{Command}
use Rattle.rina_run.specs.declared.command.Command.TheVariants as commands
use Rattle.rina_run.specs.declared.lines.BadLine.{BadLine}
use Rattle.rina_run.specs.declared.outcome.Status.{Status}
use Rattle.rina_run.specs.declared.outcome.Status.TheVariants as statuses
use Rattle.rina_run.specs.Check.{CheckOutcomes, InputTells, IsFirstBad, IsRead, LastTells, LinesTell, ScriptTells, counts_of, event_count, status_beside}
use Rattle.rina_run.specs.Drawn.{Tells}
use Rattle.rina_run.specs.Faults.{ReadFaults, WriteFaults}
use Rattle.rina_run.specs.Outcomes.{EndsShow, IsBrokenOff, IsChecked, IsGenerated, IsRan, RunOutcomes}
use Rattle.rina_run.specs.Reading.{Broken, EndedBy, Ending, Enough, IsFine, Lost, Whole, is_whole}
use Rattle.rina_run.specs.Run.{LineDoes, Runs}
use Rattle.rina_run.specs.Script.{Script, script_in}
use Rattle.rina_run.specs.Top.{ClosedBy, InputOutcomes, PlayOutcomes, RefusedBy, ScriptOutcomes, WasRead, fault_of, stack_fault, status_of}
use Rattle.rina_laws.specs.Endings.{Call, CausesAreOfOneStatus, HasCause, IsAccepted, IsCause, IsCauseOf, RunsEndForTheirCause, UseIsBounded}

-- ---- a run that was stopped

-- a write or an allocation failed
abbrev IsStopped : Status → Type 0
IsStopped statuses.WriteFault = Unit {0}
IsStopped statuses.Memory = Unit {0}
IsStopped s = ⊥

no_memory : (s : Status) → s ≡ statuses.Memory → IsStopped s
no_memory s is = subst (λ (u : Status). IsStopped u) (sym is) tt

-- a closing note was told beside its status, unless the run was stopped
closed_as : (wanted : Status) (note : Note) (old : List Note) (s : Status) (new : List Note) → ClosedBy wanted note old s new → IsStopped s ⊎ (s ≡ wanted)
closed_as wanted note old statuses.WriteFault new c = inl tt
closed_as wanted note old statuses.Memory new c = inl tt
closed_as wanted note old s new c = inr c.0

refused_as : (fault : Fault) (s : Status) (t : List Note) → RefusedBy fault s t → IsStopped s ⊎ (s ≡ status_of fault)
refused_as fault statuses.WriteFault t c = inl tt
refused_as fault statuses.Memory t c = inl tt
refused_as fault s t c = inr c.0

as_told : (known : List ℕ → Bool) (ending : Ending) (script : Option Script) (s wanted : Status) → IsCause known ending script wanted → IsStopped s ⊎ (s ≡ wanted) → IsStopped s ⊎ IsCause known ending script s
as_told known ending script s wanted cause (inl stop) = inl stop
as_told known ending script s wanted cause (inr is) = inr (subst (λ (u : Status). IsCause known ending script u) (sym is) cause)

read_as : (known : List ℕ → Bool) (left left' : Option (List ℕ)) (s : Status) (Outcome : Ending → Option Script → Type 0) → (w : WasRead left left' Outcome) → IsStopped s ⊎ IsCause known w.ending (script_in (is_whole w.ending) w.used) s
    → IsStopped s ⊎ WasRead left left' (λ ending script. IsCause known ending script s)
read_as known left left' s Outcome w (inl stop) = inl stop
read_as known left left' s Outcome w (inr cause) = inr (record { ending = w.ending; used = w.used; read = w.read; outcome = cause })

-- ---- what was read

-- reading broke off, and nothing ended the run before
broken_cause : (known : List ℕ → Bool) (left' : Option (List ℕ)) (bytes used : List ℕ) (fault : Fault) (script : Option Script) → EndedBy (Broken fault) left' bytes used → IfSome script (IsAccepted known) → IsCause known (Broken fault) script (status_of fault)
broken_cause known left' bytes used faults.TooLarge None ended ok = (refl, ok)
broken_cause known left' bytes used faults.TooLarge (Some sc) ended ok = (refl, ok)
broken_cause known left' bytes used faults.ReadFault None ended ok = (refl, ok)
broken_cause known left' bytes used faults.ReadFault (Some sc) ended ok = (refl, ok)
broken_cause known left' bytes used fault script ended ok = absurd ended

stack_for : (known : List ℕ → Bool) (ending : Ending) (sc : Script) (error : StackError) (fault : Fault) (s : Status) → IsFine ending → Reads known (Err error) sc.stack → stack_fault error ≡ Some fault → IsStopped s ⊎ (s ≡ status_of fault) → IsStopped s ⊎ IsCause known ending (Some sc) s
stack_for known ending sc stack.Memory fault s fine reads is told = cc
stack_for known ending sc stack.NotToml fault s fine reads is told =
    as_told known ending (Some sc) s statuses.NotToml (fine, reads) (subst (λ (f : Fault). IsStopped s ⊎ (s ≡ status_of f)) (sym (same_Some faults.NotToml fault is)) told)
stack_for known ending sc (stack.StackRule n item) fault s fine reads is told =
    as_told known ending (Some sc) s (statuses.StackRule n item) (fine, reads) (subst (λ (f : Fault). IsStopped s ⊎ (s ≡ status_of f)) (sym (same_Some (faults.StackRule n item) fault is)) told)

-- ---- `run`

all_cons : (l : List ℕ) (ls : List (List ℕ)) → IsRead l → All IsRead ls → All IsRead (l ∷ ls)
all_cons l ls one more zero d lt = one
all_cons l ls one more (suc k) d lt = more k d (omega (arith, lt))

line_read : (plan : Plan) (number : ℕ) (line : List ℕ) (r : Result (Option Event) LineError) (s : Stage) (ns : List Note) (s' : Stage) → line_at line ≡ r → LineDoes plan number r s ns s' → IsRead line
line_read plan number line (Ok event) s ns s' is does = (event, is)
line_read plan number line (Err e) s ns s' is does = absurd does

-- a line that was run is inside the grammar
lines_read : (plan : Plan) (number : ℕ) (s : Stage) (lines : List (List ℕ)) (ns : List Note) (s' : Stage) → Runs plan number s lines ns s' → All IsRead lines
lines_read plan number s [] ns s' runs = λ k d lt. absurd (omega (arith, lt))
lines_read plan number s (l ∷ ls) ns s' (mid, first, rest, does, runs, is) = all_cons l ls (line_read plan number l (line_at l) s first mid refl does) (lines_read plan (number + 1) mid ls rest s' runs)

played_for : (known : List ℕ → Bool) (plan : Plan) (ending : Ending) (sc : Script) (start : Stage) (s : Status) (t : List Note) (tower : Option Tower) (shelf' : List Slot) → Reads known (Ok plan) sc.stack → PlayOutcomes plan ending sc.lines start s t tower shelf' → IsStopped s ⊎ IsCause known ending (Some sc) s
played_for known plan ending sc start statuses.Done t tower shelf' reads (is, p) = inr (is, (plan, reads, lines_read plan 1 start sc.lines p.told p.reached p.ran))
played_for known plan ending sc start (statuses.Schedule line n field) t tower shelf' reads (fine, bad, is, p) =
    let stops = p.ran in
    let first : IsFirstBad sc.lines bad = record { before = stops.before; line = stops.line; are = stops.are; number = stops.number; read = stops.read; earlier = lines_read plan 1 start stops.before p.told p.reached stops.runs } in
    inr (fine, (plan, reads, bad, first, is))
played_for known plan ending sc start statuses.ReadFault t tower shelf' reads (is, p) = inr (is, (plan, reads, lines_read plan 1 start sc.lines p.told p.reached p.ran))
played_for known plan ending sc start statuses.TooLarge t tower shelf' reads (is, p) = inr (is, (plan, reads, lines_read plan 1 start sc.lines p.told p.reached p.ran))
played_for known plan ending sc start statuses.WriteFault t tower shelf' reads p = inl tt
played_for known plan ending sc start statuses.Memory t tower shelf' reads p = inl tt
played_for known plan ending sc start s t tower shelf' reads p = absurd p

script_for : (known : List ℕ → Bool) (ending : Ending) (sc : Script) (shelf : List Slot) (s : Status) (t : List Note) (tower : Option Tower) (shelf' : List Slot) → ScriptOutcomes known ending sc shelf s t tower shelf' → IsStopped s ⊎ IsCause known ending (Some sc) s
script_for known ending sc shelf s t (Some tower) shelf' (plan, reads, start, opening, played) = played_for known plan ending sc start s t (Some tower) shelf' reads played
script_for known ending sc shelf s t None shelf' (inl m, same) = inl (no_memory s m.memory)
script_for known ending sc shelf s t None shelf' (inr r, same) = stack_for known ending sc r.error r.fault s r.alone.0 r.reads r.is_its (refused_as r.fault s t r.refused)

input_for : (known : List ℕ → Bool) (left' : Option (List ℕ)) (bytes used : List ℕ) (ending : Ending) (script : Option Script) (shelf : List Slot) (s : Status) (t : List Note) (tower : Option Tower) (shelf' : List Slot) → EndedBy ending left' bytes used → InputOutcomes known ending script shelf s t tower shelf' → IsStopped s ⊎ IsCause known ending script s
input_for known left' bytes used ending (Some sc) shelf s t tower shelf' ended o = script_for known ending sc shelf s t tower shelf' o
input_for known left' bytes used (Broken fault) None shelf s t tower shelf' ended o = as_told known (Broken fault) None s (status_of fault) (broken_cause known left' bytes used fault None ended tt) (refused_as fault s t o.1)
input_for known left' bytes used ending None shelf s t tower shelf' ended o = absurd o

ran_for : (known : List ℕ → Bool) (left left' : Option (List ℕ)) (shelf : List Slot) (s : Status) (t : List Note) (tower : Option Tower) (shelf' : List Slot) → IsRan known left left' shelf s t tower shelf' → IsStopped s ⊎ WasRead left left' (λ ending script. IsCause known ending script s)
ran_for known left left' shelf s t tower shelf' (inl m) = inl (no_memory s m.0.memory)
ran_for known left left' shelf s t tower shelf' (inr w) =
    read_as known left left' s _ w (input_for known left' w.read.bytes w.used w.ending (script_in (is_whole w.ending) w.used) shelf s t tower shelf' w.read.ended w.outcome)

-- ---- `check`

by_note : (s : Status) (note other : Note) → note ≡ other → IsStopped s ⊎ (s ≡ status_beside note) → IsStopped s ⊎ (s ≡ status_beside other)
by_note s note other is told = subst (λ (n : Note). IsStopped s ⊎ (s ≡ status_beside n)) is told

last_for : (known : List ℕ → Bool) (left' : Option (List ℕ)) (bytes used : List ℕ) (ending : Ending) (sc : Script) (plan : Plan) (events : ℕ) (note : Note) (s : Status) → EndedBy ending left' bytes used → Reads known (Ok plan) sc.stack → All IsRead sc.lines → LastTells ending plan events note → IsStopped s ⊎ (s ≡ status_beside note)
    → IsStopped s ⊎ IsCause known ending (Some sc) s
last_for known left' bytes used Whole sc plan events note s ended reads all tells told = as_told known Whole (Some sc) s statuses.Done (refl, (plan, reads, all)) (by_note s note (counts_of plan events) tells told)
last_for known left' bytes used (Broken fault) sc plan events note s ended reads all tells told =
    as_told known (Broken fault) (Some sc) s (status_of fault) (broken_cause known left' bytes used fault (Some sc) ended (plan, reads, all)) (by_note s note (notes.Fault fault) tells told)
last_for known left' bytes used ending sc plan events note s ended reads all tells told = absurd tells

lines_for : (known : List ℕ → Bool) (left' : Option (List ℕ)) (bytes used : List ℕ) (ending : Ending) (sc : Script) (plan : Plan) (note : Note) (s : Status) → EndedBy ending left' bytes used → Reads known (Ok plan) sc.stack → LinesTell ending plan sc.lines note → IsStopped s ⊎ (s ≡ status_beside note) → IsStopped s ⊎ IsCause known ending (Some sc) s
lines_for known left' bytes used ending sc plan note s ended reads (inl (fine, bad, first, is)) told =
    as_told known ending (Some sc) s (status_of (fault_of bad)) (fine, (plan, reads, bad, first, refl)) (by_note s note (notes.Fault (fault_of bad)) is told)
lines_for known left' bytes used ending sc plan note s ended reads (inr (all, tells)) told = last_for known left' bytes used ending sc plan (event_count sc.lines) note s ended reads all tells told

told_for : (known : List ℕ → Bool) (left' : Option (List ℕ)) (bytes used : List ℕ) (ending : Ending) (sc : Script) (note : Note) (s : Status) → EndedBy ending left' bytes used → ScriptTells known ending sc note → IsStopped s ⊎ (s ≡ status_beside note) → IsStopped s ⊎ IsCause known ending (Some sc) s
told_for known left' bytes used ending sc note s ended (inl (alone, (error, reads, fault, is_its, is))) told = stack_for known ending sc error fault s alone.0 reads is_its (by_note s note (notes.Fault fault) is told)
told_for known left' bytes used ending sc note s ended (inr (plan, reads, tells)) told = lines_for known left' bytes used ending sc plan note s ended reads tells told

tells_for : (known : List ℕ → Bool) (left' : Option (List ℕ)) (bytes used : List ℕ) (ending : Ending) (script : Option Script) (note : Note) (s : Status) → EndedBy ending left' bytes used → InputTells known ending script note → IsStopped s ⊎ (s ≡ status_beside note) → IsStopped s ⊎ IsCause known ending script s
tells_for known left' bytes used ending (Some sc) note s ended tells told = told_for known left' bytes used ending sc note s ended tells told
tells_for known left' bytes used (Broken fault) None note s ended tells told = as_told known (Broken fault) None s (status_of fault) (broken_cause known left' bytes used fault None ended tt) (by_note s note (notes.Fault fault) tells told)
tells_for known left' bytes used ending None note s ended tells told = absurd tells

check_for : (known : List ℕ → Bool) (left' : Option (List ℕ)) (bytes used : List ℕ) (ending : Ending) (script : Option Script) (s : Status) (t : List Note) → EndedBy ending left' bytes used → CheckOutcomes known ending script s t → IsStopped s ⊎ IsCause known ending script s
check_for known left' bytes used ending script s t ended c = tells_for known left' bytes used ending script c.note s ended c.tells (closed_as (status_beside c.note) c.note [] s t c.closed)

checked_for : (known : List ℕ → Bool) (left left' : Option (List ℕ)) (s : Status) (t : List Note) (tower : Option Tower) → IsChecked known left left' s t tower → IsStopped s ⊎ WasRead left left' (λ ending script. IsCause known ending script s)
checked_for known left left' s t tower c = elim c.outcome [
  | inl m ↦ inl (no_memory s m.memory)
  | inr w ↦ read_as known left left' s _ w (check_for known left' w.read.bytes w.used w.ending (script_in (is_whole w.ending) w.used) s t w.read.ended w.outcome)
]

-- ---- `gen` and `show`

-- how a drawn run ended is told, unless that was stopped
tells_as : (n : ℕ) (ended : Status) (unwritten : List Note) (tower : Option Tower) (s : Status) (t : List Note) → Tells n ended unwritten tower s t → IsStopped s ⊎ (s ≡ ended)
tells_as n statuses.Done unwritten tower s t (inl none) = inl (no_memory s none.memory)
tells_as n statuses.Done unwritten None s t (inr sums) = absurd sums
tells_as n statuses.Done unwritten (Some u) s t (inr (note, is, closed)) = closed_as statuses.Done note [] s t closed
tells_as n statuses.Memory unwritten tower s t told = inl (no_memory s told.memory)
tells_as n statuses.ReadFault unwritten tower s t told = absurd told
tells_as n statuses.WriteFault unwritten tower s t told = absurd told
tells_as n ended unwritten tower s t told = closed_as ended (notes.Fault told.0) [] s t told.2

drawn_as : (known : List ℕ → Bool) (text : List ℕ) (left : Option (List ℕ)) (ended s : Status) → IsStopped ended ⊎ WasRead (Some text) left (λ ending script. IsCause known ending script ended) → IsStopped s ⊎ (s ≡ ended)
    → IsStopped s ⊎ ((behind : Option (List ℕ)) × WasRead (Some text) behind (λ ending script. IsCause known ending script s))
drawn_as known text left ended s ran (inl stop) = inl stop
drawn_as known text left ended s (inl stop) (inr is) = inl (subst (λ (u : Status). IsStopped u) (sym is) stop)
drawn_as known text left ended s (inr w) (inr is) = inr (left, subst (λ (u : Status). WasRead (Some text) left (λ ending script. IsCause known ending script u)) (sym is) w)

drawn_for : (known : List ℕ → Bool) (n : ℕ) (shelf : List Slot) (s : Status) (t : List Note) (tower : Option Tower) (unwritten : List Note) (shelf' : List Slot) → IsGenerated known n shelf s t tower unwritten shelf'
    → IsStopped s ⊎ ((behind : Option (List ℕ)) × WasRead (Some (input_text (input n))) behind (λ ending script. IsCause known ending script s))
drawn_for known n shelf s t tower unwritten shelf' g =
    drawn_as known (input_text (input n)) g.left g.ended s (ran_for known (Some (input_text (input n))) g.left shelf g.ended unwritten tower shelf' g.ran) (tells_as n g.ended unwritten tower s t g.told)

shown_for : (s : Status) → EndsShow s → IsStopped s ⊎ (s ≡ statuses.Done)
shown_for statuses.Done ends = inr refl
shown_for statuses.WriteFault ends = inl tt
shown_for statuses.Memory ends = inl tt
shown_for s ends = absurd ends

-- ---- each command

caused : (known : List ℕ → Bool) (command : Result Command ℕ) (left left' : Option (List ℕ)) (shelf : List Slot) (s : Status) (t : List Note) (tower : Option Tower) (unwritten : List Note) (shelf' : List Slot) → RunOutcomes known command left left' shelf s t tower unwritten shelf' → IsStopped s ⊎ IsCauseOf known command left left' s
caused known (Ok commands.Run) left left' shelf s t tower unwritten shelf' o = ran_for known left left' shelf s t tower shelf' o.0
caused known (Ok commands.Check) left left' shelf s t tower unwritten shelf' o = checked_for known left left' s t tower o.0
caused known (Ok (commands.Gen n)) left left' shelf s t tower unwritten shelf' o = drawn_for known n shelf s t tower unwritten shelf' o.0
caused known (Ok (commands.Show n)) left left' shelf s t tower unwritten shelf' o = shown_for s o.0.ends
caused known (Err word) left left' shelf s t tower unwritten shelf' o = refused_as (faults.Usage word) s t o.1

with_faults : (c : Call) (s : Status) (Broke : Type 0) → ReadFaults Broke s c.reads.count c.reads'.count c.reads.odd c.reads'.odd → WriteFaults s c.writes.count c.writes'.count c.writes.odd c.writes'.odd → IsStopped s ⊎ IsCauseOf c.known c.command c.left c.left' s → HasCause c s
with_faults c statuses.Memory Broke read write cause = tt
with_faults c statuses.WriteFault Broke read write cause = write
with_faults c s Broke read write (inl stop) = absurd stop
with_faults c s Broke read write (inr cause) = (read, write, cause)

pub runs_end : RunsEndForTheirCause
runs_end c s e =
    with_faults c s (IsBrokenOff c.known c.command c.left c.left' e.shelf s e.trace e.tower e.shelf') e.read e.write (caused c.known c.command c.left c.left' e.shelf s e.trace e.tower e.unwritten e.shelf' e.outcome)

-- ---- one cause

-- a stack that is accepted is not refused
pub not_both : (known : List ℕ → Bool) (plan : Plan) (text : List ℕ) → Reads known (Ok plan) text → Reads known (Err stack.NotToml) text → ⊥
not_both known plan text (ms, table, is) none = none ms table

pub not_by_rule : (known : List ℕ → Bool) (plan : Plan) (n item : ℕ) (text : List ℕ) → Reads known (Ok plan) text → Reads known (Err (stack.StackRule n item)) text → ⊥
not_by_rule known plan n item text (ms, table, is) (ms', table', is') = let same = sym table.1 ∙ table'.1 in cc

toml_by_rule : (known : List ℕ → Bool) (n item : ℕ) (text : List ℕ) → Reads known (Err stack.NotToml) text → Reads known (Err (stack.StackRule n item)) text → ⊥
toml_by_rule known n item text none (ms, table, is) = none ms table

same_rule : (known : List ℕ → Bool) (n item m other : ℕ) (text : List ℕ) → Reads known (Err (stack.StackRule n item)) text → Reads known (Err (stack.StackRule m other)) text → statuses.StackRule n item ≡ statuses.StackRule m other
same_rule known n item m other text (ms, table, is) (ms', table', is') = let same = sym table.1 ∙ table'.1 in cc

middle_of : (before : List (List ℕ)) (line : List ℕ) (behind : List (List ℕ)) → slice_get (before ++ line ∷ behind) (length before) ≡ Some line
middle_of [] line behind = refl
middle_of (l ∷ ls) line behind = middle_of ls line behind

read_at : (ls : List (List ℕ)) (i : ℕ) (l : List ℕ) → All IsRead ls → slice_get ls i ≡ Some l → IsRead l
read_at ls i l all at =
    let here : get_or ls i l ≡ l = sym (unwrap_or-slice_get ls i l) ∙ ap (λ (o : Option (List ℕ)). unwrap_or o l) at in
    subst (λ (x : List ℕ). IsRead x) here (all i l (slice_get_within ls i l at))

-- a line outside the grammar is none of these
pub not_bad : (lines all behind : List (List ℕ)) (bad : BadLine) → IsFirstBad lines bad → all ≡ lines ++ behind → All IsRead all → ⊥
not_bad lines all behind bad first are read =
    let here : all ≡ first.before ++ first.line ∷ behind = are ∙ ap (λ (ls : List (List ℕ)). ls ++ behind) first.are ∙ append_assoc first.before (first.line ∷ []) behind in
    let at : slice_get all (length first.before) ≡ Some first.line = ap (λ (ls : List (List ℕ)). slice_get ls (length first.before)) here ∙ middle_of first.before first.line behind in
    let fine = read_at all (length first.before) first.line read at in
    let no : Ok fine.0 ≡ Err bad.error = sym fine.1 ∙ first.read in
    cc

-- ---- what each cause leaves open: nothing

done_alone : (known : List ℕ → Bool) (ending : Ending) (sc : Script) (t : Status) → IsCause known ending (Some sc) statuses.Done → IsCause known ending (Some sc) t → statuses.Done ≡ t
done_alone known ending sc statuses.Done (whole, (plan, reads, all)) other = refl
done_alone known ending sc statuses.NotToml (whole, (plan, reads, all)) other = absurd (not_both known plan sc.stack reads other.1)
done_alone known ending sc (statuses.StackRule n item) (whole, (plan, reads, all)) other = absurd (not_by_rule known plan n item sc.stack reads other.1)
done_alone known ending sc (statuses.Schedule line n field) (whole, (plan, reads, all)) (fine, (plan', reads', bad, first, is)) = absurd (not_bad sc.lines sc.lines [] bad first (sym (append-nil sc.lines)) all)
done_alone known ending sc statuses.TooLarge (whole, accepted) other = let no : Whole ≡ Broken faults.TooLarge = sym whole ∙ other.0 in cc
done_alone known ending sc statuses.ReadFault (whole, accepted) other = let no : Whole ≡ Broken faults.ReadFault = sym whole ∙ other.0 in cc
done_alone known ending sc t cause other = absurd other

by_fault : (fault other : Fault) → Broken fault ≡ Broken other → status_of other ≡ status_of fault
by_fault fault other is = let same : fault ≡ other = cc in ap status_of (sym same)

-- where reading broke off by a fault, no other status has its cause
broken_alone : (known : List ℕ → Bool) (fault : Fault) (script : Option Script) (t : Status) → IsCause known (Broken fault) script t → t ≡ status_of fault
broken_alone known fault (Some sc) statuses.Done cause = let no = cause.0 in cc
broken_alone known fault (Some sc) statuses.NotToml cause = absurd cause.0
broken_alone known fault (Some sc) (statuses.StackRule n item) cause = absurd cause.0
broken_alone known fault (Some sc) (statuses.Schedule line n field) cause = absurd cause.0
broken_alone known fault (Some sc) statuses.TooLarge cause = by_fault fault faults.TooLarge cause.0
broken_alone known fault (Some sc) statuses.ReadFault cause = by_fault fault faults.ReadFault cause.0
broken_alone known fault None statuses.TooLarge cause = by_fault fault faults.TooLarge cause.0
broken_alone known fault None statuses.ReadFault cause = by_fault fault faults.ReadFault cause.0
broken_alone known fault script t cause = absurd cause

toml_alone : (known : List ℕ → Bool) (ending : Ending) (sc : Script) (t : Status) → IsCause known ending (Some sc) statuses.NotToml → IsCause known ending (Some sc) t → statuses.NotToml ≡ t
toml_alone known ending sc statuses.NotToml cause other = refl
toml_alone known ending sc statuses.Done cause other = sym (done_alone known ending sc statuses.NotToml other cause)
toml_alone known ending sc (statuses.StackRule n item) cause other = absurd (toml_by_rule known n item sc.stack cause.1 other.1)
toml_alone known ending sc (statuses.Schedule line n field) cause (fine, (plan, reads, bad, first, is)) = absurd (not_both known plan sc.stack reads cause.1)
toml_alone known ending sc statuses.TooLarge cause other = absurd (subst (λ (e : Ending). IsFine e) other.0 cause.0)
toml_alone known ending sc statuses.ReadFault cause other = absurd (subst (λ (e : Ending). IsFine e) other.0 cause.0)
toml_alone known ending sc t cause other = absurd other

rule_alone : (known : List ℕ → Bool) (ending : Ending) (sc : Script) (n item : ℕ) (t : Status) → IsCause known ending (Some sc) (statuses.StackRule n item) → IsCause known ending (Some sc) t → statuses.StackRule n item ≡ t
rule_alone known ending sc n item (statuses.StackRule m other) cause cause' = same_rule known n item m other sc.stack cause.1 cause'.1
rule_alone known ending sc n item statuses.Done cause other = sym (done_alone known ending sc (statuses.StackRule n item) other cause)
rule_alone known ending sc n item statuses.NotToml cause other = sym (toml_alone known ending sc (statuses.StackRule n item) other cause)
rule_alone known ending sc n item (statuses.Schedule line m field) cause (fine, (plan, reads, bad, first, is)) = absurd (not_by_rule known plan n item sc.stack reads cause.1)
rule_alone known ending sc n item statuses.TooLarge cause other = absurd (subst (λ (e : Ending). IsFine e) other.0 cause.0)
rule_alone known ending sc n item statuses.ReadFault cause other = absurd (subst (λ (e : Ending). IsFine e) other.0 cause.0)
rule_alone known ending sc n item t cause other = absurd other

-- the first line outside the grammar is one
same_bad : (lines : List (List ℕ)) (bad other : BadLine) → IsFirstBad lines bad → IsFirstBad lines other → fault_of bad ≡ fault_of other
same_bad lines bad other first second =
    let long : length lines ≡ length first.before + 1 = ap length first.are ∙ length-append first.before (first.line ∷ []) in
    let long' : length lines ≡ length second.before + 1 = ap length second.are ∙ length-append second.before (second.line ∷ []) in
    let place : length first.before ≡ length second.before = omega (arith, long, long') in
    let at : slice_get lines (length first.before) ≡ Some first.line = ap (λ (ls : List (List ℕ)). slice_get ls (length first.before)) first.are ∙ middle_of first.before first.line [] in
    let at' : slice_get lines (length second.before) ≡ Some second.line = ap (λ (ls : List (List ℕ)). slice_get ls (length second.before)) second.are ∙ middle_of second.before second.line [] in
    let line : first.line ≡ second.line = same_Some first.line second.line (sym at ∙ ap (λ (i : ℕ). slice_get lines i) place ∙ at') in
    let read : Err bad.error ≡ Err other.error = sym first.read ∙ ap line_at line ∙ second.read in
    let error : bad.error ≡ other.error = cc in
    let number : bad.number ≡ other.number = first.number ∙ sym second.number in
    ap₂ (λ (n : ℕ) (e : LineError). faults.Schedule n (number_of e) (field_of e)) number error

bad_alone : (known : List ℕ → Bool) (ending : Ending) (sc : Script) (line n field : ℕ) (t : Status) → IsCause known ending (Some sc) (statuses.Schedule line n field) → IsCause known ending (Some sc) t → statuses.Schedule line n field ≡ t
bad_alone known ending sc line n field (statuses.Schedule line' m field') (fine, (plan, reads, bad, first, is)) (fine', (plan', reads', bad', first', is')) =
    ap status_of (sym is ∙ same_bad sc.lines bad bad' first first' ∙ is')
bad_alone known ending sc line n field statuses.Done cause other = sym (done_alone known ending sc (statuses.Schedule line n field) other cause)
bad_alone known ending sc line n field statuses.NotToml cause other = sym (toml_alone known ending sc (statuses.Schedule line n field) other cause)
bad_alone known ending sc line n field (statuses.StackRule m item) cause other = sym (rule_alone known ending sc m item (statuses.Schedule line n field) other cause)
bad_alone known ending sc line n field statuses.TooLarge cause other = absurd (subst (λ (e : Ending). IsFine e) other.0 cause.0)
bad_alone known ending sc line n field statuses.ReadFault cause other = absurd (subst (λ (e : Ending). IsFine e) other.0 cause.0)
bad_alone known ending sc line n field t cause other = absurd other

broken_off : (known : List ℕ → Bool) (ending : Ending) (fault : Fault) (script : Option Script) (t : Status) → ending ≡ Broken fault → IsCause known ending script t → status_of fault ≡ t
broken_off known ending fault script t is cause = sym (broken_alone known fault script t (subst (λ (e : Ending). IsCause known e script t) is cause))

pub of_one_status : CausesAreOfOneStatus
of_one_status known ending (Some sc) statuses.Done t cause other = done_alone known ending sc t cause other
of_one_status known ending (Some sc) statuses.NotToml t cause other = toml_alone known ending sc t cause other
of_one_status known ending (Some sc) (statuses.StackRule n item) t cause other = rule_alone known ending sc n item t cause other
of_one_status known ending (Some sc) (statuses.Schedule line n field) t cause other = bad_alone known ending sc line n field t cause other
of_one_status known ending (Some sc) statuses.TooLarge t cause other = broken_off known ending faults.TooLarge (Some sc) t cause.0 other
of_one_status known ending (Some sc) statuses.ReadFault t cause other = broken_off known ending faults.ReadFault (Some sc) t cause.0 other
of_one_status known ending None statuses.TooLarge t cause other = broken_off known ending faults.TooLarge None t cause.0 other
of_one_status known ending None statuses.ReadFault t cause other = broken_off known ending faults.ReadFault None t cause.0 other
of_one_status known ending script s t cause other = absurd cause

-- ---- at most 16 MiB

bounded_by : (ending : Ending) (left' : Option (List ℕ)) (bytes used : List ℕ) → EndedBy ending left' bytes used → length used ≤ 16777216
bounded_by Whole left' bytes used (over, few, are) = omega (arith, few, ap length are)
bounded_by (Broken faults.TooLarge) left' bytes used (many, are) = omega (arith, ap length are, length-take 16777216 bytes)
bounded_by (Broken faults.ReadFault) left' bytes used (few, are) = omega (arith, few, ap length are)
bounded_by (Broken fault) left' bytes used ended = absurd ended
bounded_by Enough left' bytes used (few, enough) = omega (arith, few, ap length enough.are, length-append used enough.behind)
bounded_by Lost left' bytes used (few, behind, short, are) = omega (arith, few, ap length are, length-append used behind)

pub use_is_bounded : UseIsBounded
use_is_bounded left left' ending used r = bounded_by ending left' r.bytes used r.ended
