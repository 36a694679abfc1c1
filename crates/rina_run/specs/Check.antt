-- What a check tells: an input is read up to the first line outside the grammar, and nothing is run.
use Rattle.std.specs.Prelude.{◌≡◌, ℕ, Bool, false, List, [], ◌∷◌, ◌++◌, length, count_by, Option, Some, None, is_some, Result, Ok, Err, ◌⊎◌}
use Rattle.std.specs.List.{All}
use Rattle.rina_report.specs.declared.note.Note.{Note}
use Rattle.rina_report.specs.declared.note.Note.TheVariants as notes
use Rattle.rina_report.specs.declared.note.Fault.{Fault}
use Rattle.rina_schedule.specs.declared.error.LineError.{LineError}
use Rattle.rina_schedule.specs.declared.event.Event.{Event}
use Rattle.rina_stack.specs.declared.plan.Plan.{Plan}
use Rattle.rina_stack.specs.Stack.{Reads}
use Rattle.rina_table.specs.declared.error.StackError.{StackError}
use Rattle.rina_schedule.specs.Line.{line_at}
use Rattle.rina_run.specs.declared.check.Checked.{Checked}
use Rattle.rina_run.specs.declared.check.Checked.TheVariants as checks
use Rattle.rina_run.specs.declared.lines.BadLine.{BadLine}
use Rattle.rina_run.specs.declared.outcome.Status.{Status}
use Rattle.rina_run.specs.declared.outcome.Status.TheVariants as statuses
use Rattle.rina_run.specs.Reading.{Broken, Ending, IsFine, Whole}
use Rattle.rina_run.specs.Script.{Script}
use Rattle.rina_run.specs.Top.{ClosedBy, IsStackAlone, fault_of, stack_fault, status_of}

-- the line is inside the grammar: it holds an event, or is blank or a comment
abbrev pub IsRead : List ℕ → Type 0
IsRead line = (event : Option Event) × (line_at line ≡ Ok event)

-- whether what was read is an event
abbrev pub is_event : Result (Option Event) LineError → Bool
is_event (Ok event) = is_some event
is_event (Err e) = false

-- how many lines hold an event
abbrev pub event_count : List (List ℕ) → ℕ
event_count lines = count_by (λ l. is_event (line_at l)) lines

-- the last of the lines is the first outside the grammar
pub record IsFirstBad (lines : List (List ℕ)) (bad : BadLine) : Type 0 where
  pub before : List (List ℕ)
  pub line : List ℕ
  pub are : lines ≡ before ++ line ∷ []
  pub number : bad.number ≡ length lines
  pub read : line_at line ≡ Err bad.error
  pub earlier : All IsRead before

-- the counts of an input
abbrev pub counts_of : Plan → ℕ → Note
counts_of plan events = notes.Checked (length plan.nodes) (length plan.wires) (length plan.difs) events

-- what is told where all lines are inside the grammar: the counts, or the fault that reading broke off with
abbrev pub LastTells : Ending → Plan → ℕ → Note → Type 0
LastTells Whole plan events note = note ≡ counts_of plan events
LastTells (Broken fault) plan events note = note ≡ notes.Fault fault
LastTells ending plan events note = ⊥

-- what is told of the lines behind a stack that was accepted: the fault of the first line outside the grammar, which is the last that was read, if there is one
abbrev pub LinesTell : Ending → Plan → List (List ℕ) → Note → Type 0
LinesTell ending plan lines note = (IsFine ending × (bad : BadLine) × IsFirstBad lines bad × (note ≡ notes.Fault (fault_of bad))) ⊎ (All IsRead lines × LastTells ending plan (event_count lines) note)

-- what is told of a stack that was not accepted
abbrev pub StackTells : (List ℕ → Bool) → List ℕ → Note → Type 0
StackTells known text note = (error : StackError) × Reads known (Err error) text × (fault : Fault) × (stack_fault error ≡ Some fault) × (note ≡ notes.Fault fault)

-- what is told of a script: the fault of its stack, before the schedule is read, or what is told of its lines
abbrev pub ScriptTells : (List ℕ → Bool) → Ending → Script → Note → Type 0
ScriptTells known ending s note = (IsStackAlone ending s × StackTells known s.stack note) ⊎ ((plan : Plan) × Reads known (Ok plan) s.stack × LinesTell ending plan s.lines note)

-- what is told of an input: where no mark was among what was read, the fault that reading broke off with
abbrev pub InputTells : (List ℕ → Bool) → Ending → Option Script → Note → Type 0
InputTells known ending (Some s) note = ScriptTells known ending s note
InputTells known (Broken fault) None note = note ≡ notes.Fault fault
InputTells known ending None note = ⊥

-- the status beside the one note of a check
abbrev pub status_beside : Note → Status
status_beside (notes.Fault fault) = status_of fault
status_beside note = statuses.Done

-- the outcome of a check: its one note is told, and the status is that of the note, unless it was stopped
pub record CheckOutcomes (known : List ℕ → Bool) (ending : Ending) (script : Option Script) (status : Status) (trace : List Note) : Type 0 where
  pub note : Note
  pub tells : InputTells known ending script note
  pub closed : ClosedBy (status_beside note) note [] status trace

-- what is known after a line was read: whether it holds an event, or its error
abbrev pub IsReadAs : List ℕ → Result Bool LineError → Type 0
IsReadAs line (Ok holds) = (event : Option Event) × (line_at line ≡ Ok event) × (holds ≡ is_some event)
IsReadAs line (Err e) = line_at line ≡ Err e

-- what is known after lines were read, by how reading them ended
abbrev pub AreReadAs : Ending → List (List ℕ) → Checked → Type 0
AreReadAs ending lines (checks.Events events) = (ending ≡ Whole) × All IsRead lines × (events ≡ event_count lines)
AreReadAs ending lines (checks.Broken fault) = (ending ≡ Broken fault) × All IsRead lines
AreReadAs ending lines (checks.Bad bad) = IsFine ending × IsFirstBad lines bad
