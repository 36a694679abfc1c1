-- The outcome of a run: the status, the notes, the tower and the shelf, by what was read.
use Rattle.std.specs.Prelude.{◌≡◌, slice_get, ℕ, ◌≤◌, Bool, List, [], ◌∷◌, ◌++◌, Option, Some, None, Ok, Err, ◌⊎◌}
use Rattle.rina_iface.specs.declared.ends.End.{End}
use Rattle.rina_iface.specs.declared.state.Fail.{Fail}
use Rattle.rina_iface.specs.declared.state.Fail.TheVariants.{Cut}
use Rattle.rina_iface.specs.declared.state.PortState.TheVariants.{Failed}
use Rattle.rina_iface.specs.Journal.{AreKept}
use Rattle.rina_iface.specs.Seen.{Fac, Seen}
use Rattle.rina_policy.specs.Slots.{Slot}
use Rattle.rina_report.specs.declared.note.Note.{Note}
use Rattle.rina_report.specs.declared.note.Note.TheVariants as notes
use Rattle.rina_report.specs.declared.note.Fault.{Fault}
use Rattle.rina_report.specs.declared.note.Fault.TheVariants as faults
use Rattle.rina_schedule.specs.Errors.{number_of, field_of}
use Rattle.rina_stack.specs.declared.plan.Plan.{Plan}
use Rattle.rina_table.specs.declared.error.StackError.{StackError}
use Rattle.rina_table.specs.declared.error.StackError.TheVariants as stack
use Rattle.rina_stack.specs.Stack.{Reads}
use Rattle.rina_tower.specs.declared.tower.Tower.{Tower}
use Rattle.rina_tower.specs.Ranks.{now_of, rank_of, seen_of}
use Rattle.rina_run.specs.declared.lines.BadLine.{BadLine}
use Rattle.rina_run.specs.declared.output.Stop.{Stop}
use Rattle.rina_run.specs.declared.output.Stop.TheVariants as stops
use Rattle.rina_run.specs.declared.outcome.Status.{Status}
use Rattle.rina_run.specs.declared.outcome.Status.TheVariants as statuses
use Rattle.rina_run.specs.Opening.{IsOpening}
use Rattle.rina_run.specs.Run.{Runs, StopsAt, RanFirst}
use Rattle.rina_run.specs.Reading.{Broken, Ending, IsFine, IsReadTo, Whole, is_whole}
use Rattle.rina_run.specs.Script.{Script, script_in}
use Rattle.rina_words.specs.Step.{HasNames, Stage}

-- the status that a fault is told beside
abbrev pub status_of : Fault → Status
status_of (faults.Usage word) = statuses.Usage word
status_of faults.TooLarge = statuses.TooLarge
status_of faults.NotToml = statuses.NotToml
status_of (faults.StackRule n item) = statuses.StackRule n item
status_of (faults.Schedule line n field) = statuses.Schedule line n field
status_of faults.ReadFault = statuses.ReadFault

-- the fault of a line: the number of its error, and the field
abbrev pub fault_of : BadLine → Fault
fault_of bad = faults.Schedule bad.number (number_of bad.error) (field_of bad.error)

abbrev pub told_once : Fault → List Note
told_once fault = notes.Fault fault ∷ []

-- the lines led to this stage, and a closing note was added
pub record PlayedTo (Ran : List Note → Stage → Type 0) (closing : Stage → Note) (trace : List Note) (tower : Option Tower) (shelf' : List Slot) : Type 0 where
  pub told : List Note
  pub reached : Stage
  pub ran : Ran told reached
  pub notes : trace ≡ told ++ closing reached ∷ []
  pub left : tower ≡ Some reached.run.tower
  pub shelf : shelf' ≡ reached.shelf

-- the notes of the lines that led to this stage, and the closing note behind them
pub record IsClosed (Ran : List Note → Stage → Type 0) (closing : Stage → Note) (trace : List Note) (reached : Stage) : Type 0 where
  pub told : List Note
  pub ran : Ran told reached
  pub notes : trace ≡ told ++ closing reached ∷ []

-- the close of a run of all its lines was told: its end, or the fault that reading broke off with
abbrev pub IsClosedAll : Plan → Ending → List (List ℕ) → Stage → List Note → Stage → Type 0
IsClosedAll plan Whole lines start trace reached = IsClosed (Runs plan 1 start lines) (λ s. notes.End (now_of s.run.tower)) trace reached
IsClosedAll plan (Broken fault) lines start trace reached = IsClosed (Runs plan 1 start lines) (λ s. notes.Fault fault) trace reached
IsClosedAll plan ending lines start trace reached = ⊥

-- the close of a run was told whose last line is outside the grammar
pub record IsClosedBad (plan : Plan) (ending : Ending) (lines : List (List ℕ)) (start : Stage) (trace : List Note) (reached : Stage) : Type 0 where
  pub fine : IsFine ending
  pub bad : BadLine
  pub closed : IsClosed (StopsAt plan start lines bad) (λ s. notes.Fault (fault_of bad)) trace reached

-- the notes of a run that was stopped by a write: it was stopped at the notes of the last line that was read; or at its close, behind all lines or
-- at one that is outside the grammar
abbrev pub IsStopped : Plan → Ending → List (List ℕ) → Stage → List Note → Stage → Type 0
IsStopped plan ending lines start trace reached = (IsFine ending × Runs plan 1 start lines trace reached) ⊎ (IsClosedAll plan ending lines start trace reached ⊎ IsClosedBad plan ending lines start trace reached)

-- the lines are run, all or those before the one that is outside the grammar, and the closing note is told, or is still to be told; or the next line could
-- not be read
abbrev pub IsAtClose : Plan → Ending → List (List ℕ) → Stage → List Note → Stage → Type 0
IsAtClose plan ending lines start trace reached =
    Runs plan 1 start lines trace reached ⊎ ((IsFine ending × (bad : BadLine) × StopsAt plan start lines bad trace reached) ⊎ (IsClosedAll plan ending lines start trace reached ⊎ IsClosedBad plan ending lines start trace reached))

-- the run was stopped at this stage, and left its tower and its shelf
pub record PlayedPart (IsAt : List Note → Stage → Type 0) (trace : List Note) (tower : Option Tower) (shelf' : List Slot) : Type 0 where
  pub reached : Stage
  pub stopped : IsAt trace reached
  pub left : tower ≡ Some reached.run.tower
  pub after : shelf' ≡ reached.shelf

-- memory ran out in the last line that was read: the lines before it were run, and it was or was not, each with all of its notes; of the shelf only the names
-- are known
pub record IsShort (plan : Plan) (ending : Ending) (lines : List (List ℕ)) (start : Stage) (trace : List Note) (shelf' : List Slot) : Type 0 where
  pub fine : IsFine ending
  pub reached : Stage
  pub first : RanFirst plan start lines trace reached
  pub names : HasNames start.shelf shelf'

-- the outcome of lines that were run from a stage, by how reading ended; a line outside the grammar is the last that was read, and so is one whose
-- notes could not be written; where reading was broken off, memory can have run out at the close alone
abbrev pub PlayOutcomes : Plan → Ending → List (List ℕ) → Stage → Status → List Note → Option Tower → List Slot → Type 0
PlayOutcomes plan ending lines start statuses.Done trace tower shelf' = (ending ≡ Whole) × PlayedTo (Runs plan 1 start lines) (λ s. notes.End (now_of s.run.tower)) trace tower shelf'
PlayOutcomes plan ending lines start (statuses.Schedule line n field) trace tower shelf' = IsFine ending × (bad : BadLine) × (fault_of bad ≡ faults.Schedule line n field) × PlayedTo (StopsAt plan start lines bad) (λ s. notes.Fault (fault_of bad)) trace tower shelf'
PlayOutcomes plan ending lines start statuses.ReadFault trace tower shelf' = (ending ≡ Broken faults.ReadFault) × PlayedTo (Runs plan 1 start lines) (λ s. notes.Fault faults.ReadFault) trace tower shelf'
PlayOutcomes plan ending lines start statuses.TooLarge trace tower shelf' = (ending ≡ Broken faults.TooLarge) × PlayedTo (Runs plan 1 start lines) (λ s. notes.Fault faults.TooLarge) trace tower shelf'
PlayOutcomes plan ending lines start statuses.WriteFault trace tower shelf' = PlayedPart (IsStopped plan ending lines start) trace tower shelf'
PlayOutcomes plan ending lines start statuses.Memory trace tower shelf' = IsShort plan ending lines start trace shelf' ⊎ PlayedPart (IsAtClose plan ending lines start) trace tower shelf'
PlayOutcomes plan ending lines start status trace tower shelf' = ⊥

-- the run was refused before its first line: the fault is told, and nothing else
abbrev pub RefusedBy : Fault → Status → List Note → Type 0
RefusedBy fault statuses.WriteFault trace = trace ≡ told_once fault
RefusedBy fault statuses.Memory trace = (trace ≡ []) ⊎ (trace ≡ told_once fault)
RefusedBy fault status trace = (status ≡ status_of fault) × (trace ≡ told_once fault)

-- nothing was done, since an allocation failed
pub record IsOutOfMemory (status : Status) (trace : List Note) (tower : Option Tower) : Type 0 where
  pub memory : status ≡ statuses.Memory
  pub notes : trace ≡ []
  pub left : tower ≡ None

-- the fault of a stack that is no TOML, or breaks a rule
abbrev pub stack_fault : StackError → Option Fault
stack_fault stack.Memory = None
stack_fault stack.NotToml = Some faults.NotToml
stack_fault (stack.StackRule n item) = Some (faults.StackRule n item)

-- reading ended behind the text of the stack and its mark: no line of the schedule was read, and of its bytes at most 4,096
abbrev pub IsStackAlone : Ending → Script → Type 0
IsStackAlone ending s = IsFine ending × (s.lines ≡ [])

-- the stack was not accepted, and its fault is told, before the schedule is read
pub record IsRefusedStack (known : List ℕ → Bool) (ending : Ending) (s : Script) (status : Status) (trace : List Note) : Type 0 where
  pub alone : IsStackAlone ending s
  pub error : StackError
  pub reads : Reads known (Err error) s.stack
  pub fault : Fault
  pub is_its : stack_fault error ≡ Some fault
  pub refused : RefusedBy fault status trace

-- the outcome of a script: its lines were run where its stack was accepted and memory was found for it, and else the shelf is as it was
abbrev pub ScriptOutcomes : (List ℕ → Bool) → Ending → Script → List Slot → Status → List Note → Option Tower → List Slot → Type 0
ScriptOutcomes known ending s shelf status trace (Some t) shelf' = (plan : Plan) × Reads known (Ok plan) s.stack × (start : Stage) × IsOpening plan shelf start × PlayOutcomes plan ending s.lines start status trace (Some t) shelf'
ScriptOutcomes known ending s shelf status trace None shelf' = (IsOutOfMemory status trace None ⊎ IsRefusedStack known ending s status trace) × (shelf' ≡ shelf)

-- the outcome of an input: where no mark was among what was read, the fault is told
abbrev pub InputOutcomes : (List ℕ → Bool) → Ending → Option Script → List Slot → Status → List Note → Option Tower → List Slot → Type 0
InputOutcomes known ending (Some s) shelf status trace tower shelf' = ScriptOutcomes known ending s shelf status trace tower shelf'
InputOutcomes known (Broken fault) None shelf status trace tower shelf' = (tower ≡ None) × RefusedBy fault status trace × (shelf' ≡ shelf)
InputOutcomes known ending None shelf status trace tower shelf' = ⊥

-- an input was read, with this outcome by how reading ended and by the script that was read
pub record WasRead (left left' : Option (List ℕ)) (Outcome : Ending → Option Script → Type 0) : Type 0 where
  pub ending : Ending
  pub used : List ℕ
  pub read : IsReadTo left left' ending used
  pub outcome : Outcome ending (script_in (is_whole ending) used)

-- a closing note was added, unless an allocation failed; the run ends with this status, unless it was stopped
abbrev pub ClosedBy : Status → Note → List Note → Status → List Note → Type 0
ClosedBy wanted note old statuses.WriteFault new = new ≡ old ++ note ∷ []
ClosedBy wanted note old statuses.Memory new = (new ≡ old) ⊎ (new ≡ old ++ note ∷ [])
ClosedBy wanted note old status new = (status ≡ wanted) × (new ≡ old ++ note ∷ [])

abbrev pub status_stopped : Stop → Status
status_stopped stops.Memory = statuses.Memory
status_stopped stops.WriteFault = statuses.WriteFault

-- a wire was cut at a tick that has come
abbrev pub IsCutBy : ℕ → Fail → Type 0
IsCutBy now (Cut at) = at ≤ now
IsCutBy now fail = ⊥

-- each end that has failed did so by a cut
abbrev pub AreCut : Seen → Type 0
AreCut s = (n : ℕ) (f : Fac) → slice_get s.facs n ≡ Some f → (i : ℕ) (e : End) → slice_get f.ends i ≡ Some e → (fail : Fail) → e.state ≡ Failed fail → IsCutBy s.now fail

-- each end of a wire of a tower that has failed did so by a cut of its wire
abbrev pub FailedByCut : Tower → Type 0
FailedByCut t = (u : Tower) → rank_of t 0 ≡ Some u → AreCut (seen_of u)

-- the facilities of each rank of a tower keep what their flows promise
abbrev pub KeepsAll : Tower → Type 0
KeepsAll t = (rank : ℕ) (u : Tower) → rank_of t rank ≡ Some u → AreKept (seen_of u)
