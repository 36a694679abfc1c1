-- The faults of reading and of writing that a run meets: what it does to their count, and to whether their number is odd.
use Rattle.std.specs.Prelude.{◌≡◌, ℕ, Bool, not, Result, Ok, Err, ◌⊎◌}
use Rattle.rina_base.specs.declared.memory.Memory.{Memory}
use Rattle.rina_io.specs.Causes.{RoseOnce}
use Rattle.rina_report.specs.declared.note.Fault.{Fault}
use Rattle.rina_report.specs.declared.note.Fault.TheVariants as faults
use Rattle.rina_report.specs.declared.note.Note.{Note}
use Rattle.rina_report.specs.declared.note.Note.TheVariants as notes
use Rattle.rina_run.specs.declared.check.Checked.{Checked}
use Rattle.rina_run.specs.declared.check.Checked.TheVariants as checks
use Rattle.rina_run.specs.declared.lines.Close.{Close}
use Rattle.rina_run.specs.declared.lines.Close.TheVariants as closes
use Rattle.rina_run.specs.declared.reading.Head.{Head}
use Rattle.rina_run.specs.declared.reading.Head.TheVariants as heads
use Rattle.rina_run.specs.declared.reading.Next.{Next}
use Rattle.rina_run.specs.declared.reading.Next.TheVariants as nexts
use Rattle.rina_run.specs.declared.output.Stop.{Stop}
use Rattle.rina_run.specs.declared.outcome.Status.{Status}
use Rattle.rina_run.specs.declared.outcome.Status.TheVariants as statuses
use Rattle.rina_run.specs.Top.{status_stopped}

-- There is one fault more: the count rose by one, or stands at the greatest u64; and whether their number is odd has turned, also where the count stands.
abbrev pub IsOneMore : ℕ → ℕ → Bool → Bool → Type 0
IsOneMore before now odd odd' = RoseOnce before now × (odd' ≡ not odd)

-- there is no fault more
abbrev pub IsNoneMore : ℕ → ℕ → Bool → Bool → Type 0
IsNoneMore before now odd odd' = (now ≡ before) × (odd' ≡ odd)

-- what a run does to the faults of writing, by its status: one write failed where that tells a write fault, and else none
abbrev pub WriteFaults : Status → ℕ → ℕ → Bool → Bool → Type 0
WriteFaults statuses.WriteFault before now odd odd' = IsOneMore before now odd odd'
WriteFaults status before now odd odd' = IsNoneMore before now odd odd'

-- What a run does to the faults of reading, by its status: one read failed where that tells a read fault, and else none. Only where a write or an allocation
-- failed may one read have failed before it, and then the outcome is that of an input whose reading broke off so: the read fault was still to be told.
abbrev pub ReadFaults : Type 0 → Status → ℕ → ℕ → Bool → Bool → Type 0
ReadFaults Broke statuses.ReadFault before now odd odd' = IsOneMore before now odd odd'
ReadFaults Broke statuses.WriteFault before now odd odd' = IsNoneMore before now odd odd' ⊎ (IsOneMore before now odd odd' × Broke)
ReadFaults Broke statuses.Memory before now odd odd' = IsNoneMore before now odd odd' ⊎ (IsOneMore before now odd odd' × Broke)
ReadFaults Broke status before now odd odd' = IsNoneMore before now odd odd'

-- the same of a part of a run, which is done, or stops
abbrev pub StopFaults : {T : Type 0} → Result T Stop → ℕ → ℕ → Bool → Bool → Type 0
StopFaults (Ok done) before now odd odd' = IsNoneMore before now odd odd'
StopFaults (Err stop) before now odd odd' = WriteFaults (status_stopped stop) before now odd odd'

-- what reading that broke off with this fault does to the faults of reading: one read failed where that is the fault, and else none
abbrev pub BreakFaults : Fault → ℕ → ℕ → Bool → Bool → Type 0
BreakFaults faults.ReadFault before now odd odd' = IsOneMore before now odd odd'
BreakFaults fault before now odd odd' = IsNoneMore before now odd odd'

-- what reading one line more does to them
abbrev pub NextFaults : Result Next Memory → ℕ → ℕ → Bool → Bool → Type 0
NextFaults (Ok (nexts.Broken fault)) before now odd odd' = BreakFaults fault before now odd odd'
NextFaults result before now odd odd' = IsNoneMore before now odd odd'

-- what reading the text of the stack does
abbrev pub HeadFaults : Result Head Memory → ℕ → ℕ → Bool → Bool → Type 0
HeadFaults (Ok (heads.Broken fault)) before now odd odd' = BreakFaults fault before now odd odd'
HeadFaults result before now odd odd' = IsNoneMore before now odd odd'

-- and what running the lines of a schedule does
abbrev pub CloseFaults : Result Close Stop → ℕ → ℕ → Bool → Bool → Type 0
CloseFaults (Ok (closes.Broken fault)) before now odd odd' = BreakFaults fault before now odd odd'
CloseFaults result before now odd odd' = IsNoneMore before now odd odd'

-- what reading the lines of a schedule does
abbrev pub CheckFaults : Result Checked Memory → ℕ → ℕ → Bool → Bool → Type 0
CheckFaults (Ok (checks.Broken fault)) before now odd odd' = BreakFaults fault before now odd odd'
CheckFaults result before now odd odd' = IsNoneMore before now odd odd'

-- and what reading for a check does, by the note that is told
abbrev pub NoteFaults : Result Note Memory → ℕ → ℕ → Bool → Bool → Type 0
NoteFaults (Ok (notes.Fault fault)) before now odd odd' = BreakFaults fault before now odd odd'
NoteFaults result before now odd odd' = IsNoneMore before now odd odd'
