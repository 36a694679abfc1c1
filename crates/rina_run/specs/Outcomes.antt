-- The outcome of each command.
use Rattle.std.specs.Prelude.{◌≡◌, ℕ, Bool, List, [], Option, Some, None, Result, Ok, Err, ◌⊎◌}
use Rattle.rina_gen.specs.Input.{input}
use Rattle.rina_gen.specs.Text.{input_text}
use Rattle.rina_policy.specs.Slots.{Slot}
use Rattle.rina_report.specs.declared.note.Note.{Note}
use Rattle.rina_report.specs.declared.note.Fault.TheVariants as faults
use Rattle.rina_tower.specs.declared.tower.Tower.{Tower}
use Rattle.rina_run.specs.declared.command.Command.{Command}
use Rattle.rina_run.specs.declared.command.Command.TheVariants as commands
use Rattle.rina_run.specs.declared.outcome.Status.{Status}
use Rattle.rina_run.specs.declared.outcome.Status.TheVariants as statuses
use Rattle.rina_run.specs.Check.{CheckOutcomes}
use Rattle.rina_run.specs.Drawn.{Tells}
use Rattle.rina_run.specs.Reading.{Broken}
use Rattle.rina_run.specs.Top.{InputOutcomes, IsOutOfMemory, RefusedBy, WasRead}
use Rattle.rina_run.specs.Written.{Written, WrittenText}

-- what a command wrote: the text of its notes, and `show` the input that is drawn from the number
abbrev pub WrittenBy : Result Command ℕ → Option (List ℕ) → Option (List ℕ) → List Note → Status → Type 0
WrittenBy (Ok (commands.Show n)) old new trace status = WrittenText old new (input_text (input n)) status
WrittenBy command old new trace status = Written old new trace status

-- the outcome of `run`
abbrev pub IsRan : (List ℕ → Bool) → Option (List ℕ) → Option (List ℕ) → List Slot → Status → List Note → Option Tower → List Slot → Type 0
IsRan known left left' shelf status trace tower shelf' = (IsOutOfMemory status trace tower × (shelf' ≡ shelf)) ⊎ WasRead left left' (λ ending script. InputOutcomes known ending script shelf status trace tower shelf')

-- the outcome of `check`, which runs nothing
pub record IsChecked (known : List ℕ → Bool) (left left' : Option (List ℕ)) (status : Status) (trace : List Note) (tower : Option Tower) : Type 0 where
  pub outcome : IsOutOfMemory status trace tower ⊎ WasRead left left' (λ ending script. CheckOutcomes known ending script status trace)
  pub no_tower : tower ≡ None

-- `show` is done, unless a write or an allocation failed
abbrev pub EndsShow : Status → Type 0
EndsShow statuses.Done = Unit {0}
EndsShow statuses.WriteFault = Unit {0}
EndsShow statuses.Memory = Unit {0}
EndsShow status = ⊥

-- the outcome of `show`, which reads nothing and tells no note
pub record IsShown (status : Status) (trace : List Note) (tower : Option Tower) : Type 0 where
  pub ends : EndsShow status
  pub notes : trace ≡ []
  pub left : tower ≡ None

-- the outcome of `gen`: the input that is drawn from the number is run as `run` would, with notes that are not written, and what that came to is told
pub record IsGenerated (known : List ℕ → Bool) (n : ℕ) (shelf : List Slot) (status : Status) (trace : List Note) (tower : Option Tower) (unwritten : List Note) (shelf' : List Slot) : Type 0 where
  pub ended : Status
  pub left : Option (List ℕ)
  pub ran : IsRan known (Some (input_text (input n))) left shelf ended unwritten tower shelf'
  pub told : Tells n ended unwritten tower status trace

-- a read failed, and the outcome of `run`, or of `check`, is that of an input whose reading broke off so; no other command reads anything
abbrev pub IsBrokenOff : (List ℕ → Bool) → Result Command ℕ → Option (List ℕ) → Option (List ℕ) → List Slot → Status → List Note → Option Tower → List Slot → Type 0
IsBrokenOff known (Ok commands.Run) left left' shelf status trace tower shelf' = WasRead left left' (λ ending script. (ending ≡ Broken faults.ReadFault) × InputOutcomes known ending script shelf status trace tower shelf')
IsBrokenOff known (Ok commands.Check) left left' shelf status trace tower shelf' = WasRead left left' (λ ending script. (ending ≡ Broken faults.ReadFault) × CheckOutcomes known ending script status trace)
IsBrokenOff known command left left' shelf status trace tower shelf' = ⊥

-- the outcome of a run, by the words of the command line, by what was read, and by the shelf that was handed in; a place is that of
-- the word which can't stand there, and is told before anything is read
abbrev pub RunOutcomes : (List ℕ → Bool) → Result Command ℕ → Option (List ℕ) → Option (List ℕ) → List Slot → Status → List Note → Option Tower → List Note → List Slot → Type 0
RunOutcomes known (Ok commands.Run) left left' shelf status trace tower unwritten shelf' = IsRan known left left' shelf status trace tower shelf' × (unwritten ≡ [])
RunOutcomes known (Ok commands.Check) left left' shelf status trace tower unwritten shelf' = IsChecked known left left' status trace tower × (shelf' ≡ shelf) × (unwritten ≡ [])
RunOutcomes known (Ok (commands.Gen n)) left left' shelf status trace tower unwritten shelf' = IsGenerated known n shelf status trace tower unwritten shelf' × (left' ≡ left)
RunOutcomes known (Ok (commands.Show n)) left left' shelf status trace tower unwritten shelf' = IsShown status trace tower × (left' ≡ left) × (shelf' ≡ shelf) × (unwritten ≡ [])
RunOutcomes known (Err word) left left' shelf status trace tower unwritten shelf' = (tower ≡ None) × RefusedBy (faults.Usage word) status trace × (left' ≡ left) × (shelf' ≡ shelf) × (unwritten ≡ [])
