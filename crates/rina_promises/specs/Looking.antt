-- What the command `promises` writes, and what the program does for its words.
use Rattle.std.specs.Prelude.{◌≡◌, ℕ, List, [], ◌∷◌, codes, position, Option, Some, None, Result, Ok, Err, if◌then◌else◌}
use Rattle.std.specs.Str.{bytes_eq}
use Rattle.std.specs.Io.KnownBytes.{Appends}
use Rattle.rina_report.specs.declared.note.Fault.TheVariants as faults
use Rattle.rina_report.specs.declared.note.Note.TheVariants as notes
use Rattle.rina_report.specs.Notes.{line_of}
use Rattle.rina_plan.specs.declared.dif.DifPlan.{DifPlan}
use Rattle.rina_table.specs.declared.error.StackError.{StackError}
use Rattle.rina_table.specs.declared.error.StackError.TheVariants.{Memory, NotToml, StackRule}
use Rattle.rina_stack.specs.declared.plan.Plan.{Plan}
use Rattle.rina_stack.specs.Policies.{is_built_in}
use Rattle.rina_stack.specs.Stack.{Reads}
use Rattle.rina_view.specs.declared.ending.Status.{Status}
use Rattle.rina_view.specs.declared.ending.Status.TheVariants as statuses
use Rattle.rina_view.specs.Outcome.{Tells, TellsInput}
use Rattle.rina_view.specs.Written.{Writes}
use Rattle.rina_promises.specs.declared.program.Command.{Command}
use Rattle.rina_promises.specs.declared.program.Command.TheVariants.{Shown, More, Other}
use Rattle.rina_promises.specs.declared.program.Table.{Table}
use Rattle.rina_promises.specs.declared.program.Table.TheVariants.{Flows, Pairs}
use Rattle.rina_promises.specs.Pairs.{ShowsPairs}
use Rattle.rina_promises.specs.Promises.{ShowsPromises}

-- a text of which this holds was written, or an allocation failed
pub data TellsText (Shows : List ℕ → Type 0) (old new : Option (List ℕ)) (status : Status) : Type 0 where
  shown : (text : List ℕ) → Shows text → Writes text statuses.Done old new status → TellsText Shows old new status
  unfound : status ≡ statuses.Memory → Appends old new [] → TellsText Shows old new status

-- the place of the DIF of a name
abbrev pub dif_named : List ℕ → List DifPlan → Option ℕ
dif_named name difs = position (λ (d : DifPlan). bytes_eq d.name name) difs

-- the table of the pairs of members of the DIF at a place; or that the word behind `promises` names none
abbrev pub TellsPairs : Option ℕ → Plan → Option (List ℕ) → Option (List ℕ) → Status → Type 0
TellsPairs None plan old new status = Writes (line_of (notes.Fault (faults.Usage 1))) statuses.Usage old new status
TellsPairs (Some at) plan old new status = TellsText (ShowsPairs plan at) old new status

-- what is told of a stack: the promises of its flows, or of the pairs of members of the DIF of a name
abbrev pub TellsTable : Table → List ℕ → Plan → Option (List ℕ) → Option (List ℕ) → Status → Type 0
TellsTable Flows name plan old new status = TellsText (ShowsPromises plan) old new status
TellsTable Pairs name plan old new status = TellsPairs (dif_named name plan.difs) plan old new status

-- a stack was read, and a table of it was told; or why it was refused was told
abbrev pub TellsRead : Table → List ℕ → Result Plan StackError → Option (List ℕ) → Option (List ℕ) → Status → Type 0
TellsRead table name (Ok plan) old new status = TellsTable table name plan old new status
TellsRead table name (Err NotToml) old new status = Writes (line_of (notes.Fault faults.NotToml)) statuses.Refused old new status
TellsRead table name (Err (StackRule n item)) old new status = Writes (line_of (notes.Fault (faults.StackRule n item))) statuses.Refused old new status
TellsRead table name (Err Memory) old new status = (status ≡ statuses.Memory) × Appends old new []

-- what is told of an input that was read whole: it is read as a stack that runs, with the built-in policies
pub record TellsStack (table : Table) (name : List ℕ) (bytes : List ℕ) (old new : Option (List ℕ)) (status : Status) : Type 0 where
  pub read : Result Plan StackError
  pub reads : Reads is_built_in read bytes
  pub told : TellsRead table name read old new status

-- what `promises` asks for with these words behind it: of all flows, or of the DIF that the one word names
abbrev pub behind : List (List ℕ) → Command
behind [] = Shown Flows
behind (name ∷ []) = Shown Pairs
behind (name ∷ word ∷ words) = More

-- what words ask for
abbrev pub command_of : List (List ℕ) → Command
command_of [] = Other
command_of (word ∷ words) = if bytes_eq word (codes "promises") then behind words else Other

-- the first of these words, empty where there is none
abbrev pub first_of : List (List ℕ) → List ℕ
first_of [] = []
first_of (word ∷ words) = word

-- the name behind the first word
abbrev pub name_in : List (List ℕ) → List ℕ
name_in [] = []
name_in (word ∷ words) = first_of words

-- what is done for a command
abbrev pub LooksBy : Command → List (List ℕ) → Option (List ℕ) → Option (List ℕ) → Option (List ℕ) → Option (List ℕ) → Status → Type 0
LooksBy (Shown table) words left left' old new status = TellsInput (TellsStack table (name_in words)) left left' old new status
LooksBy More words left left' old new status = (left' ≡ left) × Writes (line_of (notes.Fault (faults.Usage 2))) statuses.Usage old new status
LooksBy Other words left left' old new status = Tells words left left' old new status

-- the words are `promises` with at most one behind it, and what was read was told; or a further word stands there, and the words were refused with
-- nothing read; or what other words ask for was done
abbrev pub Looks : List (List ℕ) → Option (List ℕ) → Option (List ℕ) → Option (List ℕ) → Option (List ℕ) → Status → Type 0
Looks words left left' old new status = LooksBy (command_of words) words left left' old new status
