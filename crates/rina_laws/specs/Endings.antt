-- Why a run ends: each status has its cause, in the words of the command line, in what was read, or in a fault.
use Rattle.std.specs.Prelude.{◌≡◌, ℕ, ◌≤◌, Bool, true, List, length, Option, Some, IfSome, Result, Ok, Err, ◌⊎◌}
use Rattle.std.specs.List.{All}
use Rattle.rina_gen.specs.Input.{input}
use Rattle.rina_gen.specs.Text.{input_text}
use Rattle.rina_policy.specs.Slots.{Slot}
use Rattle.rina_report.specs.declared.note.Fault.{Fault}
use Rattle.rina_report.specs.declared.note.Fault.TheVariants as faults
use Rattle.rina_report.specs.declared.note.Note.{Note}
use Rattle.rina_stack.specs.declared.plan.Plan.{Plan}
use Rattle.rina_stack.specs.Stack.{Reads}
use Rattle.rina_table.specs.declared.error.StackError.TheVariants as stack
use Rattle.rina_tower.specs.declared.tower.Tower.{Tower}
use Rattle.rina_run.specs.declared.command.Command.{Command}
use Rattle.rina_run.specs.declared.command.Command.TheVariants as commands
use Rattle.rina_run.specs.declared.lines.BadLine.{BadLine}
use Rattle.rina_run.specs.declared.outcome.Status.{Status}
use Rattle.rina_run.specs.declared.outcome.Status.TheVariants as statuses
use Rattle.rina_run.specs.Check.{IsFirstBad, IsRead}
use Rattle.rina_run.specs.Faults.{IsNoneMore, IsOneMore, ReadFaults, WriteFaults}
use Rattle.rina_run.specs.Outcomes.{IsBrokenOff, RunOutcomes}
use Rattle.rina_run.specs.Reading.{Broken, Ending, IsFine, IsReadTo, Whole}
use Rattle.rina_run.specs.Script.{Script, script_in}
use Rattle.rina_run.specs.Top.{WasRead, fault_of}

-- the faults that a source or a sink has met: how many, and whether their number is odd
pub record FaultCount : Type 0 where
  pub count : ℕ
  pub odd : Bool

-- what a call of `run` was given and what it left, as far as its ending goes: the policies that its shelf knows, the command, what the input had left, and
-- the faults of reading and of writing
pub record Call : Type 0 where
  pub known : List ℕ → Bool
  pub command : Result Command ℕ
  pub left : Option (List ℕ)
  pub left' : Option (List ℕ)
  pub reads : FaultCount
  pub reads' : FaultCount
  pub writes : FaultCount
  pub writes' : FaultCount

abbrev pub IsReadFault : Call → Type 0
IsReadFault c = IsOneMore c.reads.count c.reads'.count c.reads.odd c.reads'.odd

abbrev pub IsNoReadFault : Call → Type 0
IsNoReadFault c = IsNoneMore c.reads.count c.reads'.count c.reads.odd c.reads'.odd

abbrev pub IsWriteFault : Call → Type 0
IsWriteFault c = IsOneMore c.writes.count c.writes'.count c.writes.odd c.writes'.odd

abbrev pub IsNoWriteFault : Call → Type 0
IsNoWriteFault c = IsNoneMore c.writes.count c.writes'.count c.writes.odd c.writes'.odd

-- the call ended with this status: its clauses `outcome`, `read` and `write` hold
pub record IsEnded (c : Call) (status : Status) : Type 0 where
  pub shelf : List Slot
  pub shelf' : List Slot
  pub trace : List Note
  pub unwritten : List Note
  pub tower : Option Tower
  pub outcome : RunOutcomes c.known c.command c.left c.left' shelf status trace tower unwritten shelf'
  pub read : ReadFaults (IsBrokenOff c.known c.command c.left c.left' shelf status trace tower shelf') status c.reads.count c.reads'.count c.reads.odd c.reads'.odd
  pub write : WriteFaults status c.writes.count c.writes'.count c.writes.odd c.writes'.odd

-- the stack is accepted, and each line of the schedule is inside the grammar
abbrev pub IsAccepted : (List ℕ → Bool) → Script → Type 0
IsAccepted known s = (plan : Plan) × Reads known (Ok plan) s.stack × All IsRead s.lines

-- the stack is accepted, and the last line of the schedule is the first outside the grammar, by this fault
abbrev pub HasBadLine : (List ℕ → Bool) → Script → Fault → Type 0
HasBadLine known s fault = (plan : Plan) × Reads known (Ok plan) s.stack × (bad : BadLine) × IsFirstBad s.lines bad × (fault_of bad ≡ fault)

-- What was read is the cause of a status: all was read, and is accepted; the stack is refused for this; the last line that was used is the first outside the
-- grammar; or reading broke off, and all that was used, if it had the mark, is accepted.
abbrev pub IsCause : (List ℕ → Bool) → Ending → Option Script → Status → Type 0
IsCause known ending (Some s) statuses.Done = (ending ≡ Whole) × IsAccepted known s
IsCause known ending (Some s) statuses.NotToml = IsFine ending × Reads known (Err stack.NotToml) s.stack
IsCause known ending (Some s) (statuses.StackRule n item) = IsFine ending × Reads known (Err (stack.StackRule n item)) s.stack
IsCause known ending (Some s) (statuses.Schedule line n field) = IsFine ending × HasBadLine known s (faults.Schedule line n field)
IsCause known ending script statuses.TooLarge = (ending ≡ Broken faults.TooLarge) × IfSome script (IsAccepted known)
IsCause known ending script statuses.ReadFault = (ending ≡ Broken faults.ReadFault) × IfSome script (IsAccepted known)
IsCause known ending script status = ⊥

-- what a command was given is the cause of a status: words that are no command; `show`, which is always done; or what was read of the input, for `gen` of the
-- one that is drawn from its number
abbrev pub IsCauseOf : (List ℕ → Bool) → Result Command ℕ → Option (List ℕ) → Option (List ℕ) → Status → Type 0
IsCauseOf known (Err word) left left' status = status ≡ statuses.Usage word
IsCauseOf known (Ok (commands.Show n)) left left' status = status ≡ statuses.Done
IsCauseOf known (Ok (commands.Gen n)) left left' status =
    (behind : Option (List ℕ)) × WasRead (Some (input_text (input n))) behind (λ ending script. IsCause known ending script status)
IsCauseOf known (Ok commands.Run) left left' status = WasRead left left' (λ ending script. IsCause known ending script status)
IsCauseOf known (Ok commands.Check) left left' status = WasRead left left' (λ ending script. IsCause known ending script status)

-- The cause of each status: a write failed; a read failed, behind all that could be read; or none did, and what the command was given is the cause. An
-- allocation may fail anywhere.
abbrev pub HasCause : Call → Status → Type 0
HasCause c statuses.Memory = Unit {0}
HasCause c statuses.WriteFault = IsWriteFault c
HasCause c statuses.ReadFault = IsReadFault c × IsNoWriteFault c × IsCauseOf c.known c.command c.left c.left' statuses.ReadFault
HasCause c status = IsNoReadFault c × IsNoWriteFault c × IsCauseOf c.known c.command c.left c.left' status

-- each call ends with a status that has its cause
abbrev pub RunsEndForTheirCause : Type 0
RunsEndForTheirCause = (c : Call) (status : Status) → IsEnded c status → HasCause c status

-- what was read is the cause of one status at most
abbrev pub CausesAreOfOneStatus : Type 0
CausesAreOfOneStatus =
    (known : List ℕ → Bool) (ending : Ending) (script : Option Script) (one other : Status) → IsCause known ending script one → IsCause known ending script other
    → one ≡ other

-- an input of at most 16,777,216 bytes, whose stack is accepted, and of whose lines each is inside the grammar
pub record IsGrammatical (known : List ℕ → Bool) (bytes : List ℕ) : Type 0 where
  pub few : length bytes ≤ 16777216
  pub script : Script
  pub is_its : script_in true bytes ≡ Some script
  pub accepted : IsAccepted known script

-- so is the input of a command, or the one that is drawn; `show` takes none
abbrev pub IsWellGiven : (List ℕ → Bool) → Result Command ℕ → Option (List ℕ) → Type 0
IsWellGiven known (Err word) left = ⊥
IsWellGiven known (Ok (commands.Show n)) left = Unit {0}
IsWellGiven known (Ok (commands.Gen n)) left = IsGrammatical known (input_text (input n))
IsWellGiven known (Ok commands.Run) left = (bytes : List ℕ) × (left ≡ Some bytes) × IsGrammatical known bytes
IsWellGiven known (Ok commands.Check) left = (bytes : List ℕ) × (left ≡ Some bytes) × IsGrammatical known bytes

-- words, stack and schedule inside their grammars, at most 16 MiB of input, and no fault of reading or writing: that is done, unless an allocation failed
abbrev pub GrammaticalRunsAreDone : Type 0
GrammaticalRunsAreDone =
    (c : Call) (status : Status) → IsEnded c status → IsWellGiven c.known c.command c.left → IsNoReadFault c → IsNoWriteFault c
    → (status ≡ statuses.Done) ⊎ (status ≡ statuses.Memory)

-- of an input at most 16,777,216 bytes are used
abbrev pub UseIsBounded : Type 0
UseIsBounded = (left left' : Option (List ℕ)) (ending : Ending) (used : List ℕ) → IsReadTo left left' ending used → length used ≤ 16777216
