-- Reading a text as notes, one on each line.
use Rattle.std.specs.Prelude.{◌≡◌, ℕ, List, Result, Ok, Err}
use Rattle.bstr.specs.Text.{lines_of, without_terminator}
use Rattle.rina_base.specs.Traverse.{traverse}
use Rattle.rina_report.specs.declared.note.Note.{Note}
use Rattle.rina_report.specs.ReadNotes.{note_at}
use Rattle.rina_schedule.specs.declared.error.LineError.{LineError}
use Rattle.rina_schedule.specs.declared.error.LineError.TheVariants as errors
use Rattle.rina_schedule.specs.Errors.{number_of, field_of}
use Rattle.rina_view.specs.declared.read.Unread.{Unread}
use Rattle.rina_view.specs.declared.read.Unread.TheVariants.{Memory, Line}

-- `Memory`, or the number of the line's error and its field
abbrev pub unread_at : ℕ → LineError → Unread
unread_at line errors.Memory = Memory
unread_at line error = Line line (number_of error) (field_of error)

abbrev pub told_at : ℕ → Result Note LineError → Result Note Unread
told_at line (Ok note) = Ok note
told_at line (Err error) = Err (unread_at line error)

-- the note in a line
abbrev pub note_in : ℕ → List ℕ → Result Note Unread
note_in number line = told_at number (note_at (without_terminator line))

-- the notes of a text, one on each line, or the first line that is none; lines are numbered from 1
abbrev pub notes_in : List ℕ → Result (List Note) Unread
notes_in bytes = traverse note_in 1 (lines_of bytes)

-- a call returned what reading gives, its value seen by `view`, unless an allocation failed
abbrev pub Gives : {X Y : Type 0} → (X → Y) → Result X Unread → Result Y Unread → Type 0
Gives view (Ok x) read = read ≡ Ok (view x)
Gives view (Err Memory) read = Unit {0}
Gives view (Err (Line line n field)) read = read ≡ Err (Line line n field)
