-- What the program writes, by its words.
use Rattle.std.specs.Prelude.{◌≡◌, ℕ, List, [], Option, Result, Ok, Err}
use Rattle.std.specs.Io.KnownBytes.{Appends}
use Rattle.rina_report.specs.declared.note.Fault.TheVariants as faults
use Rattle.rina_report.specs.declared.note.Note.{Note}
use Rattle.rina_report.specs.declared.note.Note.TheVariants as notes
use Rattle.rina_report.specs.Notes.{line_of}
use Rattle.rina_view.specs.declared.ending.Status.{Status}
use Rattle.rina_view.specs.declared.ending.Status.TheVariants as statuses
use Rattle.rina_view.specs.declared.read.Unread.{Unread}
use Rattle.rina_view.specs.declared.read.Unread.TheVariants.{Memory, Line}
use Rattle.rina_view.specs.Outcome.{Tells, TellsInput}
use Rattle.rina_view.specs.Reading.{notes_in}
use Rattle.rina_view.specs.Written.{Writes}
use Rattle.rina_chart.specs.declared.window.Window.{Window}
use Rattle.rina_chart.specs.declared.program.Asked.{Asked}
use Rattle.rina_chart.specs.declared.program.Asked.TheVariants.{Table, Chart, Bad}
use Rattle.rina_chart.specs.declared.program.Format.{Format}
use Rattle.rina_chart.specs.Asked.{asked_of, facility_of}
use Rattle.rina_chart.specs.Charts.{text_in}

-- notes were read, and their chart was written; or the first line that is none was told
abbrev pub TellsRead : Format → List ℕ → Option Window → Result (List Note) Unread → Option (List ℕ) → Option (List ℕ) → Status → Type 0
TellsRead format fac window (Ok ns) old new status = Writes (text_in format fac window ns) statuses.Done old new status
TellsRead format fac window (Err (Line line n field)) old new status = Writes (line_of (notes.Fault (faults.Schedule line n field))) statuses.Refused old new status
TellsRead format fac window (Err Memory) old new status = (status ≡ statuses.Memory) × Appends old new []

-- what is told of an input that was read whole
abbrev pub TellsDrawn : Format → List ℕ → Option Window → List ℕ → Option (List ℕ) → Option (List ℕ) → Status → Type 0
TellsDrawn format fac window bytes old new status = TellsRead format fac window (notes_in bytes) old new status

-- what is told by what the words ask for: what the table of SDUs tells; the chart of a facility; or the place of a word, with nothing read
abbrev pub LooksBy : Asked → List (List ℕ) → Option (List ℕ) → Option (List ℕ) → Option (List ℕ) → Option (List ℕ) → Status → Type 0
LooksBy Table words left left' old new status = Tells words left left' old new status
LooksBy (Chart format window) words left left' old new status = TellsInput (TellsDrawn format (facility_of format words) window) left left' old new status
LooksBy (Bad word) words left left' old new status = (left' ≡ left) × Writes (line_of (notes.Fault (faults.Usage word))) statuses.Usage old new status

-- what is told by the words
abbrev pub Looks : List (List ℕ) → Option (List ℕ) → Option (List ℕ) → Option (List ℕ) → Option (List ℕ) → Status → Type 0
Looks words left left' old new status = LooksBy (asked_of words) words left left' old new status
