-- What the command `lost` writes.
use Rattle.std.specs.Prelude.{◌≡◌, ◌<◌, ℕ, List, [], ◌∷◌, length, codes, Option, Some, None, Result, Ok, Err, if◌then◌else◌}
use Rattle.std.specs.Str.{bytes_eq}
use Rattle.std.specs.Io.KnownBytes.{Appends, Consumes, IsAtEnd}
use Rattle.rina_report.specs.declared.note.Fault.TheVariants as faults
use Rattle.rina_report.specs.declared.note.Note.{Note}
use Rattle.rina_report.specs.declared.note.Note.TheVariants as notes
use Rattle.rina_report.specs.Notes.{line_of}
use Rattle.rina_view.specs.declared.ending.Status.{Status}
use Rattle.rina_view.specs.declared.ending.Status.TheVariants as statuses
use Rattle.rina_view.specs.declared.read.Unread.{Unread}
use Rattle.rina_view.specs.declared.read.Unread.TheVariants.{Memory, Line}
use Rattle.rina_view.specs.Reading.{notes_in}
use Rattle.rina_view.specs.Texts.{lost_text}
use Rattle.rina_view.specs.Written.{Writes}

-- notes were read, and their table was written; or the first line that is none was told
abbrev pub TellsRead : Result (List Note) Unread → Option (List ℕ) → Option (List ℕ) → Status → Type 0
TellsRead (Ok ns) old new status = Writes (lost_text ns) statuses.Done old new status
TellsRead (Err (Line line n field)) old new status = Writes (line_of (notes.Fault (faults.Schedule line n field))) statuses.Refused old new status
TellsRead (Err Memory) old new status = (status ≡ statuses.Memory) × Appends old new []

-- what was written of an input, by what was read of it: all of it, of which `Told` says what is written; too much; or a part until a read failed. Or
-- memory was not found
pub data TellsInput (Told : List ℕ → Option (List ℕ) → Option (List ℕ) → Status → Type 0) (left left' old new : Option (List ℕ)) (status : Status) : Type 0 where
  whole : (bytes : List ℕ) → Consumes left left' bytes → IsAtEnd left' → Told bytes old new status → TellsInput Told left left' old new status
  large : (bytes : List ℕ) → Consumes left left' bytes → 16777216 < length bytes → Writes (line_of (notes.Fault faults.TooLarge)) statuses.Refused old new status → TellsInput Told left left' old new status
  failed : (bytes : List ℕ) → Consumes left left' bytes → Writes (line_of (notes.Fault faults.ReadFault)) statuses.ReadFault old new status → TellsInput Told left left' old new status
  unfound : status ≡ statuses.Memory → Appends old new [] → TellsInput Told left left' old new status

-- what is told of an input that was read whole
abbrev pub TellsLost : List ℕ → Option (List ℕ) → Option (List ℕ) → Status → Type 0
TellsLost bytes old new status = TellsRead (notes_in bytes) old new status

abbrev pub fault_behind : List (List ℕ) → Option ℕ
fault_behind [] = None
fault_behind (word ∷ words) = Some 1

-- the place of the first word that cannot stand there, or of one that is missing, where the words are not `lost` alone
abbrev pub word_fault : List (List ℕ) → Option ℕ
word_fault [] = Some 0
word_fault (word ∷ words) = if bytes_eq word (codes "lost") then fault_behind words else Some 0

abbrev pub TellsBy : Option ℕ → Option (List ℕ) → Option (List ℕ) → Option (List ℕ) → Option (List ℕ) → Status → Type 0
TellsBy None left left' old new status = TellsInput TellsLost left left' old new status
TellsBy (Some word) left left' old new status = (left' ≡ left) × Writes (line_of (notes.Fault (faults.Usage word))) statuses.Usage old new status

-- the words were refused, with nothing read; or they are `lost`, and what was read was told
abbrev pub Tells : List (List ℕ) → Option (List ℕ) → Option (List ℕ) → Option (List ℕ) → Option (List ℕ) → Status → Type 0
Tells words left left' old new status = TellsBy (word_fault words) left left' old new status
