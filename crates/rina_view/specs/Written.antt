-- What the program writes, and the status beside it.
use Rattle.std.specs.Prelude.{◌≡◌, ℕ, List, [], take, Option}
use Rattle.std.specs.Io.KnownBytes.{Appends}
use Rattle.rina_report.specs.declared.note.Fault.{Fault}
use Rattle.rina_report.specs.declared.note.Fault.TheVariants as faults
use Rattle.rina_view.specs.declared.ending.Status.{Status}
use Rattle.rina_view.specs.declared.ending.Status.TheVariants as statuses

-- the status that a fault is told beside
abbrev pub status_of : Fault → Status
status_of (faults.Usage word) = statuses.Usage
status_of faults.ReadFault = statuses.ReadFault
status_of fault = statuses.Refused

-- a front of a text was written
pub record IsFront (text : List ℕ) (old new : Option (List ℕ)) : Type 0 where
  pub len : ℕ
  pub wrote : Appends old new (take len text)

-- a text was written, and the call answered a status: the whole text, and this status; or a front of it, since a write failed; or nothing, since
-- memory was not found
pub data Writes (text : List ℕ) (status : Status) (old new : Option (List ℕ)) (result : Status) : Type 0 where
  all_of : result ≡ status → Appends old new text → Writes text status old new result
  front : result ≡ statuses.WriteFault → IsFront text old new → Writes text status old new result
  nothing : result ≡ statuses.Memory → Appends old new [] → Writes text status old new result
