-- What was written of a text.
use Rattle.std.proofs.Common.{◌≡◌, ◌<◌, ◌≤◌, ℕ, List, length, take, Option, Some, None, Result, Ok, Err, sym, refl, subst, ◌∙◌}
use Rattle.rina_io.specs.declared.whole.Ending.{Ending}
use Rattle.rina_io.specs.declared.whole.Ending.TheVariants as endings
use Rattle.std.specs.Io.KnownBytes.{Appends, Consumes, IsAtEnd}
use Rattle.std.proofs.KnownBytes.{Appends-nil}
use Rattle.rina_report.specs.declared.note.Fault.TheVariants as faults
use Rattle.rina_report.specs.declared.note.Note.{Note}
use Rattle.rina_report.specs.declared.note.Note.TheVariants as notes
use Rattle.rina_report.specs.Notes.{line_of}
use Rattle.rina_view.specs.declared.ending.Status.{Status}
use Rattle.rina_view.specs.declared.ending.Status.TheVariants as statuses
use Rattle.rina_view.specs.declared.read.Unread.{Unread}
use Rattle.rina_view.specs.declared.read.Unread.TheVariants.{Memory, Line}
use Rattle.rina_view.specs.Outcome.{TellsBy, TellsInput, TellsLost, TellsRead, whole, large, failed, unfound}
use Rattle.rina_view.specs.Texts.{lost_text}
use Rattle.rina_view.specs.Written.{Writes, all_of, front, nothing}

pub wrote_whole : (text : List ℕ) (status result : Status) (old new : Option (List ℕ)) → result ≡ status → Appends old new text → Writes text status old new result
wrote_whole text status result old new is wrote = all_of is wrote

pub wrote_front : (text : List ℕ) (k : ℕ) (status result : Status) (old new : Option (List ℕ)) → result ≡ statuses.WriteFault → Appends old new (take k text) → Writes text status old new result
wrote_front text k status result old new is wrote = front is (record { len = k; wrote = wrote })

pub wrote_nothing : (text : List ℕ) (status result : Status) (old : Option (List ℕ)) → result ≡ statuses.Memory → Writes text status old old result
wrote_nothing text status result old is = nothing is (Appends-nil old)

-- the same of another text that is equal
pub wrote_as : (text other : List ℕ) (status result : Status) (old new : Option (List ℕ)) → text ≡ other → Writes text status old new result → Writes other status old new result
wrote_as text other status result old new same w = subst (λ (t : List ℕ). Writes t status old new result) same w

-- what was read was told
pub told_notes : (read : Result (List Note) Unread) (ns : List Note) (text : List ℕ) (old new : Option (List ℕ)) (status : Status) → read ≡ Ok ns → text ≡ lost_text ns → Writes text statuses.Done old new status → TellsRead read old new status
told_notes read ns text old new status is same w = subst (λ (r : Result (List Note) Unread). TellsRead r old new status) (sym is) (wrote_as text (lost_text ns) statuses.Done status old new same w)

pub told_line : (read : Result (List Note) Unread) (line n field : ℕ) (old new : Option (List ℕ)) (status : Status) → read ≡ Err (Line line n field) → Writes (line_of (notes.Fault (faults.Schedule line n field))) statuses.Refused old new status → TellsRead read old new status
told_line read line n field old new status is w = subst (λ (r : Result (List Note) Unread). TellsRead r old new status) (sym is) w

pub told_nothing : (read : Result (List Note) Unread) (old : Option (List ℕ)) (status : Status) → status ≡ statuses.Memory → TellsRead read old old status
told_nothing (Ok ns) old status is = nothing is (Appends-nil old)
told_nothing (Err (Line line n field)) old status is = nothing is (Appends-nil old)
told_nothing (Err Memory) old status is = (is, Appends-nil old)

-- what was told of an input, by why reading it ended

pub told_whole : (Told : List ℕ → Option (List ℕ) → Option (List ℕ) → Status → Type 0) (left left' old new : Option (List ℕ)) (bytes seen : List ℕ) (status : Status) (ending : Ending)
    → (¬ (ending ≡ endings.Memory) → Consumes left left' bytes) → (ending ≡ endings.Whole → IsAtEnd left' × (length bytes ≤ 16777216)) → ending ≡ endings.Whole → seen ≡ bytes → Told seen old new status → TellsInput Told left left' old new status
told_whole Told left left' old new bytes seen status ending consumes ends is same told = whole bytes (consumes (λ e. let no : endings.Whole ≡ endings.Memory = sym is ∙ e in cc)) (ends is).0 (subst (λ (b : List ℕ). Told b old new status) same told)

pub told_large : (Told : List ℕ → Option (List ℕ) → Option (List ℕ) → Status → Type 0) (left left' old new : Option (List ℕ)) (bytes : List ℕ) (status : Status) (ending : Ending)
    → (¬ (ending ≡ endings.Memory) → Consumes left left' bytes) → (ending ≡ endings.TooLarge → 16777216 < length bytes) → ending ≡ endings.TooLarge → Writes (line_of (notes.Fault faults.TooLarge)) statuses.Refused old new status → TellsInput Told left left' old new status
told_large Told left left' old new bytes status ending consumes long is told = large bytes (consumes (λ e. let no : endings.TooLarge ≡ endings.Memory = sym is ∙ e in cc)) (long is) told

pub told_failed : (Told : List ℕ → Option (List ℕ) → Option (List ℕ) → Status → Type 0) (left left' old new : Option (List ℕ)) (bytes : List ℕ) (status : Status) (ending : Ending)
    → (¬ (ending ≡ endings.Memory) → Consumes left left' bytes) → ending ≡ endings.Fault → Writes (line_of (notes.Fault faults.ReadFault)) statuses.ReadFault old new status → TellsInput Told left left' old new status
told_failed Told left left' old new bytes status ending consumes is told = failed bytes (consumes (λ e. let no : endings.Fault ≡ endings.Memory = sym is ∙ e in cc)) told

pub told_unfound : (Told : List ℕ → Option (List ℕ) → Option (List ℕ) → Status → Type 0) (left left' old : Option (List ℕ)) (status : Status) → status ≡ statuses.Memory → TellsInput Told left left' old old status
told_unfound Told left left' old status is = unfound is (Appends-nil old)

-- what was told by the words

pub tells_refused : (fault : Option ℕ) (word : ℕ) (left old new : Option (List ℕ)) (status : Status) → fault ≡ Some word → Writes (line_of (notes.Fault (faults.Usage word))) statuses.Usage old new status → TellsBy fault left left old new status
tells_refused fault word left old new status is w = subst (λ (f : Option ℕ). TellsBy f left left old new status) (sym is) (refl, w)

pub tells_read : (fault : Option ℕ) (left left' old new : Option (List ℕ)) (status : Status) → fault ≡ None → TellsInput TellsLost left left' old new status → TellsBy fault left left' old new status
tells_read fault left left' old new status is told = subst (λ (f : Option ℕ). TellsBy f left left' old new status) (sym is) told
