-- What was written of a chart.
use Rattle.std.proofs.Common.{◌≡◌, ℕ, List, Option, Result, Ok, Err, refl, sym, subst}
use Rattle.std.proofs.KnownBytes.{Appends-nil}
use Rattle.rina_report.specs.declared.note.Fault.TheVariants as faults
use Rattle.rina_report.specs.declared.note.Note.{Note}
use Rattle.rina_report.specs.declared.note.Note.TheVariants as notes
use Rattle.rina_report.specs.Notes.{line_of}
use Rattle.rina_view.specs.declared.ending.Status.{Status}
use Rattle.rina_view.specs.declared.ending.Status.TheVariants as statuses
use Rattle.rina_view.specs.declared.read.Unread.{Unread}
use Rattle.rina_view.specs.declared.read.Unread.TheVariants.{Memory, Line}
use Rattle.rina_view.specs.Outcome.{Tells, TellsInput}
use Rattle.rina_view.specs.Written.{Writes, nothing}
use Rattle.rina_view.proofs.Writing.{wrote_as}
use Rattle.rina_chart.specs.declared.window.Window.{Window}
use Rattle.rina_chart.specs.declared.program.Asked.{Asked}
use Rattle.rina_chart.specs.declared.program.Asked.TheVariants.{Table, Chart, Bad}
use Rattle.rina_chart.specs.declared.program.Format.{Format}
use Rattle.rina_chart.specs.Asked.{facility_of}
use Rattle.rina_chart.specs.Charts.{text_in}
use Rattle.rina_chart.specs.Outcome.{LooksBy, TellsDrawn, TellsRead}

-- what was read was drawn
pub drawn_notes : (format : Format) (fac : List ℕ) (window : Option Window) (read : Result (List Note) Unread) (ns : List Note) (text : List ℕ) (old new : Option (List ℕ)) (status : Status) → read ≡ Ok ns → text ≡ text_in format fac window ns → Writes text statuses.Done old new status → TellsRead format fac window read old new status
drawn_notes format fac window read ns text old new status is same w = subst (λ (r : Result (List Note) Unread). TellsRead format fac window r old new status) (sym is) (wrote_as text (text_in format fac window ns) statuses.Done status old new same w)

pub drawn_line : (format : Format) (fac : List ℕ) (window : Option Window) (read : Result (List Note) Unread) (line n field : ℕ) (old new : Option (List ℕ)) (status : Status) → read ≡ Err (Line line n field) → Writes (line_of (notes.Fault (faults.Schedule line n field))) statuses.Refused old new status → TellsRead format fac window read old new status
drawn_line format fac window read line n field old new status is w = subst (λ (r : Result (List Note) Unread). TellsRead format fac window r old new status) (sym is) w

pub drawn_nothing : (format : Format) (fac : List ℕ) (window : Option Window) (read : Result (List Note) Unread) (old : Option (List ℕ)) (status : Status) → status ≡ statuses.Memory → TellsRead format fac window read old old status
drawn_nothing format fac window (Ok ns) old status is = nothing is (Appends-nil old)
drawn_nothing format fac window (Err (Line line n field)) old status is = nothing is (Appends-nil old)
drawn_nothing format fac window (Err Memory) old status is = (is, Appends-nil old)

-- what was told by what the words ask for

pub looks_table : (asked : Asked) (words : List (List ℕ)) (left left' old new : Option (List ℕ)) (status : Status) → asked ≡ Table → Tells words left left' old new status → LooksBy asked words left left' old new status
looks_table asked words left left' old new status is told = subst (λ (a : Asked). LooksBy a words left left' old new status) (sym is) told

pub looks_chart : (asked : Asked) (words : List (List ℕ)) (format : Format) (fac : List ℕ) (window : Option Window) (left left' old new : Option (List ℕ)) (status : Status) → asked ≡ Chart format window → fac ≡ facility_of format words → TellsInput (TellsDrawn format fac window) left left' old new status → LooksBy asked words left left' old new status
looks_chart asked words format fac window left left' old new status is same told = subst (λ (a : Asked). LooksBy a words left left' old new status) (sym is) (subst (λ (f : List ℕ). TellsInput (TellsDrawn format f window) left left' old new status) same told)

pub looks_bad : (asked : Asked) (word : ℕ) (words : List (List ℕ)) (left old new : Option (List ℕ)) (status : Status) → asked ≡ Bad word → Writes (line_of (notes.Fault (faults.Usage word))) statuses.Usage old new status → LooksBy asked words left left old new status
looks_bad asked word words left old new status is w = subst (λ (a : Asked). LooksBy a words left left old new status) (sym is) (refl, w)
