-- What a run wrote, beside its notes.
use Rattle.std.specs.Prelude.{◌≡◌, ◌<◌, ℕ, List, [], ◌∷◌, ◌++◌, length, take, Option, ◌⊎◌}
use Rattle.std.specs.Io.KnownBytes.{Appends}
use Rattle.rina_report.specs.declared.note.Note.{Note}
use Rattle.rina_report.specs.declared.note.Note.TheVariants as notes
use Rattle.rina_report.specs.Notes.{text_of}
use Rattle.rina_run.specs.declared.outcome.Status.{Status}
use Rattle.rina_run.specs.declared.outcome.Status.TheVariants as statuses

-- a front of the text was written, and not all of it
pub record IsCutText (old new : Option (List ℕ)) (text : List ℕ) : Type 0 where
  pub len : ℕ
  pub short : len < length text
  pub wrote : Appends old new (take len text)

-- a note is of the line of this number; a closing note is of none
abbrev pub IsOfLine : ℕ → Note → Type 0
IsOfLine line (notes.Line number tick answer) = number ≡ line
IsOfLine line note = ⊥

-- all notes are of that line
unfoldable pub AreOfLine : ℕ → List Note → Type 0
AreOfLine line [] = Unit {0}
AreOfLine line (n ∷ ns) = IsOfLine line n × AreOfLine line ns

-- notes that are written in one piece: those of one line, or one closing note
abbrev pub IsPiece : List Note → Type 0
IsPiece ns = ((line : ℕ) × AreOfLine line ns) ⊎ ((note : Note) × (ns ≡ note ∷ []))

-- the notes before the last piece were written whole, and of that a front, and not all of it
pub record IsCut (old new : Option (List ℕ)) (trace : List Note) : Type 0 where
  pub whole : List Note
  pub piece : List Note
  pub are : trace ≡ whole ++ piece
  pub one : IsPiece piece
  pub mid : Option (List ℕ)
  pub before : Appends old mid (text_of whole)
  pub cut : IsCutText mid new (text_of piece)

-- the notes before the last piece were written whole, and nothing of that
pub record IsLeftOut (old new : Option (List ℕ)) (trace : List Note) : Type 0 where
  pub whole : List Note
  pub piece : List Note
  pub are : trace ≡ whole ++ piece
  pub one : IsPiece piece
  pub wrote : Appends old new (text_of whole)

-- the text of all notes was written; after a write fault the notes of the last line, or the closing note, were written in part, and after `Memory` maybe not at all
abbrev pub Written : Option (List ℕ) → Option (List ℕ) → List Note → Status → Type 0
Written old new trace statuses.WriteFault = IsCut old new trace
Written old new trace statuses.Memory = IsLeftOut old new trace
Written old new trace _ = Appends old new (text_of trace)

-- a text was written whole; after a write fault a front of it, and not all; after `Memory` nothing of it
abbrev pub WrittenText : Option (List ℕ) → Option (List ℕ) → List ℕ → Status → Type 0
WrittenText old new text statuses.WriteFault = IsCutText old new text
WrittenText old new text statuses.Memory = Appends old new []
WrittenText old new text _ = Appends old new text
