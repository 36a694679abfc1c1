-- Notes that begin with the same fields, and where the field of a note stands that an error names.
use Rattle.std.specs.Prelude.{◌≡◌, ℕ, zero, suc, ◌+◌, ◌<◌, List, [], ◌∷◌, codes, length, take, drop, is_some, if◌then◌else◌}
use Rattle.rina_schedule.specs.declared.error.LineError.{LineError}
use Rattle.rina_schedule.specs.declared.error.LineError.TheVariants as errors
use Rattle.rina_schedule.specs.Errors.{field_of}
use Rattle.rina_report.specs.declared.note.Note.{Note}
use Rattle.rina_report.specs.Fields.{fields_of, max32, numeral_of}
use Rattle.rina_report.specs.Notes.{note_text}
use Rattle.rina_report.specs.Ranges.{IsNote}

-- the first so many fields of two texts are the same, or both end before that with the same fields
abbrev pub SameFields : ℕ → List ℕ → List ℕ → Type 0
SameFields k a b = take k (fields_of a) ≡ take k (fields_of b)

-- how many numbers of 32 bits stand at the front, counted up to so many
abbrev pub numbers_in_front : ℕ → List (List ℕ) → ℕ
numbers_in_front zero fs = 0
numbers_in_front (suc k) [] = 0
numbers_in_front (suc k) (f ∷ fs) = if is_some (numeral_of max32 f) then suc (numbers_in_front k fs) else 0

-- The place of the field that an error names, where the first field of the text has place 0. The word of a note is its
-- field 0, and stands behind the numbers of the line and the tick, as far as they are there.
abbrev pub place_of : List ℕ → LineError → ℕ
place_of text e = numbers_in_front 2 (fields_of text) + field_of e

-- some note begins with the first k fields of a text
pub record BeginsNote (k : ℕ) (text : List ℕ) : Type 0 where
  pub note : Note
  pub is : IsNote note
  pub begins : SameFields k text (note_text note)

-- the first k fields of a text are a whole note, and more fields stand behind them
pub record HasNoteAndMore (k : ℕ) (text : List ℕ) : Type 0 where
  pub more : k < length (fields_of text)
  pub note : Note
  pub is : IsNote note
  pub whole : fields_of (note_text note) ≡ take k (fields_of text)

-- the words of the notes that begin with a word
abbrev pub note_words : List (List ℕ)
note_words = codes "end" ∷ codes "fault" ∷ codes "checked" ∷ codes "gen" ∷ []

-- the words of answers, which stand behind the numbers of the line and the tick
abbrev pub answer_words : List (List ℕ)
answer_words =
    codes "ok" ∷ codes "none" ∷ codes "sent" ∷ codes "got" ∷ codes "no" ∷ codes "state" ∷ codes "in" ∷ codes "out" ∷ codes "held" ∷ codes "clock" ∷ codes "idle" ∷ codes "off"
    ∷ codes "cdap" ∷ codes "obj" ∷ codes "flow" ∷ codes "s" ∷ codes "g" ∷ []

-- the words that may stand behind so many numbers; behind the number of the line alone there is none
abbrev pub words_behind : ℕ → List (List ℕ)
words_behind zero = note_words
words_behind (suc zero) = []
words_behind (suc (suc k)) = answer_words

abbrev pub IsNoneOf : List (List ℕ) → List ℕ → Type 0
IsNoneOf [] f = Unit {0}
IsNoneOf (word ∷ words) f = (f ≡ word → ⊥) × IsNoneOf words f

abbrev pub BeginsWithNone : List (List ℕ) → List (List ℕ) → Type 0
BeginsWithNone words [] = Unit {0}
BeginsWithNone words (f ∷ fs) = IsNoneOf words f

-- behind the numbers at the front no field is there, or none of the words that may stand there
abbrev pub HasNoWord : List (List ℕ) → Type 0
HasNoWord fs = BeginsWithNone (words_behind (numbers_in_front 2 fs)) (drop (numbers_in_front 2 fs) fs)

-- An error is true of the note: an unknown word is not there or none of those that may stand there, a field that is missing
-- is the one behind the last, one that is extra stands behind a whole note, and any other is there.
abbrev pub IsTrueOf : List ℕ → LineError → Type 0
IsTrueOf text errors.Memory = ⊥
IsTrueOf text errors.UnknownWord = HasNoWord (fields_of text)
IsTrueOf text (errors.MissingField n) = length (fields_of text) ≡ place_of text (errors.MissingField n)
IsTrueOf text (errors.BadNumber n) = place_of text (errors.BadNumber n) < length (fields_of text)
IsTrueOf text (errors.BadName n) = place_of text (errors.BadName n) < length (fields_of text)
IsTrueOf text (errors.Extra n) = HasNoteAndMore (place_of text (errors.Extra n)) text
IsTrueOf text (errors.BadBytes n) = place_of text (errors.BadBytes n) < length (fields_of text)
