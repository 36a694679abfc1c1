-- Reading notes. The word of a note that begins with two numbers is the field after them.
use Rattle.std.specs.Prelude.{◌≡◌, ℕ, ◌+◌, ◌<◌, true, length, slice_get, IsSome, IsSomeAnd, List, [], ◌∷◌, codes, Result, Ok, Err, if◌then◌else◌}
use Rattle.std.specs.Str.{bytes_eq}
use Rattle.rina_base.specs.Traverse.{◌>>=◌}
use Rattle.rina_schedule.specs.declared.error.LineError.{LineError}
use Rattle.rina_schedule.specs.declared.error.LineError.TheVariants as errors
use Rattle.rina_schedule.specs.Gives.{or_bad}
use Rattle.rina_report.specs.declared.note.Fault.{Fault}
use Rattle.rina_report.specs.declared.note.Fault.TheVariants as faults
use Rattle.rina_report.specs.declared.note.Note.{Note}
use Rattle.rina_report.specs.declared.note.Note.TheVariants as notes
use Rattle.rina_report.specs.Fields.{fields_of, max32, numeral_of, field_at, end_at, number_at, word_at, last_number_at, last_two_at}
use Rattle.rina_report.specs.ReadAnswers.{answer_at, answer_copies}

-- LINE N FIELD
unfoldable pub schedule_at : ℕ → List (List ℕ) → Result Fault LineError
schedule_at n fs = do
  line ← number_at max32 n fs
  x ← last_two_at max32 (n + 1) line.1
  Ok (faults.Schedule line.0 x.0 x.1)

unfoldable pub fault_of : List ℕ → ℕ → List (List ℕ) → Result Fault LineError
fault_of word n fs =
    if bytes_eq word (codes "Usage") then (last_number_at max32 (n + 1) fs >>= λ x. Ok (faults.Usage x))
    else (if bytes_eq word (codes "TooLarge") then (end_at (n + 1) fs >>= λ _. Ok faults.TooLarge)
    else (if bytes_eq word (codes "NotToml") then (end_at (n + 1) fs >>= λ _. Ok faults.NotToml)
    else (if bytes_eq word (codes "StackRule") then (last_two_at max32 (n + 1) fs >>= λ x. Ok (faults.StackRule x.0 x.1))
    else (if bytes_eq word (codes "Schedule") then schedule_at (n + 1) fs
    else (if bytes_eq word (codes "ReadFault") then (end_at (n + 1) fs >>= λ _. Ok faults.ReadFault)
    else Err (errors.BadName n))))))

-- a fault
unfoldable pub fault_at : ℕ → List (List ℕ) → Result Fault LineError
fault_at n fs = do
  f ← field_at n fs
  fault_of f.0 n f.1

-- NODES WIRES DIFS LINES
unfoldable pub checked_at : ℕ → List (List ℕ) → Result Note LineError
checked_at n fs = do
  nodes ← number_at max32 n fs
  wires ← number_at max32 (n + 1) nodes.1
  x ← last_two_at max32 (n + 2) wires.1
  Ok (notes.Checked nodes.0 wires.0 x.0 x.1)

-- a word, and a number behind it
unfoldable pub named_at : List ℕ → ℕ → List (List ℕ) → Result (ℕ × List (List ℕ)) LineError
named_at word n fs = do
  f ← word_at word n fs
  number_at max32 (n + 1) f.1

-- N lines L tick T sent S got G refused R off O failed F
unfoldable pub gen_at : ℕ → List (List ℕ) → Result Note LineError
gen_at n fs = do
  x ← number_at max32 n fs
  lines ← named_at (codes "lines") (n + 1) x.1
  tick ← named_at (codes "tick") (n + 3) lines.1
  sent ← named_at (codes "sent") (n + 5) tick.1
  got ← named_at (codes "got") (n + 7) sent.1
  refused ← named_at (codes "refused") (n + 9) got.1
  off ← named_at (codes "off") (n + 11) refused.1
  failed ← named_at (codes "failed") (n + 13) off.1
  _ ← end_at (n + 15) failed.1
  Ok (notes.Gen x.0 lines.0 tick.0 sent.0 got.0 refused.0 off.0 failed.0)

-- the number of a line or a tick, without which the note has no word
unfoldable pub counter_at : List (List ℕ) → Result (ℕ × List (List ℕ)) LineError
counter_at [] = Err errors.UnknownWord
counter_at (f ∷ fs) = or_bad errors.UnknownWord (numeral_of max32 f) >>= λ x. Ok (x, fs)

abbrev pub told_at : ℕ → ℕ → List (List ℕ) → Result Note LineError
told_at line tick [] = Err errors.UnknownWord
told_at line tick (word ∷ fs) = answer_at word fs >>= λ answer. Ok (notes.Line line tick answer)

-- LINE TICK, the word, and its fields
unfoldable pub line_note_at : List (List ℕ) → Result Note LineError
line_note_at fs = do
  line ← counter_at fs
  tick ← counter_at line.1
  told_at line.0 tick.0 tick.1

-- a note that begins with this field
unfoldable pub whole_at : List ℕ → List (List ℕ) → Result Note LineError
whole_at word fs =
    if bytes_eq word (codes "end") then (last_number_at max32 1 fs >>= λ tick. Ok (notes.End tick))
    else (if bytes_eq word (codes "fault") then (fault_at 1 fs >>= λ fault. Ok (notes.Fault fault))
    else (if bytes_eq word (codes "checked") then checked_at 1 fs
    else (if bytes_eq word (codes "gen") then gen_at 1 fs
    else line_note_at (word ∷ fs))))

abbrev pub fields_note : List (List ℕ) → Result Note LineError
fields_note [] = Err errors.UnknownWord
fields_note (word ∷ fs) = whole_at word fs

-- the note that a text is, or the first error from the left
unfoldable pub note_at : List ℕ → Result Note LineError
note_at text = fields_note (fields_of text)

-- fields that tell of a line: its number stands in front, and a field behind the tick and the word of the answer
abbrev pub TellsLine : List (List ℕ) → Type 0
TellsLine [] = ⊥
TellsLine (line ∷ fs) = IsSome (numeral_of max32 line) × (2 < length fs)

-- the word of the answer, behind the number of the line and the tick, is one behind which names or bytes may be copied
abbrev pub HasCopyingAnswer : List (List ℕ) → Type 0
HasCopyingAnswer fs = IsSomeAnd (slice_get fs 2) (λ word. answer_copies word ≡ true)
