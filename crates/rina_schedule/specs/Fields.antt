-- The fields of a line, which spaces separate. Each definition reads one field from the rest of a line,
-- and gives its value and the rest of the line after it. The word of a line is field 0.
use Rattle.std.specs.Prelude.{ℕ, ◌+◌, ◌==◌, Bool, true, false, not, List, [], length, position, take, drop, Option, Some, None, Result, Ok, Err, if◌then◌else◌}
use Rattle.std.specs.Str.{bytes_eq}
use Rattle.rina_base.specs.Names.{name_at, app_at}
use Rattle.rina_base.specs.Traverse.{◌>>=◌}
use Rattle.rina_schedule.specs.declared.error.LineError.{LineError}
use Rattle.rina_schedule.specs.declared.error.LineError.TheVariants as errors
use Rattle.rina_schedule.specs.Gives.{or_bad}
use Rattle.rina_base.specs.Decimals.{number_of}
use Rattle.rina_schedule.specs.Bytes.{bytes_of}
use Rattle.rina_base.specs.ObjectNames.{object_name_of}

abbrev pub from_place : Option ℕ → List ℕ → List ℕ
from_place None text = []
from_place (Some k) text = drop k text

-- a text without its leading spaces
unfoldable pub without_blanks : List ℕ → List ℕ
without_blanks text = from_place (position (λ b. not (b == 32)) text) text

abbrev pub cut_at : Option ℕ → List ℕ → List ℕ × List ℕ
cut_at None text = (text, [])
cut_at (Some k) text = (take k text, drop k text)

-- the first field of a text, and the rest after it
unfoldable pub next_of : List ℕ → Option (List ℕ × List ℕ)
next_of text = if length (without_blanks text) == 0 then None else Some (cut_at (position (λ b. b == 32) (without_blanks text)) (without_blanks text))

-- field n, whatever it is
unfoldable pub field_at : ℕ → List ℕ → Result (List ℕ × List ℕ) LineError
field_at n text = or_bad (errors.MissingField n) (next_of text)

-- field n, a number
unfoldable pub number_at : ℕ → List ℕ → Result (ℕ × List ℕ) LineError
number_at n text = do
  f ← field_at n text
  x ← or_bad (errors.BadNumber n) (number_of f.0)
  Ok (x, f.1)

abbrev pub name_or_bad : {A E : Type 0} → ℕ → Result A E → Result A LineError
name_or_bad n (Ok x) = Ok x
name_or_bad n (Err _) = Err (errors.BadName n)

-- field n, a name
unfoldable pub name_field_at : ℕ → List ℕ → Result (List ℕ × List ℕ) LineError
name_field_at n text = do
  f ← field_at n text
  x ← name_or_bad n (name_at f.0)
  Ok (x, f.1)

-- field n, an application name
unfoldable pub app_field_at : ℕ → List ℕ → Result (List ℕ × List ℕ) LineError
app_field_at n text = do
  f ← field_at n text
  x ← name_or_bad n (app_at f.0)
  Ok (x, f.1)

-- field n, which spells bytes
unfoldable pub bytes_at : ℕ → List ℕ → Result (List ℕ × List ℕ) LineError
bytes_at n text = do
  f ← field_at n text
  x ← or_bad (errors.BadBytes n) (bytes_of f.0)
  Ok (x, f.1)

abbrev pub path_or_none : ℕ → Option (List ℕ × List ℕ) → Result (Option (List ℕ) × List ℕ) LineError
path_or_none n None = Ok (None, [])
path_or_none n (Some f) = or_bad (errors.BadName n) (object_name_of f.0) >>= λ path. Ok (Some path, f.1)

-- field n, an optional object name
unfoldable pub path_at : ℕ → List ℕ → Result (Option (List ℕ) × List ℕ) LineError
path_at n text = path_or_none n (next_of text)

abbrev pub end_or_extra : ℕ → Option (List ℕ × List ℕ) → Result (Unit {0}) LineError
end_or_extra n None = Ok tt
end_or_extra n (Some _) = Err (errors.Extra n)

-- the line ends before field n
unfoldable pub end_at : ℕ → List ℕ → Result (Unit {0}) LineError
end_at n text = end_or_extra n (next_of text)

-- Where an option is left out, the next field has its number.

abbrev pub flag_or_none : List ℕ → ℕ → List ℕ → Option (List ℕ × List ℕ) → Bool × ℕ × List ℕ
flag_or_none word n text None = (false, n, text)
flag_or_none word n text (Some f) = if bytes_eq f.0 word then (true, n + 1, f.1) else (false, n, text)

-- an optional field n, this word: whether it is there, the number of the next field, and the rest of the line
unfoldable pub flag_at : List ℕ → ℕ → List ℕ → Bool × ℕ × List ℕ
flag_at word n text = flag_or_none word n text (next_of text)

-- the text after this prefix
unfoldable pub behind : List ℕ → List ℕ → Option (List ℕ)
behind word text = if bytes_eq (take (length word) text) word then Some (drop (length word) text) else None

abbrev pub value_or_default : ℕ → ℕ → List ℕ → List ℕ → Option (List ℕ) → Result (ℕ × ℕ × List ℕ) LineError
value_or_default default n text rest None = Ok (default, n, text)
value_or_default default n text rest (Some digits) = or_bad (errors.BadNumber n) (number_of digits) >>= λ x. Ok (x, n + 1, rest)

abbrev pub setting_or_none : List ℕ → ℕ → ℕ → List ℕ → Option (List ℕ × List ℕ) → Result (ℕ × ℕ × List ℕ) LineError
setting_or_none word default n text None = Ok (default, n, text)
setting_or_none word default n text (Some f) = value_or_default default n text f.1 (behind word f.0)

-- an optional field n, this word with a number behind it, or the default where it is not there
unfoldable pub setting_at : List ℕ → ℕ → ℕ → List ℕ → Result (ℕ × ℕ × List ℕ) LineError
setting_at word default n text = setting_or_none word default n text (next_of text)
