-- The fields of a note, which single spaces separate. Each definition reads from the remaining fields of a
-- note, and gives a value and the fields after it. The word of a note is field 0.
use Rattle.std.specs.Prelude.{ℕ, ◌+◌, ◌-◌, ◌^◌, ◌==◌, ◌||◌, not, Bool, true, false, List, [], ◌∷◌, codes, length, position, take, drop, Option, Some, None, Result, Ok, Err, if◌then◌else◌}
use Rattle.std.specs.Str.{bytes_eq}
use Rattle.std.specs.Option.{option_and_then, option_map}
use Rattle.rina_base.specs.Names.{name_at, app_at}
use Rattle.rina_base.specs.Traverse.{◌>>=◌}
use Rattle.rina_base.specs.declared.number.Num.{Num}
use Rattle.rina_base.specs.declared.number.FlowName.{FlowName}
use Rattle.rina_base.specs.declared.number.Key.{Key}
use Rattle.rina_base.specs.declared.pdu.PduKind.{PduKind}
use Rattle.rina_base.specs.declared.pdu.PduKind.TheVariants.{Piece, Ack}
use Rattle.rina_schedule.specs.declared.error.LineError.{LineError}
use Rattle.rina_schedule.specs.declared.error.LineError.TheVariants as errors
use Rattle.rina_schedule.specs.Gives.{or_bad, guard}
use Rattle.rina_schedule.specs.Fields.{name_or_bad}
use Rattle.rina_base.specs.Decimals.{decimal_of}
use Rattle.rina_schedule.specs.Bytes.{printed_of}
use Rattle.rina_base.specs.ObjectNames.{object_name_of}
use Rattle.rina_report.specs.declared.state.PortNote.{PortNote}

abbrev pub onto : ℕ → List (List ℕ) → List (List ℕ)
onto b [] = (b ∷ []) ∷ []
onto b (f ∷ fs) = (b ∷ f) ∷ fs

-- the fields of a text; two spaces in a row have an empty one between them
unfoldable pub fields_of : List ℕ → List (List ℕ)
fields_of [] = [] ∷ []
fields_of (b ∷ text) = if b == 32 then [] ∷ fields_of text else onto b (fields_of text)

-- the fields behind another, with the space before them
unfoldable pub behind : List ℕ → List (List ℕ)
behind [] = []
behind (_ ∷ text) = fields_of text

-- ---- the forms of fields

-- a numeral has no leading zero
unfoldable pub is_numeral : List ℕ → Bool
is_numeral [] = false
is_numeral (b ∷ text) = (length text == 0) || not (b == 48)

-- the number that a numeral is, up to max
unfoldable pub numeral_of : ℕ → List ℕ → Option ℕ
numeral_of max text = if is_numeral text then decimal_of max text else None

abbrev pub parts_at : Option ℕ → List ℕ → List ℕ × List ℕ
parts_at None text = (text, [])
parts_at (Some k) text = (take k text, drop (k + 1) text)

-- the text before the first byte b, and the text after it
unfoldable pub parts_of : ℕ → List ℕ → List ℕ × List ℕ
parts_of b text = parts_at (position (λ x. x == b) text) text

-- the greatest numbers of 8, 32 and 64 bits
abbrev pub max8 : ℕ
max8 = 2 ^ 8 - 1

abbrev pub max32 : ℕ
max32 = 2 ^ 32 - 1

abbrev pub max64 : ℕ
max64 = 2 ^ 64 - 1

-- A.B, where A has 32 bits and B up to max
unfoldable pub pair_of : ℕ → List ℕ → Option (ℕ × ℕ)
pair_of max text = option_and_then (λ a. option_map (λ b. (a, b)) (numeral_of max (parts_of 46 text).1)) (numeral_of max32 (parts_of 46 text).0)

-- A.B.C, of 32 bits each
unfoldable pub triple_of : List ℕ → Option (ℕ × ℕ × ℕ)
triple_of text = option_and_then (λ a. option_map (λ b. (a, b.0, b.1)) (pair_of max32 (parts_of 46 text).1)) (numeral_of max32 (parts_of 46 text).0)

-- FAC/NODE/N in field n
unfoldable pub port_of : ℕ → List ℕ → Result PortNote LineError
port_of n text = do
  fac ← name_or_bad n (name_at (parts_of 47 text).0)
  node ← name_or_bad n (name_at (parts_of 47 (parts_of 47 text).1).0)
  x ← or_bad (errors.BadNumber n) (numeral_of max32 (parts_of 47 (parts_of 47 text).1).1)
  Ok (record { fac = fac; node = node; n = x })

unfoldable pub kind_of : List ℕ → Option PduKind
kind_of text = if bytes_eq text (codes "data") then Some Piece else (if bytes_eq text (codes "ack") then Some Ack else None)

unfoldable pub truth_of : List ℕ → Option Bool
truth_of text = if bytes_eq text (codes "0") then Some false else (if bytes_eq text (codes "1") then Some true else None)

-- ---- field n, the first of the remaining fields

abbrev pub field_at : ℕ → List (List ℕ) → Result (List ℕ × List (List ℕ)) LineError
field_at n [] = Err (errors.MissingField n)
field_at n (f ∷ fs) = Ok (f, fs)

-- the note ends before field n
abbrev pub end_at : ℕ → List (List ℕ) → Result (Unit {0}) LineError
end_at n [] = Ok tt
end_at n (_ ∷ _) = Err (errors.Extra n)

-- this value, where the note ends before field n
abbrev pub ended_at : {A : Type 0} → A → ℕ → List (List ℕ) → Result A LineError
ended_at x n fs = end_at n fs >>= λ _. Ok x

-- a number up to max
unfoldable pub number_at : ℕ → ℕ → List (List ℕ) → Result (ℕ × List (List ℕ)) LineError
number_at max n fs = do
  f ← field_at n fs
  x ← or_bad (errors.BadNumber n) (numeral_of max f.0)
  Ok (x, f.1)

-- CEP.SEQ
unfoldable pub num_at : ℕ → List (List ℕ) → Result (Num × List (List ℕ)) LineError
num_at n fs = do
  f ← field_at n fs
  x ← or_bad (errors.BadNumber n) (pair_of max64 f.0)
  Ok (record { cep = x.0; seq = x.1 }, f.1)

-- SRC.TICK.COUNT
unfoldable pub flow_at : ℕ → List (List ℕ) → Result (FlowName × List (List ℕ)) LineError
flow_at n fs = do
  f ← field_at n fs
  x ← or_bad (errors.BadNumber n) (triple_of f.0)
  Ok (record { src = x.0; tick = x.1; count = x.2 }, f.1)

-- data SRC.SCEP.SEQ, or ack SRC.SCEP.SEQ, which are two fields
unfoldable pub key_at : ℕ → List (List ℕ) → Result (Key × List (List ℕ)) LineError
key_at n fs = do
  k ← field_at n fs
  kind ← or_bad (errors.BadName n) (kind_of k.0)
  f ← field_at (n + 1) k.1
  x ← or_bad (errors.BadNumber (n + 1)) (triple_of f.0)
  Ok (record { kind = kind; src = x.0; scep = x.1; seq = x.2 }, f.1)

-- FAC/NODE/N
unfoldable pub port_at : ℕ → List (List ℕ) → Result (PortNote × List (List ℕ)) LineError
port_at n fs = do
  f ← field_at n fs
  x ← port_of n f.0
  Ok (x, f.1)

-- 0 or 1
unfoldable pub truth_at : ℕ → List (List ℕ) → Result (Bool × List (List ℕ)) LineError
truth_at n fs = do
  f ← field_at n fs
  x ← or_bad (errors.BadNumber n) (truth_of f.0)
  Ok (x, f.1)

-- a name
unfoldable pub name_field_at : ℕ → List (List ℕ) → Result (List ℕ × List (List ℕ)) LineError
name_field_at n fs = do
  f ← field_at n fs
  x ← name_or_bad n (name_at f.0)
  Ok (x, f.1)

-- an application name
unfoldable pub app_field_at : ℕ → List (List ℕ) → Result (List ℕ × List (List ℕ)) LineError
app_field_at n fs = do
  f ← field_at n fs
  x ← name_or_bad n (app_at f.0)
  Ok (x, f.1)

-- an object name
unfoldable pub object_at : ℕ → List (List ℕ) → Result (List ℕ × List (List ℕ)) LineError
object_at n fs = do
  f ← field_at n fs
  x ← or_bad (errors.BadName n) (object_name_of f.0)
  Ok (x, f.1)

-- bytes, spelled as they are printed
unfoldable pub bytes_at : ℕ → List (List ℕ) → Result (List ℕ × List (List ℕ)) LineError
bytes_at n fs = do
  f ← field_at n fs
  x ← or_bad (errors.BadBytes n) (printed_of f.0)
  Ok (x, f.1)

-- this word
unfoldable pub word_at : List ℕ → ℕ → List (List ℕ) → Result (Unit {0} × List (List ℕ)) LineError
word_at word n fs = do
  f ← field_at n fs
  _ ← guard (bytes_eq f.0 word) (errors.BadName n)
  Ok (tt, f.1)

-- ---- the last field of a note

unfoldable pub last_number_at : ℕ → ℕ → List (List ℕ) → Result ℕ LineError
last_number_at max n fs = do
  x ← number_at max n fs
  _ ← end_at (n + 1) x.1
  Ok x.0

unfoldable pub last_two_at : ℕ → ℕ → List (List ℕ) → Result (ℕ × ℕ) LineError
last_two_at max n fs = do
  x ← number_at max n fs
  y ← last_number_at max32 (n + 1) x.1
  Ok (x.0, y)

unfoldable pub last_num_at : ℕ → List (List ℕ) → Result Num LineError
last_num_at n fs = do
  x ← num_at n fs
  _ ← end_at (n + 1) x.1
  Ok x.0

unfoldable pub last_port_at : ℕ → List (List ℕ) → Result PortNote LineError
last_port_at n fs = do
  x ← port_at n fs
  _ ← end_at (n + 1) x.1
  Ok x.0

unfoldable pub last_truth_at : ℕ → List (List ℕ) → Result Bool LineError
last_truth_at n fs = do
  x ← truth_at n fs
  _ ← end_at (n + 1) x.1
  Ok x.0

unfoldable pub last_bytes_at : ℕ → List (List ℕ) → Result (List ℕ) LineError
last_bytes_at n fs = do
  x ← bytes_at n fs
  _ ← end_at (n + 1) x.1
  Ok x.0
