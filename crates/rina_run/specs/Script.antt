-- What an input consists of: the text of a stack, and behind a mark the lines of a schedule.
use Rattle.std.specs.Prelude.{ℕ, ◌+◌, ◌-◌, ◌==◌, ◌&&◌, Bool, true, false, nat_lt, List, [], map, length, take, drop, slice_get, slice_index, not, position, codes, Option, Some, None, if◌then◌else◌}
use Rattle.std.specs.List.{flat_map}
use Rattle.std.specs.Str.{bytes_eq}
use Rattle.bstr.specs.Text.{lines_of, without_terminator}

-- the text of the stack, and the lines of the schedule without their ends
pub record Script : Type 0 where
  pub stack : List ℕ
  pub lines : List (List ℕ)

-- a line ends with a line feed
unfoldable pub has_end : List ℕ → Bool
has_end line = nat_lt 0 (length line) && (slice_index line (length line - 1) == 10)

abbrev pub is_open : Option (List ℕ) → Bool
is_open None = false
is_open (Some line) = not (has_end line)

-- the lines that have their end: all but the last one where that has none
unfoldable pub ended_lines : List (List ℕ) → List (List ℕ)
ended_lines ls = if is_open (slice_get ls (length ls - 1)) then take (length ls - 1) ls else ls

-- the lines that count: where the input did not end there, a last line without its end does not
abbrev pub counted_lines : Bool → List (List ℕ) → List (List ℕ)
counted_lines true ls = ls
counted_lines false ls = ended_lines ls

unfoldable pub is_mark : List ℕ → Bool
is_mark line = bytes_eq (without_terminator line) (codes "%%")

abbrev pub script : List ℕ → List (List ℕ) → Script
script text ls = record { stack = text; lines = ls }

-- the stack before the mark at place k and the schedule behind it; where there is no mark, the whole
-- input is the stack, if it was read whole
abbrev pub script_at : Bool → Option ℕ → List (List ℕ) → Option Script
script_at whole (Some k) ls = Some (script (flat_map (λ l. l) (take k ls)) (map without_terminator (drop (k + 1) ls)))
script_at true None ls = Some (script (flat_map (λ l. l) ls) [])
script_at false None ls = None

-- the script that lines are, of an input that was read whole or was not
unfoldable pub script_of : Bool → List (List ℕ) → Option Script
script_of whole ls = script_at whole (position is_mark ls) ls

-- the script that bytes are
abbrev pub script_in : Bool → List ℕ → Option Script
script_in whole bytes = script_of whole (counted_lines whole (lines_of bytes))
