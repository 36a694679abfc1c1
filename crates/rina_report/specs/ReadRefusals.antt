-- Reading refusals, from field n to the end of the note.
use Rattle.std.specs.Prelude.{ℕ, ◌+◌, List, codes, Option, Some, None, Result, Ok, Err, if◌then◌else◌}
use Rattle.std.specs.Str.{bytes_eq}
use Rattle.rina_base.specs.Traverse.{◌>>=◌}
use Rattle.rina_schedule.specs.declared.error.LineError.{LineError}
use Rattle.rina_schedule.specs.declared.error.LineError.TheVariants as errors
use Rattle.rina_report.specs.declared.state.StateNote.{StateNote}
use Rattle.rina_report.specs.declared.refusal.Refusal.{Refusal}
use Rattle.rina_report.specs.declared.refusal.Refusal.TheVariants as refusals
use Rattle.rina_report.specs.Fields.{max32, max64, field_at, end_at, last_number_at, last_two_at, last_port_at}
use Rattle.rina_report.specs.ReadStates.{fail_at, state_of}

-- the refusal with this name, where it has no fields
unfoldable pub bare_of : List ℕ → Option Refusal
bare_of word =
    if bytes_eq word (codes "NoWire") then Some refusals.NoWire
    else (if bytes_eq word (codes "NoPolicy") then Some refusals.NoPolicy
    else (if bytes_eq word (codes "LabelUsed") then Some refusals.LabelUsed
    else (if bytes_eq word (codes "ClockSpent") then Some refusals.ClockSpent
    else (if bytes_eq word (codes "NoIpc") then Some refusals.NoIpc
    else (if bytes_eq word (codes "Already") then Some refusals.Already
    else (if bytes_eq word (codes "NoMember") then Some refusals.NoMember
    else (if bytes_eq word (codes "NotThere") then Some refusals.NotThere
    else (if bytes_eq word (codes "NoCube") then Some refusals.NoCube
    else (if bytes_eq word (codes "NoSuchApp") then Some refusals.NoSuchApp
    else (if bytes_eq word (codes "SameSystem") then Some refusals.SameSystem
    else (if bytes_eq word (codes "NoPort") then Some refusals.NoPort
    else (if bytes_eq word (codes "NoLink") then Some refusals.NoLink
    else (if bytes_eq word (codes "NoRank") then Some refusals.NoRank
    else (if bytes_eq word (codes "NotYours") then Some refusals.NotYours
    else None))))))))))))))

unfoldable pub state_or_none_of : List ℕ → ℕ → List (List ℕ) → Result (Option StateNote) LineError
state_or_none_of word n fs =
    if bytes_eq word (codes "none") then (end_at (n + 1) fs >>= λ _. Ok None) else (state_of word n fs >>= λ state. Ok (Some state))

-- a state, or none
unfoldable pub state_or_none_at : ℕ → List (List ℕ) → Result (Option StateNote) LineError
state_or_none_at n fs = do
  f ← field_at n fs
  state_or_none_of f.0 n f.1

-- the refusal with the name in field n, where its fields are others than one number of 32 bits
unfoldable pub shaped_of : List ℕ → ℕ → List (List ℕ) → Result Refusal LineError
shaped_of word n fs =
    if bytes_eq word (codes "CountSpent") then (last_two_at max32 (n + 1) fs >>= λ x. Ok (refusals.CountSpent x.0 x.1))
    else (if bytes_eq word (codes "WindowShut") then (last_two_at max32 (n + 1) fs >>= λ x. Ok (refusals.WindowShut x.0 x.1))
    else (if bytes_eq word (codes "QueueFull") then (last_two_at max32 (n + 1) fs >>= λ x. Ok (refusals.QueueFull x.0 x.1))
    else (if bytes_eq word (codes "TooLong") then (last_two_at max64 (n + 1) fs >>= λ x. Ok (refusals.TooLong x.0 x.1))
    else (if bytes_eq word (codes "NoFrame") then (last_number_at max64 (n + 1) fs >>= λ x. Ok (refusals.NoFrame x))
    else (if bytes_eq word (codes "Short") then (last_number_at max64 (n + 1) fs >>= λ x. Ok (refusals.Short x))
    else (if bytes_eq word (codes "BadTag") then (last_number_at max64 (n + 1) fs >>= λ x. Ok (refusals.BadTag x))
    else (if bytes_eq word (codes "Busy") then (last_port_at (n + 1) fs >>= λ port. Ok (refusals.Busy port))
    else (if bytes_eq word (codes "NotAllocated") then (state_or_none_at (n + 1) fs >>= λ state. Ok (refusals.NotAllocated state))
    else (if bytes_eq word (codes "Failed") then (fail_at (n + 1) fs >>= λ fail. Ok (refusals.Failed fail))
    else Err (errors.BadName n))))))))))

-- one with one number, or one of those above
unfoldable pub numbered_of : List ℕ → ℕ → List (List ℕ) → Result Refusal LineError
numbered_of word n fs =
    if bytes_eq word (codes "Enrolling") then (last_number_at max32 (n + 1) fs >>= λ x. Ok (refusals.Enrolling x))
    else (if bytes_eq word (codes "LinksFull") then (last_number_at max32 (n + 1) fs >>= λ x. Ok (refusals.LinksFull x))
    else (if bytes_eq word (codes "BadOp") then (last_number_at max32 (n + 1) fs >>= λ x. Ok (refusals.BadOp x))
    else (if bytes_eq word (codes "Twice") then (last_number_at max32 (n + 1) fs >>= λ x. Ok (refusals.Twice x))
    else (if bytes_eq word (codes "Missing") then (last_number_at max32 (n + 1) fs >>= λ x. Ok (refusals.Missing x))
    else (if bytes_eq word (codes "BadValue") then (last_number_at max32 (n + 1) fs >>= λ x. Ok (refusals.BadValue x))
    else shaped_of word n fs)))))

-- one with one number, or one of those above
unfoldable pub counted_of : List ℕ → ℕ → List (List ℕ) → Result Refusal LineError
counted_of word n fs =
    if bytes_eq word (codes "Unknown") then (last_number_at max32 (n + 1) fs >>= λ x. Ok (refusals.Unknown x))
    else (if bytes_eq word (codes "NoIds") then (last_number_at max32 (n + 1) fs >>= λ x. Ok (refusals.NoIds x))
    else (if bytes_eq word (codes "NoRoute") then (last_number_at max32 (n + 1) fs >>= λ x. Ok (refusals.NoRoute x))
    else (if bytes_eq word (codes "NumbersSpent") then (last_number_at max32 (n + 1) fs >>= λ x. Ok (refusals.NumbersSpent x))
    else (if bytes_eq word (codes "EarlyHold") then (last_number_at max32 (n + 1) fs >>= λ x. Ok (refusals.EarlyHold x))
    else (if bytes_eq word (codes "LateHold") then (last_number_at max32 (n + 1) fs >>= λ x. Ok (refusals.LateHold x))
    else numbered_of word n fs)))))

abbrev pub bare_or_counted : Option Refusal → List ℕ → ℕ → List (List ℕ) → Result Refusal LineError
bare_or_counted (Some why) word n fs = end_at (n + 1) fs >>= λ _. Ok why
bare_or_counted None word n fs = counted_of word n fs

-- a refusal
unfoldable pub refusal_of : List ℕ → ℕ → List (List ℕ) → Result Refusal LineError
refusal_of word n fs = bare_or_counted (bare_of word) word n fs

unfoldable pub refusal_at : ℕ → List (List ℕ) → Result Refusal LineError
refusal_at n fs = do
  f ← field_at n fs
  refusal_of f.0 n f.1
