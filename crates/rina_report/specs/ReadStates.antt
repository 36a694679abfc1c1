-- Reading states. Each definition takes the number n of the field where the state begins, and the fields
-- from there to the end of the note.
use Rattle.std.specs.Prelude.{ℕ, ◌+◌, List, codes, Result, Ok, Err, if◌then◌else◌}
use Rattle.std.specs.Str.{bytes_eq}
use Rattle.rina_base.specs.Traverse.{◌>>=◌}
use Rattle.rina_iface.specs.declared.state.Why.{Why}
use Rattle.rina_iface.specs.declared.state.Why.TheVariants as whys
use Rattle.rina_schedule.specs.declared.error.LineError.{LineError}
use Rattle.rina_schedule.specs.declared.error.LineError.TheVariants as errors
use Rattle.rina_report.specs.declared.state.FailNote.{FailNote}
use Rattle.rina_report.specs.declared.state.FailNote.TheVariants as fails
use Rattle.rina_report.specs.declared.state.StateNote.{StateNote}
use Rattle.rina_report.specs.declared.state.StateNote.TheVariants as states
use Rattle.rina_report.specs.Fields.{max32, field_at, end_at, num_at, last_number_at, last_two_at, last_port_at}

-- why a flow was refused, by the word in field n
unfoldable pub why_of : List ℕ → ℕ → List (List ℕ) → Result Why LineError
why_of word n fs =
    if bytes_eq word (codes "Denied") then (last_number_at max32 (n + 1) fs >>= λ x. Ok (whys.Denied x))
    else (if bytes_eq word (codes "NotHere") then (end_at (n + 1) fs >>= λ _. Ok whys.NotHere)
    else (if bytes_eq word (codes "NoIds") then (last_number_at max32 (n + 1) fs >>= λ x. Ok (whys.NoIds x))
    else (if bytes_eq word (codes "Timeout") then (last_two_at max32 (n + 1) fs >>= λ x. Ok (whys.Timeout x.0 x.1))
    else (if bytes_eq word (codes "Withdrawn") then (end_at (n + 1) fs >>= λ _. Ok whys.Withdrawn)
    else Err (errors.BadName n)))))

unfoldable pub why_at : ℕ → List (List ℕ) → Result Why LineError
why_at n fs = do
  f ← field_at n fs
  why_of f.0 n f.1

-- the PDU that was not acknowledged in time, and the ticks
unfoldable pub gave_up_at : ℕ → List (List ℕ) → Result FailNote LineError
gave_up_at n fs = do
  num ← num_at n fs
  x ← last_two_at max32 (n + 1) num.1
  Ok (fails.GaveUp num.0 x.0 x.1)

-- why a flow failed
unfoldable pub fail_of : List ℕ → ℕ → List (List ℕ) → Result FailNote LineError
fail_of word n fs =
    if bytes_eq word (codes "GaveUp") then gave_up_at (n + 1) fs
    else (if bytes_eq word (codes "Below") then (last_port_at (n + 1) fs >>= λ port. Ok (fails.Below port))
    else (if bytes_eq word (codes "Cut") then (last_number_at max32 (n + 1) fs >>= λ x. Ok (fails.Cut x))
    else Err (errors.BadName n)))

unfoldable pub fail_at : ℕ → List (List ℕ) → Result FailNote LineError
fail_at n fs = do
  f ← field_at n fs
  fail_of f.0 n f.1

-- the state of a port
unfoldable pub state_of : List ℕ → ℕ → List (List ℕ) → Result StateNote LineError
state_of word n fs =
    if bytes_eq word (codes "pending") then (end_at (n + 1) fs >>= λ _. Ok states.Pending)
    else (if bytes_eq word (codes "allocated") then (end_at (n + 1) fs >>= λ _. Ok states.Allocated)
    else (if bytes_eq word (codes "closed") then (end_at (n + 1) fs >>= λ _. Ok states.Closed)
    else (if bytes_eq word (codes "refused") then (why_at (n + 1) fs >>= λ why. Ok (states.Refused why))
    else (if bytes_eq word (codes "failed") then (fail_at (n + 1) fs >>= λ fail. Ok (states.Failed fail))
    else Err (errors.BadName n)))))

unfoldable pub state_at : ℕ → List (List ℕ) → Result StateNote LineError
state_at n fs = do
  f ← field_at n fs
  state_of f.0 n f.1
