-- Reading causes and the results of single steps, from field n to the end of the note.
use Rattle.std.specs.Prelude.{ℕ, ◌+◌, List, codes, Result, Ok, Err, if◌then◌else◌}
use Rattle.std.specs.Str.{bytes_eq}
use Rattle.rina_base.specs.Traverse.{◌>>=◌}
use Rattle.rina_schedule.specs.declared.error.LineError.{LineError}
use Rattle.rina_schedule.specs.declared.error.LineError.TheVariants as errors
use Rattle.rina_report.specs.declared.cause.CauseNote.{CauseNote}
use Rattle.rina_report.specs.declared.cause.CauseNote.TheVariants as causes
use Rattle.rina_report.specs.declared.step.TookNote.{TookNote}
use Rattle.rina_report.specs.declared.step.TookNote.TheVariants as tooks
use Rattle.rina_report.specs.declared.step.ClockNote.{ClockNote}
use Rattle.rina_report.specs.declared.step.ClockNote.TheVariants as clocks
use Rattle.rina_report.specs.Fields.{max32, field_at, end_at, last_number_at, last_two_at, last_num_at, last_port_at, last_truth_at}

-- a cause that lies in the PDU itself, by the word in field n
unfoldable pub pdu_cause_of : List ℕ → ℕ → List (List ℕ) → Result CauseNote LineError
pdu_cause_of word n fs =
    if bytes_eq word (codes "Duplicate") then (last_num_at (n + 1) fs >>= λ num. Ok (causes.Duplicate num))
    else (if bytes_eq word (codes "Behind") then (last_number_at max32 (n + 1) fs >>= λ x. Ok (causes.Behind x))
    else (if bytes_eq word (codes "NoState") then (last_truth_at (n + 1) fs >>= λ drf. Ok (causes.NoState drf))
    else (if bytes_eq word (codes "StateGone") then (last_number_at max32 (n + 1) fs >>= λ x. Ok (causes.StateGone x))
    else (if bytes_eq word (codes "Broken") then (last_number_at max32 (n + 1) fs >>= λ x. Ok (causes.Broken x))
    else Err (errors.BadName n)))))

-- a cause
unfoldable pub cause_of : List ℕ → ℕ → List (List ℕ) → Result CauseNote LineError
cause_of word n fs =
    if bytes_eq word (codes "Expired") then (last_two_at max32 (n + 1) fs >>= λ x. Ok (causes.Expired x.0 x.1))
    else (if bytes_eq word (codes "NoRoute") then (last_number_at max32 (n + 1) fs >>= λ x. Ok (causes.NoRoute x))
    else (if bytes_eq word (codes "QueueFull") then (last_number_at max32 (n + 1) fs >>= λ x. Ok (causes.QueueFull x))
    else (if bytes_eq word (codes "NoConnection") then (last_number_at max32 (n + 1) fs >>= λ x. Ok (causes.NoConnection x))
    else (if bytes_eq word (codes "NoRoom") then (last_number_at max32 (n + 1) fs >>= λ x. Ok (causes.NoRoom x))
    else (if bytes_eq word (codes "LinkDown") then (last_port_at (n + 1) fs >>= λ port. Ok (causes.LinkDown port))
    else pdu_cause_of word n fs)))))

unfoldable pub cause_at : ℕ → List (List ℕ) → Result CauseNote LineError
cause_at n fs = do
  f ← field_at n fs
  cause_of f.0 n f.1

-- what a step did with a PDU
unfoldable pub took_of : List ℕ → ℕ → List (List ℕ) → Result TookNote LineError
took_of word n fs =
    if bytes_eq word (codes "accepted") then (end_at (n + 1) fs >>= λ _. Ok tooks.Accepted)
    else (if bytes_eq word (codes "relayed") then (end_at (n + 1) fs >>= λ _. Ok tooks.Relayed)
    else (if bytes_eq word (codes "off") then (cause_at (n + 1) fs >>= λ cause. Ok (tooks.Off cause))
    else Err (errors.BadName n)))

unfoldable pub took_at : ℕ → List (List ℕ) → Result TookNote LineError
took_at n fs = do
  f ← field_at n fs
  took_of f.0 n f.1

-- the result of a step of the clock
unfoldable pub clock_of : List ℕ → ℕ → List (List ℕ) → Result ClockNote LineError
clock_of word n fs =
    if bytes_eq word (codes "link-lost") then (last_number_at max32 (n + 1) fs >>= λ x. Ok (clocks.LinkLost x))
    else (if bytes_eq word (codes "link-new") then (last_number_at max32 (n + 1) fs >>= λ x. Ok (clocks.LinkNew x))
    else (if bytes_eq word (codes "gone") then (last_number_at max32 (n + 1) fs >>= λ x. Ok (clocks.Gone x))
    else (if bytes_eq word (codes "gave-up") then (last_num_at (n + 1) fs >>= λ num. Ok (clocks.GaveUp num))
    else (if bytes_eq word (codes "timeout") then (last_port_at (n + 1) fs >>= λ port. Ok (clocks.Timeout port))
    else (if bytes_eq word (codes "ack") then (last_number_at max32 (n + 1) fs >>= λ x. Ok (clocks.Ack x))
    else (if bytes_eq word (codes "again") then (last_num_at (n + 1) fs >>= λ num. Ok (clocks.Again num))
    else (if bytes_eq word (codes "message") then (last_number_at max32 (n + 1) fs >>= λ x. Ok (clocks.Message x))
    else Err (errors.BadName n))))))))

unfoldable pub clock_at : ℕ → List (List ℕ) → Result ClockNote LineError
clock_at n fs = do
  f ← field_at n fs
  clock_of f.0 n f.1
