-- Reading answers, whose word is field 0.
use Rattle.std.specs.Prelude.{ℕ, ◌+◌, ◌||◌, Bool, List, [], ◌∷◌, codes, Option, Some, None, Result, Ok, Err, if◌then◌else◌}
use Rattle.std.specs.Str.{bytes_eq}
use Rattle.rina_base.specs.Traverse.{◌>>=◌}
use Rattle.rina_base.specs.declared.number.Num.{Num}
use Rattle.rina_base.specs.declared.number.Key.{Key}
use Rattle.rina_iface.specs.declared.state.Role.{Role}
use Rattle.rina_iface.specs.declared.state.Role.TheVariants as roles
use Rattle.rina_schedule.specs.declared.error.LineError.{LineError}
use Rattle.rina_schedule.specs.declared.error.LineError.TheVariants as errors
use Rattle.rina_schedule.specs.Gives.{or_bad}
use Rattle.rina_base.specs.Classes.{class_of}
use Rattle.rina_report.specs.declared.answer.FlowNote.{FlowNote}
use Rattle.rina_report.specs.declared.answer.Answer.{Answer}
use Rattle.rina_report.specs.declared.answer.Answer.TheVariants as answers
use Rattle.rina_report.specs.declared.state.MemberNote.TheVariants as members
use Rattle.rina_report.specs.Fields.{max8, max32, max64, field_at, end_at, number_at, num_at, flow_at, key_at, port_at, name_field_at, app_field_at, object_at, last_number_at, last_num_at, last_bytes_at}
use Rattle.rina_report.specs.ReadStates.{state_of, state_at}
use Rattle.rina_report.specs.ReadCauses.{cause_at, took_at, clock_at}
use Rattle.rina_report.specs.ReadRefusals.{refusal_at}

unfoldable pub role_of : List ℕ → Option Role
role_of word = if bytes_eq word (codes "asker") then Some roles.Asker else (if bytes_eq word (codes "far") then Some roles.Far else None)

-- the state of a member or a port, behind ok
unfoldable pub ok_state_of : List ℕ → ℕ → List (List ℕ) → Result Answer LineError
ok_state_of word n fs =
    if bytes_eq word (codes "outside") then (end_at (n + 1) fs >>= λ _. Ok (answers.Member members.Outside))
    else (if bytes_eq word (codes "joining") then (last_number_at max32 (n + 1) fs >>= λ x. Ok (answers.Member (members.Joining x)))
    else (if bytes_eq word (codes "enrolled") then (end_at (n + 1) fs >>= λ _. Ok (answers.Member members.Enrolled))
    else (if bytes_eq word (codes "denied") then (last_number_at max32 (n + 1) fs >>= λ x. Ok (answers.Member (members.Denied x)))
    else (state_of word n fs >>= λ state. Ok (answers.Port state)))))

-- behind ok: nothing, or a state
abbrev pub ok_at : ℕ → List (List ℕ) → Result Answer LineError
ok_at n [] = Ok answers.Done
ok_at n (f ∷ fs) = ok_state_of f n fs

-- TICK BYTES
unfoldable pub got_at : ℕ → List (List ℕ) → Result Answer LineError
got_at n fs = do
  at ← number_at max32 n fs
  bytes ← last_bytes_at (n + 1) at.1
  Ok (answers.Got at.0 bytes)

-- KEY and what a step did with the PDU
unfoldable pub in_at : ℕ → List (List ℕ) → Result Answer LineError
in_at n fs = do
  key ← key_at n fs
  end ← took_at (n + 2) key.1
  Ok (answers.In key.0 end)

unfoldable pub out_off_of : Key → List ℕ → ℕ → List (List ℕ) → Result Answer LineError
out_off_of key word n fs =
    if bytes_eq word (codes "off") then (cause_at (n + 1) fs >>= λ cause. Ok (answers.OutOff key cause)) else Err (errors.BadName n)

-- the end of the note, or off CAUSE
abbrev pub out_end_at : Key → ℕ → List (List ℕ) → Result Answer LineError
out_end_at key n [] = Ok (answers.Out key)
out_end_at key n (f ∷ fs) = out_off_of key f n fs

-- KEY, or KEY off CAUSE
unfoldable pub out_at : ℕ → List (List ℕ) → Result Answer LineError
out_at n fs = do
  key ← key_at n fs
  out_end_at key.0 (n + 2) key.1

-- KEY CAUSE
unfoldable pub off_at : ℕ → List (List ℕ) → Result Answer LineError
off_at n fs = do
  key ← key_at n fs
  cause ← cause_at (n + 2) key.1
  Ok (answers.Off key.0 cause)

-- NAME CLASS VALUE
unfoldable pub object_note_at : ℕ → List (List ℕ) → Result Answer LineError
object_note_at n fs = do
  name ← object_at n fs
  word ← field_at (n + 1) name.1
  class ← or_bad (errors.BadName (n + 1)) (class_of word.0)
  value ← last_bytes_at (n + 2) word.1
  Ok (answers.Object name.0 class value)

-- NAME ROLE PORT APP PEER CUBE TAKEN STATE
unfoldable pub flow_note_at : ℕ → List (List ℕ) → Result FlowNote LineError
flow_note_at n fs = do
  flow ← flow_at n fs
  word ← field_at (n + 1) flow.1
  role ← or_bad (errors.BadName (n + 1)) (role_of word.0)
  port ← port_at (n + 2) word.1
  app ← app_field_at (n + 3) port.1
  peer ← app_field_at (n + 4) app.1
  cube ← number_at max8 (n + 5) peer.1
  taken ← number_at max64 (n + 6) cube.1
  state ← state_at (n + 7) taken.1
  Ok (record { flow = flow.0; role = role; port = port.0; app = app.0; peer = peer.0; cube = cube.0; taken = taken.0; state = state })

-- TICK NUM BYTES
unfoldable pub entry_at : ℕ → List (List ℕ) → Result (ℕ × Num × List ℕ) LineError
entry_at n fs = do
  at ← number_at max32 n fs
  num ← num_at (n + 1) at.1
  bytes ← last_bytes_at (n + 2) num.1
  Ok (at.0, num.0, bytes)

-- LABEL STATE
unfoldable pub label_at : ℕ → List (List ℕ) → Result Answer LineError
label_at n fs = do
  label ← name_field_at n fs
  state ← state_at (n + 1) label.1
  Ok (answers.Label label.0 state)

-- an answer with a word about journals or RIBs
unfoldable pub journal_word_at : List ℕ → List (List ℕ) → Result Answer LineError
journal_word_at word fs =
    if bytes_eq word (codes "cdap") then (last_bytes_at 1 fs >>= λ bytes. Ok (answers.Cdap bytes))
    else (if bytes_eq word (codes "obj") then object_note_at 1 fs
    else (if bytes_eq word (codes "flow") then (flow_note_at 1 fs >>= λ end. Ok (answers.Flow end))
    else (if bytes_eq word (codes "s") then (entry_at 1 fs >>= λ x. Ok (answers.SentEntry x.0 x.1 x.2))
    else (if bytes_eq word (codes "g") then (entry_at 1 fs >>= λ x. Ok (answers.GotEntry x.0 x.1 x.2))
    else Err errors.UnknownWord))))

-- an answer with a word about steps, or with one of those above
unfoldable pub step_word_at : List ℕ → List (List ℕ) → Result Answer LineError
step_word_at word fs =
    if bytes_eq word (codes "in") then in_at 1 fs
    else (if bytes_eq word (codes "out") then out_at 1 fs
    else (if bytes_eq word (codes "held") then (refusal_at 1 fs >>= λ why. Ok (answers.Held why))
    else (if bytes_eq word (codes "clock") then (clock_at 1 fs >>= λ step. Ok (answers.Clock step))
    else (if bytes_eq word (codes "idle") then (end_at 1 fs >>= λ _. Ok answers.Idle)
    else (if bytes_eq word (codes "off") then off_at 1 fs
    else journal_word_at word fs)))))

-- an answer with this word
unfoldable pub answer_at : List ℕ → List (List ℕ) → Result Answer LineError
answer_at word fs =
    if bytes_eq word (codes "ok") then ok_at 1 fs
    else (if bytes_eq word (codes "none") then (end_at 1 fs >>= λ _. Ok answers.Nothing)
    else (if bytes_eq word (codes "sent") then (last_num_at 1 fs >>= λ num. Ok (answers.Sent num))
    else (if bytes_eq word (codes "got") then got_at 1 fs
    else (if bytes_eq word (codes "no") then (refusal_at 1 fs >>= λ why. Ok (answers.Refused why))
    else (if bytes_eq word (codes "state") then label_at 1 fs
    else step_word_at word fs)))))

-- the word is one of a group behind which names or bytes may be copied: of those about journals and RIBs
unfoldable pub journal_word_copies : List ℕ → Bool
journal_word_copies word = bytes_eq word (codes "cdap") || bytes_eq word (codes "obj") || bytes_eq word (codes "flow") || bytes_eq word (codes "s") || bytes_eq word (codes "g")

-- of these, or of those about steps; behind `idle` nothing is
unfoldable pub step_word_copies : List ℕ → Bool
step_word_copies word = bytes_eq word (codes "in") || bytes_eq word (codes "out") || bytes_eq word (codes "held") || bytes_eq word (codes "clock") || bytes_eq word (codes "off") || journal_word_copies word

-- of all words of answers; behind `none` and `sent` nothing is copied, nor behind a word that no answer has
unfoldable pub answer_copies : List ℕ → Bool
answer_copies word = bytes_eq word (codes "ok") || bytes_eq word (codes "got") || bytes_eq word (codes "no") || bytes_eq word (codes "state") || step_word_copies word
