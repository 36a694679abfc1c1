-- Reading a line of a schedule.
use Rattle.std.specs.Prelude.{◌≡◌, ℕ, ◌==◌, ◌||◌, Bool, true, List, codes, slice_index, Option, Some, None, IsSomeAnd, IsOk, Result, Ok, Err, if◌then◌else◌}
use Rattle.std.specs.Str.{bytes_eq}
use Rattle.rina_base.specs.Traverse.{◌>>=◌}
use Rattle.rina_schedule.specs.declared.error.LineError.{LineError}
use Rattle.rina_schedule.specs.declared.error.LineError.TheVariants as errors
use Rattle.rina_schedule.specs.declared.event.Event.{Event}
use Rattle.rina_schedule.specs.Fields.{next_of, field_at}
use Rattle.rina_schedule.specs.FlowWords.{register_at, unregister_at, alloc_at, accept_at, send_at, read_at, state_at, free_at}
use Rattle.rina_schedule.specs.WireWords.{lose_at, repeat_at, hold_at, cut_at, mend_at, tick_at, round_at, retire_at, journal_at}
use Rattle.rina_schedule.specs.DifWords.{publish_at, enrol_at, member_at, in_at, out_at, clock_at, cdap_at, rib_at, ledger_at}

-- the event of a line with a word about the clock, policies or journals
unfoldable pub step_word_at : List ℕ → List ℕ → Result Event LineError
step_word_at word text =
    if bytes_eq word (codes "tick") then tick_at text
    else (if bytes_eq word (codes "round") then round_at text
    else (if bytes_eq word (codes "retire") then retire_at text
    else (if bytes_eq word (codes "journal") then journal_at text
    else Err errors.UnknownWord)))

-- the event of a line with a word about members of a DIF, or with one of those above
unfoldable pub dif_word_at : List ℕ → List ℕ → Result Event LineError
dif_word_at word text =
    if bytes_eq word (codes "publish") then publish_at text
    else (if bytes_eq word (codes "enrol") then enrol_at text
    else (if bytes_eq word (codes "member") then member_at text
    else (if bytes_eq word (codes "in") then in_at text
    else (if bytes_eq word (codes "out") then out_at text
    else (if bytes_eq word (codes "clock") then clock_at text
    else (if bytes_eq word (codes "cdap") then cdap_at text
    else (if bytes_eq word (codes "rib") then rib_at text
    else (if bytes_eq word (codes "ledger") then ledger_at text
    else step_word_at word text))))))))

-- the event of a line with a word about wires, or with one of those above
unfoldable pub wire_word_at : List ℕ → List ℕ → Result Event LineError
wire_word_at word text =
    if bytes_eq word (codes "lose") then lose_at text
    else (if bytes_eq word (codes "repeat") then repeat_at text
    else (if bytes_eq word (codes "hold") then hold_at text
    else (if bytes_eq word (codes "cut") then cut_at text
    else (if bytes_eq word (codes "mend") then mend_at text
    else dif_word_at word text))))

-- the event of a line with this word and this text behind it
unfoldable pub word_at : List ℕ → List ℕ → Result Event LineError
word_at word text =
    if bytes_eq word (codes "register") then register_at text
    else (if bytes_eq word (codes "unregister") then unregister_at text
    else (if bytes_eq word (codes "alloc") then alloc_at text
    else (if bytes_eq word (codes "accept") then accept_at text
    else (if bytes_eq word (codes "send") then send_at text
    else (if bytes_eq word (codes "read") then read_at text
    else (if bytes_eq word (codes "state") then state_at text
    else (if bytes_eq word (codes "free") then free_at text
    else wire_word_at word text)))))))

abbrev pub event_or_none : Option (List ℕ × List ℕ) → Result (Option Event) LineError
event_or_none None = Ok None
event_or_none (Some f) = if slice_index f.0 0 == 35 then Ok None else (word_at f.0 f.1 >>= λ event. Ok (Some event))

-- the word is one of a group behind which a name or bytes are copied: of those about the clock, policies and journals; behind `tick` and `round` nothing is
unfoldable pub step_word_copies : List ℕ → Bool
step_word_copies word = bytes_eq word (codes "retire") || bytes_eq word (codes "journal")

-- of these, or of those about members of a DIF
unfoldable pub dif_word_copies : List ℕ → Bool
dif_word_copies word = bytes_eq word (codes "publish") || bytes_eq word (codes "enrol") || bytes_eq word (codes "member") || bytes_eq word (codes "in") || bytes_eq word (codes "out") || bytes_eq word (codes "clock") || bytes_eq word (codes "cdap") || bytes_eq word (codes "rib") || bytes_eq word (codes "ledger") || step_word_copies word

-- of these, or of those about wires
unfoldable pub wire_word_copies : List ℕ → Bool
wire_word_copies word = bytes_eq word (codes "lose") || bytes_eq word (codes "repeat") || bytes_eq word (codes "hold") || bytes_eq word (codes "cut") || bytes_eq word (codes "mend") || dif_word_copies word

-- of all words; a word that the grammar does not have is none
unfoldable pub word_copies : List ℕ → Bool
word_copies word = bytes_eq word (codes "register") || bytes_eq word (codes "unregister") || bytes_eq word (codes "alloc") || bytes_eq word (codes "accept") || bytes_eq word (codes "send") || bytes_eq word (codes "read") || bytes_eq word (codes "state") || bytes_eq word (codes "free") || wire_word_copies word

-- the line has a word behind which something is copied
abbrev pub HasCopyingWord : List ℕ → Type 0
HasCopyingWord text = IsSomeAnd (next_of text) (λ f. word_copies f.0 ≡ true)

-- a field stands behind the word of a line
abbrev pub HasOperand : List ℕ → Type 0
HasOperand text = IsSomeAnd (next_of text) (λ f. IsOk (field_at 1 f.1))

-- the event that a line asks for; none where it is blank or a comment, whose first field begins with '#'
unfoldable pub line_at : List ℕ → Result (Option Event) LineError
line_at text = event_or_none (next_of text)
