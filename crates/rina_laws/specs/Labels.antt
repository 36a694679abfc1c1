-- What the notes of a run tell for a label, and that this is what its end's journal holds.
use Rattle.std.specs.Prelude.{◌≡◌, ℕ, ◌-◌, List, [], ◌∷◌, map, take, slice_get, Option, Some, None, Result, Ok, Err, option_and_then, if◌then◌else◌}
use Rattle.std.specs.List.{flat_map}
use Rattle.std.specs.Str.{bytes_eq}
use Rattle.rina_base.specs.declared.number.Num.{Num}
use Rattle.rina_base.specs.declared.number.Port.{Port}
use Rattle.rina_law.specs.declared.entry.Entry.{Entry}
use Rattle.rina_iface.specs.declared.ends.End.{End}
use Rattle.rina_iface.specs.Seen.{end_of}
use Rattle.rina_policy.specs.Slots.{Slot}
use Rattle.rina_report.specs.declared.note.Note.{Note}
use Rattle.rina_report.specs.declared.note.Note.TheVariants as notes
use Rattle.rina_report.specs.declared.answer.Answer.TheVariants as answers
use Rattle.rina_schedule.specs.declared.error.LineError.{LineError}
use Rattle.rina_schedule.specs.declared.event.Event.{Event}
use Rattle.rina_schedule.specs.declared.event.Event.TheVariants as events
use Rattle.rina_stack.specs.declared.plan.Plan.{Plan}
use Rattle.rina_stack.specs.Plan.{IsPlan}
use Rattle.rina_tower.specs.declared.tower.Tower.{Tower}
use Rattle.rina_tower.specs.Ranks.{rank_of, seen_of}
use Rattle.rina_notes.specs.declared.label.Label.{Label}
use Rattle.rina_schedule.specs.Line.{line_at}
use Rattle.rina_run.specs.Opening.{IsOpening}
use Rattle.rina_run.specs.Run.{Runs}
use Rattle.rina_words.specs.Step.{Stage}

-- what was read, where it is an event
abbrev pub event_in : Result (Option Event) LineError → Option Event
event_in (Ok read) = read
event_in (Err e) = None

-- the event of the line of this number; lines are counted from 1
abbrev pub event_by : List (List ℕ) → ℕ → Option Event
event_by lines number = option_and_then (λ (line : List ℕ). event_in (line_at line)) (slice_get lines (number - 1))

-- ---- what was sent

-- the bytes that an event sends at the label of that name
abbrev pub sends_at : List ℕ → Option Event → Option (List ℕ)
sends_at name (Some (events.Send label bytes)) = if bytes_eq label name then Some bytes else None
sends_at name event = None

abbrev pub entry_of : ℕ → Num → Option (List ℕ) → List Entry
entry_of tick num None = []
entry_of tick num (Some bytes) = record { tick = tick; num = num; bytes = bytes } ∷ []

-- the entry that a note tells for the label of that name: an SDU was sent, under this number, with the bytes of its line
abbrev pub sent_by : List (List ℕ) → List ℕ → Note → List Entry
sent_by lines name (notes.Line number tick (answers.Sent num)) = entry_of tick num (sends_at name (event_by lines number))
sent_by lines name note = []

-- the entries that the notes tell for that label, in their order
abbrev pub sent_told : List (List ℕ) → List Note → List ℕ → List Entry
sent_told lines ns name = flat_map (sent_by lines name) ns

-- the end of this port of a rank stands, and what it sent is these entries
pub record HasSent (t : Tower) (rank : ℕ) (port : Port) (entries : List Entry) : Type 0 where
  pub tower : Tower
  pub is_rank : rank_of t rank ≡ Some tower
  pub end : End
  pub stands : end_of (seen_of tower) port ≡ Some end
  pub sent : end.sent ≡ entries

-- after a run from its opening the end of each label, at whatever rank, sent exactly what the notes tell for the label
abbrev pub SentIsTold : Type 0
SentIsTold = (plan : Plan) (shelf : List Slot) (start : Stage) (lines : List (List ℕ)) (ns : List Note) (s : Stage) → IsPlan plan → IsOpening plan shelf start → Runs plan 1 start lines ns s
    → (k : ℕ) (l : Label) → slice_get s.run.labels k ≡ Some l → HasSent s.run.tower l.rank l.port (sent_told lines ns l.name)

-- ---- what was read

-- the SDU of an entry that is read: the tick of its arrival, and its bytes
abbrev pub sdu_of : Entry → ℕ × List ℕ
sdu_of x = (x.tick, x.bytes)

-- what an SDU that was read tells for the label of that name, by the event of its line
abbrev pub reads_at : List ℕ → ℕ → List ℕ → Option Event → List (ℕ × List ℕ)
reads_at name at bytes (Some (events.Read label)) = if bytes_eq label name then (at, bytes) ∷ [] else []
reads_at name at bytes event = []

-- the SDU that a note tells for the label of that name: it was read, and it came at this tick
abbrev pub got_by : List (List ℕ) → List ℕ → Note → List (ℕ × List ℕ)
got_by lines name (notes.Line number tick (answers.Got at bytes)) = reads_at name at bytes (event_by lines number)
got_by lines name note = []

-- the SDUs that the notes tell for that label, in their order
abbrev pub got_told : List (List ℕ) → List Note → List ℕ → List (ℕ × List ℕ)
got_told lines ns name = flat_map (got_by lines name) ns

-- the end of this port of a rank stands, and what was passed of what it got is these SDUs
pub record HasPassed (t : Tower) (rank : ℕ) (port : Port) (sdus : List (ℕ × List ℕ)) : Type 0 where
  pub tower : Tower
  pub is_rank : rank_of t rank ≡ Some tower
  pub end : End
  pub stands : end_of (seen_of tower) port ≡ Some end
  pub passed : map sdu_of (take end.taken end.got) ≡ sdus

-- after a run from its opening what was passed at the end of each label, at whatever rank, is exactly what the notes tell for the label
abbrev pub GotIsTold : Type 0
GotIsTold = (plan : Plan) (shelf : List Slot) (start : Stage) (lines : List (List ℕ)) (ns : List Note) (s : Stage) → IsPlan plan → IsOpening plan shelf start → Runs plan 1 start lines ns s
    → (k : ℕ) (l : Label) → slice_get s.run.labels k ≡ Some l → HasPassed s.run.tower l.rank l.port (got_told lines ns l.name)
