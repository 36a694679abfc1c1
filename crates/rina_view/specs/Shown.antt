-- What the notes of journals and ledgers show: the ends of flows, with the SDUs that each sent and got, and the write-offs.
use Rattle.std.specs.Prelude.{ℕ, Bool, true, false, List, [], ◌∷◌, length, Option, Some, None, if◌then◌else◌}
use Rattle.std.specs.List.{cons_option, filter_map}
use Rattle.rina_base.specs.declared.number.Num.{Num}
use Rattle.rina_report.specs.declared.answer.FlowNote.{FlowNote}
use Rattle.rina_report.specs.declared.answer.Answer.{Answer}
use Rattle.rina_report.specs.declared.answer.Answer.TheVariants as answers
use Rattle.rina_report.specs.declared.note.Note.{Note}
use Rattle.rina_report.specs.declared.note.Note.TheVariants as notes
use Rattle.rina_view.specs.declared.gather.EntryKind.{EntryKind}
use Rattle.rina_view.specs.declared.gather.EntryKind.TheVariants.{Sent, Got}
use Rattle.rina_view.specs.declared.shown.Entry.{Entry}
use Rattle.rina_view.specs.declared.shown.End.{End}
use Rattle.rina_view.specs.declared.shown.Off.{Off}

abbrev pub entry : ℕ → Num → List ℕ → Entry
entry at num bytes = record { at = at; num = num; len = length bytes }

abbrev pub sent_by_answer : Answer → Option Entry
sent_by_answer (answers.SentEntry at num bytes) = Some (entry at num bytes)
sent_by_answer answer = None

abbrev pub got_by_answer : Answer → Option Entry
got_by_answer (answers.GotEntry at num bytes) = Some (entry at num bytes)
got_by_answer answer = None

abbrev pub is_flow : Answer → Bool
is_flow (answers.Flow flow) = true
is_flow answer = false

-- the SDU that a note shows as sent
unfoldable pub sent_entry : Note → Option Entry
sent_entry (notes.Line line tick answer) = sent_by_answer answer
sent_entry note = None

-- the SDU that a note shows as got
unfoldable pub got_entry : Note → Option Entry
got_entry (notes.Line line tick answer) = got_by_answer answer
got_entry note = None

-- the note shows an end of a flow; the SDUs of that end stand behind it, up to the next end
unfoldable pub is_end : Note → Bool
is_end (notes.Line line tick answer) = is_flow answer
is_end note = false

-- an SDU that a note shows as sent, or as got
abbrev pub entry_of : EntryKind → Note → Option Entry
entry_of Sent note = sent_entry note
entry_of Got note = got_entry note

-- the SDUs that notes show as sent, or as got, up to the next end
abbrev pub entries_in : EntryKind → List Note → List Entry
entries_in kind [] = []
entries_in kind (note ∷ ns) = if is_end note then [] else cons_option (entry_of kind note) (entries_in kind ns)

abbrev pub shown_end : ℕ → FlowNote → List Note → End
shown_end line flow behind = record {
  line = line;
  fac = flow.port.fac;
  node = flow.port.node;
  flow = flow.flow;
  role = flow.role;
  sent = entries_in Sent behind;
  got = entries_in Got behind;
}

abbrev pub end_by_answer : ℕ → Answer → List Note → Option End
end_by_answer line (answers.Flow flow) behind = Some (shown_end line flow behind)
end_by_answer line answer behind = None

-- the end that a note shows, where it shows one, with the SDUs in the notes behind it
abbrev pub end_at : Note → List Note → Option End
end_at (notes.Line line tick answer) behind = end_by_answer line answer behind
end_at note behind = None

-- the ends that notes show, in their order
abbrev pub ends_in : List Note → List End
ends_in [] = []
ends_in (note ∷ behind) = cons_option (end_at note behind) (ends_in behind)

abbrev pub off_by_answer : ℕ → Answer → Option Off
off_by_answer line (answers.Off key cause) = Some (record { line = line; key = key; cause = cause })
off_by_answer line answer = None

-- the write-off that a note shows
unfoldable pub off_at : Note → Option Off
off_at (notes.Line line tick answer) = off_by_answer line answer
off_at note = None

-- the write-offs that notes show, in their order
abbrev pub offs_in : List Note → List Off
offs_in ns = filter_map off_at ns
