-- The text of the table: a row for each SDU that was sent, and a sum for each end of a flow that sent one.
use Rattle.std.specs.Prelude.{ℕ, ◌-◌, ◌/◌, ◌==◌, nat_lt, List, [], ◌∷◌, ◌++◌, codes, slice_get, Option, Some, None, option_and_then, if◌then◌else◌}
use Rattle.std.specs.Fmt.{decimal}
use Rattle.std.specs.List.{flat_map}
use Rattle.rina_schedule.specs.Spelling.{spaced}
use Rattle.rina_report.specs.declared.cause.CauseNote.{CauseNote}
use Rattle.rina_report.specs.declared.cause.CauseNote.TheVariants as causes
use Rattle.rina_report.specs.declared.note.Note.{Note}
use Rattle.rina_report.specs.Values.{flow_text, num_text, port_text, truth_text}
use Rattle.rina_view.specs.declared.row.Row.{Row}
use Rattle.rina_view.specs.declared.shown.End.{End}
use Rattle.rina_view.specs.declared.shown.Off.{Off}
use Rattle.rina_view.specs.declared.sum.Sum.{Sum}
use Rattle.rina_view.specs.Rows.{rows_of}
use Rattle.rina_view.specs.Shown.{ends_in, offs_in}
use Rattle.rina_view.specs.Sums.{delay, sum_of}

-- why a PDU was written off, in words
unfoldable pub cause_words : CauseNote → List ℕ
cause_words (causes.Expired left charge) = decimal left ++ codes " ticks left, " ++ decimal charge ++ codes " charged"
cause_words (causes.NoRoute dst) = codes "no way to address " ++ decimal dst
cause_words (causes.QueueFull cap) = codes "the queue held " ++ decimal cap
cause_words (causes.NoConnection cep) = codes "no connection " ++ decimal cep
cause_words (causes.Duplicate num) = num_text num ++ codes " came before"
cause_words (causes.Behind highest) = codes "too late, behind " ++ decimal highest
cause_words (causes.NoState drf) = codes "no state, run flag " ++ truth_text drf
cause_words (causes.NoRoom cap) = decimal cap ++ codes " wait unread"
cause_words (causes.StateGone last_in) = codes "state ended, renewed at " ++ decimal last_in
cause_words (causes.Broken missing) = codes "no number " ++ decimal missing
cause_words (causes.LinkDown port) = codes "link gone, port " ++ port_text port

-- how many write-offs there are beside the first
abbrev pub more_words : ℕ → List ℕ
more_words offs = if nat_lt 1 offs then codes ", and " ++ decimal (offs - 1) ++ codes " more" else []

-- why an SDU was written off, and how many more write-offs there are
unfoldable pub reason_words : ℕ → Off → List ℕ
reason_words offs off = codes ": " ++ cause_words off.cause ++ more_words offs

-- the first write-off of an SDU
abbrev pub off_words : ℕ → Off → List ℕ
off_words offs off = codes "written off, line " ++ decimal off.line ++ reason_words offs off

abbrev pub unseen_words : ℕ → Option Off → List ℕ
unseen_words offs None = codes "on its way or lost"
unseen_words offs (Some off) = off_words offs off

abbrev pub fate_by : List Off → Row → Option ℕ → List ℕ
fate_by offs row None = unseen_words row.offs (option_and_then (λ i. slice_get offs i) row.off)
fate_by offs row (Some tick) = codes "got " ++ decimal tick ++ codes " after " ++ decimal (delay row)

-- what became of an SDU, in words
abbrev pub fate_words : List Off → Row → List ℕ
fate_words offs row = fate_by offs row row.got

-- FAC FLOW NODE
abbrev pub end_text : End → List ℕ
end_text e = e.fac ++ 32 ∷ flow_text e.flow ++ 32 ∷ e.node

-- the end that sent an SDU, and the SDU's number, tick and bytes
unfoldable pub sent_text : End → Row → List ℕ
sent_text e row = end_text e ++ spaced (num_text row.sent.num ∷ decimal row.sent.at ∷ decimal row.sent.len ∷ [])

-- the line of an SDU
abbrev pub row_text : List Off → End → Row → List ℕ
row_text offs e row = sent_text e row ++ 32 ∷ fate_words offs row ++ 10 ∷ []

-- the mean delay, rounded down; - where nothing was got
abbrev pub mean_text : Sum → List ℕ
mean_text s = if s.got == 0 then codes "-" else decimal (s.total / s.got)

-- a name and a value, each with a space before it
unfoldable pub field_text : List ℕ → List ℕ → List ℕ
field_text name value = 32 ∷ name ++ 32 ∷ value

-- how many SDUs were sent and got, and the mean delay
unfoldable pub got_fields : Sum → List ℕ
got_fields s = field_text (codes "sent") (decimal s.sent) ++ field_text (codes "got") (decimal s.got) ++ field_text (codes "mean") (mean_text s)

-- the greatest delay, and how many SDUs were written off and neither
unfoldable pub other_fields : Sum → List ℕ
other_fields s = field_text (codes "greatest") (decimal s.greatest) ++ field_text (codes "off") (decimal s.off) ++ field_text (codes "unseen") (decimal s.unseen)

-- the line of a sum
abbrev pub sum_text : End → Sum → List ℕ
sum_text e s = codes "sum " ++ end_text e ++ got_fields s ++ other_fields s ++ 10 ∷ []

-- the lines of the SDUs that an end sent
abbrev pub end_lines : List End → List Off → End → List ℕ
end_lines ends offs e = flat_map (row_text offs e) (rows_of ends offs e)

abbrev pub sum_line : End → Sum → List ℕ
sum_line e s = if s.sent == 0 then [] else sum_text e s

-- the sum of an end that sent something
abbrev pub end_sum : List End → List Off → End → List ℕ
end_sum ends offs e = sum_line e (sum_of (rows_of ends offs e))

-- the names of the columns
unfoldable pub columns : List ℕ
columns = codes "facility flow from number sent bytes fate\n"

-- the names of the columns, the lines of all ends, and then their sums
abbrev pub table_text : List End → List Off → List ℕ
table_text ends offs = columns ++ flat_map (end_lines ends offs) ends ++ flat_map (end_sum ends offs) ends

-- the table of what notes show
abbrev pub lost_text : List Note → List ℕ
lost_text notes = table_text (ends_in notes) (offs_in notes)
