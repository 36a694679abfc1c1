-- Printed notes.
use Rattle.std.specs.Prelude.{ℕ, List, [], ◌∷◌, ◌++◌, codes}
use Rattle.std.specs.Fmt.{decimal}
use Rattle.std.specs.List.{flat_map}
use Rattle.rina_schedule.specs.Spelling.{spaced}
use Rattle.rina_report.specs.declared.note.Fault.{Fault}
use Rattle.rina_report.specs.declared.note.Fault.TheVariants as faults
use Rattle.rina_report.specs.declared.note.Note.{Note}
use Rattle.rina_report.specs.declared.note.Note.TheVariants as notes
use Rattle.rina_report.specs.Answers.{answer_fields}

-- the name of a fault
unfoldable pub fault_word : Fault → List ℕ
fault_word (faults.Usage _) = codes "Usage"
fault_word faults.TooLarge = codes "TooLarge"
fault_word faults.NotToml = codes "NotToml"
fault_word (faults.StackRule _ _) = codes "StackRule"
fault_word (faults.Schedule _ _ _) = codes "Schedule"
fault_word faults.ReadFault = codes "ReadFault"

-- the fields of a fault
unfoldable pub fault_values : Fault → List (List ℕ)
fault_values (faults.Usage word) = decimal word ∷ []
fault_values (faults.StackRule n item) = decimal n ∷ decimal item ∷ []
fault_values (faults.Schedule line n field) = decimal line ∷ decimal n ∷ decimal field ∷ []
fault_values _ = []

-- the last fields of the summary of a generated run
unfoldable pub told_fields : ℕ → ℕ → ℕ → ℕ → ℕ → List (List ℕ)
told_fields sent got refused off failed =
    codes "sent" ∷ decimal sent ∷ codes "got" ∷ decimal got ∷ codes "refused" ∷ decimal refused
    ∷ codes "off" ∷ decimal off ∷ codes "failed" ∷ decimal failed ∷ []

-- a note without the end of its line
unfoldable pub note_text : Note → List ℕ
note_text (notes.Line line tick answer) = decimal line ++ spaced (decimal tick ∷ answer_fields answer)
note_text (notes.End tick) = codes "end" ++ spaced (decimal tick ∷ [])
note_text (notes.Fault fault) = codes "fault" ++ spaced (fault_word fault ∷ fault_values fault)
note_text (notes.Checked nodes wires difs lines) = codes "checked" ++ spaced (decimal nodes ∷ decimal wires ∷ decimal difs ∷ decimal lines ∷ [])
note_text (notes.Gen n lines tick sent got refused off failed) =
    codes "gen" ++ spaced (decimal n ∷ codes "lines" ∷ decimal lines ∷ codes "tick" ∷ decimal tick ∷ told_fields sent got refused off failed)

-- a note and the end of its line
abbrev pub line_of : Note → List ℕ
line_of note = note_text note ++ 10 ∷ []

-- the output of a run: the text of each note and an LF
abbrev pub text_of : List Note → List ℕ
text_of notes = flat_map line_of notes
