-- A text is read as a note exactly where it is the text of that note.
use Rattle.std.proofs.Common.{◌≡◌, List, ℕ, Result, Ok, sym, ap, ◌∙◌}
use Rattle.rina_schedule.specs.declared.error.LineError.{LineError}
use Rattle.rina_report.specs.declared.note.Note.{Note}
use Rattle.rina_report.specs.declared.note.Note.TheVariants as notes
use Rattle.rina_report.specs.Notes.{note_text}
use Rattle.rina_report.specs.Fields.{fields_of}
use Rattle.rina_report.specs.ReadNotes.{fields_note, note_at}
use Rattle.rina_report.specs.Ranges.{IsNote}
use Rattle.rina_report.proofs.Split.{fields_back, fields_are}
use Rattle.rina_report.proofs.Printed.{note_fields, note_back}
use Rattle.rina_report.proofs.Clear.{note_clear}
use Rattle.rina_report.proofs.Told.{fields_is}

-- the fields of a note's text
text_fields : (x : Note) → IsNote x → fields_of (note_text x) ≡ note_fields x
unfolding note_text
text_fields (notes.Line line tick answer) h = fields_back _ _ (note_clear (notes.Line line tick answer) h)
text_fields (notes.End tick) h = fields_back _ _ (note_clear (notes.End tick) h)
text_fields (notes.Fault fault) h = fields_back _ _ (note_clear (notes.Fault fault) h)
text_fields (notes.Checked nodes wires difs lines) h = fields_back _ _ (note_clear (notes.Checked nodes wires difs lines) h)
text_fields (notes.Gen n lines tick sent got refused off failed) h = fields_back _ _ (note_clear (notes.Gen n lines tick sent got refused off failed) h)

pub text_back : (x : Note) → IsNote x → note_at (note_text x) ≡ Ok x
unfolding note_at
text_back x h = ap fields_note (text_fields x h) ∙ note_back x h

fields_text : (x : Note) (text : List ℕ) → fields_of text ≡ note_fields x → text ≡ note_text x
unfolding note_text
fields_text (notes.Line line tick answer) text e = fields_are text _ _ e
fields_text (notes.End tick) text e = fields_are text _ _ e
fields_text (notes.Fault fault) text e = fields_are text _ _ e
fields_text (notes.Checked nodes wires difs lines) text e = fields_are text _ _ e
fields_text (notes.Gen n lines tick sent got refused off failed) text e = fields_are text _ _ e

pub text_is : (text : List ℕ) (x : Note) → note_at text ≡ Ok x → (text ≡ note_text x) × IsNote x
unfolding note_at
text_is text x e = (let p = fields_is (fields_of text) x e in (fields_text x text p.0, p.1))

-- no two notes have one text
pub text_one : (x other : Note) → IsNote x → IsNote other → note_text x ≡ note_text other → x ≡ other
text_one x other h g same = same_note x other (sym (text_back x h) ∙ ap note_at same ∙ text_back other g)
  where
    same_note : (a b : Note) → ◌≡◌ {A = Result Note LineError} (Ok a) (Ok b) → a ≡ b
    same_note a b e = cc
