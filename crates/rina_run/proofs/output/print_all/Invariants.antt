use Rattle.std.proofs.Common.{◌≡◌, take}
use Rattle.rina_report.specs.Notes.{text_of}
use Rattle.rina_run.proofs.output.print_all.Given as goal

abbrev pub invariant-notes : goal.invariant-notes
invariant-notes l = l.text ≡ text_of (take l.note-index l.notes)
