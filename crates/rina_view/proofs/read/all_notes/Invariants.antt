use Rattle.std.proofs.Common.{◌≡◌, ◌+◌, drop}
use Rattle.rina_base.specs.Traverse.{traverse}
use Rattle.rina_base.proofs.Loop.{with_front}
use Rattle.rina_view.specs.Reading.{note_in}
use Rattle.rina_view.proofs.LinesLent.{bytes_of}
use Rattle.rina_view.proofs.read.all_notes.Given as goal

abbrev pub invariant-lines : goal.invariant-lines
invariant-lines l = record {
  place : l.number ≡ 1 + l.line-index;
  read : with_front l.notes (traverse note_in l.number (drop l.line-index (bytes_of l.lines))) ≡ traverse note_in 1 (bytes_of l.lines);
}
