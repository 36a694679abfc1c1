-- So far these notes are counted.
use Rattle.std.proofs.Common.{◌≡◌, ◌≤◌, take}
use Rattle.std.specs.Prelude.{count_by}
use Rattle.rina_run.specs.Drawn.{is_refused}
use Rattle.rina_run.proofs.summary.count_refused.Given as goal

abbrev pub invariant-notes : goal.invariant-notes
invariant-notes l = record {
  count : l.count ≡ count_by is_refused (take l.note-index l.notes);
  few : l.count ≤ l.note-index;
}
