use Rattle.std.proofs.Common.{◌≡◌, ◌++◌, drop}
use Rattle.rina_view.specs.Shown.{ends_in}
use Rattle.rina_view.proofs.gather.ends_in.Given as goal

abbrev pub invariant-notes : goal.invariant-notes
invariant-notes l = record {
  place : l.at ≡ l.note-index;
  shown : l.ends ++ ends_in (drop l.note-index l.notes) ≡ ends_in l.notes;
}
