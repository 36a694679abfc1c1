use Rattle.std.proofs.Common.{◌≡◌, ◌++◌, drop}
use Rattle.rina_view.specs.Shown.{entries_in}
use Rattle.rina_view.proofs.gather.entries_in.Given as goal

abbrev pub invariant-notes : goal.invariant-notes
invariant-notes l = l.entries ++ entries_in l.kind (drop l.note-index l.notes) ≡ entries_in l.kind l.notes
