use Rattle.std.proofs.Common.{◌≡◌, ◌++◌, drop}
use Rattle.rina_view.specs.Shown.{offs_in}
use Rattle.rina_view.proofs.gather.offs_in.Given as goal

abbrev pub invariant-notes : goal.invariant-notes
invariant-notes l = l.offs ++ offs_in (drop l.note-index l.notes) ≡ offs_in l.notes
