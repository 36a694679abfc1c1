use Rattle.std.proofs.Common.{◌≡◌, ℕ, ◌<◌, ◌≤◌, slice_get, Some}
use Rattle.rina_notes.specs.declared.label.Label.{Label}
use Rattle.rina_notes.specs.Look.{IsShownIn}
use Rattle.rina_notes.proofs.label_note.skip_shown.Given as goal

abbrev pub invariant-labels : goal.invariant-labels
invariant-labels l = (k : ℕ) (x : Label) → l.from ≤ k → k < l.at → slice_get l.labels k ≡ Some x → IsShownIn l.row.rank l.row.fac l.row.ends.now x
