use Rattle.std.proofs.Common.{◌≡◌, ◌-◌, length}
use Rattle.rina_notes.specs.Look.{ends_at, HaveTold}
use Rattle.rina_notes.proofs.label_note.tell_labels.Given as goal

abbrev pub invariant-labels : goal.invariant-labels
invariant-labels l = record {
  row : l.row.ends.now ≡ ends_at l.tower l.row.rank l.row.fac;
  told : HaveTold l.line.plan.now l.line.number l.tower l.fn.labels l.fn.trace l.at l.labels l.trace;
}

abbrev pub decreases-labels : goal.decreases-labels
decreases-labels l = length l.labels - l.at
