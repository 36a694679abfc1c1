-- So far the flows of these DIFs have their labels.
use Rattle.std.specs.List.{range_with_len}
use Rattle.rina_run.specs.Opening.{AreLabelsOf}
use Rattle.rina_run.proofs.opening.open_labels.Given as goal

abbrev pub invariant-difs : goal.invariant-difs
invariant-difs l = AreLabelsOf l.plan l.tower (range_with_len 0 l.at) l.labels
