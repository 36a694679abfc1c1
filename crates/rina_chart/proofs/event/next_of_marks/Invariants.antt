use Rattle.std.proofs.Common.{◌≡◌, ℕ, ◌≤◌, ◌<◌, [], take}
use Rattle.std.specs.List.{filter_map}
use Rattle.rina_chart.specs.Events.{failed_at}
use Rattle.rina_chart.proofs.event.next_of_marks.Given as goal

abbrev pub invariant-marks : goal.invariant-marks
invariant-marks l = record {
  later : l.at ≤ l.next;
  within : l.next ≤ l.end;
  silent : (k : ℕ) → l.at ≤ k → k < l.next → filter_map (failed_at k) (take l.mark-index l.marks) ≡ [];
}
