use Rattle.std.proofs.Common.{◌≡◌, ◌++◌, drop}
use Rattle.std.specs.List.{filter_map}
use Rattle.rina_chart.specs.Events.{failed_at}
use Rattle.rina_chart.proofs.event.add_failed.Given as goal

abbrev pub invariant-marks : goal.invariant-marks
invariant-marks l = l.events ++ filter_map (failed_at l.at) (drop l.mark-index l.marks) ≡ l.initial.events ++ filter_map (failed_at l.at) l.marks
