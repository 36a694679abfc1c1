use Rattle.std.proofs.Common.{◌≡◌, ◌++◌, drop}
use Rattle.std.specs.List.{filter}
use Rattle.rina_chart.specs.Events.{is_shown_mark}
use Rattle.rina_chart.proofs.event.shown_marks.Given as goal

abbrev pub invariant-marks : goal.invariant-marks
invariant-marks l = l.shown ++ filter (is_shown_mark l.window) (drop l.mark-index l.marks) ≡ filter (is_shown_mark l.window) l.marks
