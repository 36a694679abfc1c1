use Rattle.std.proofs.Common.{◌≡◌, drop}
use Rattle.rina_chart.specs.Events.{last_mark}
use Rattle.rina_chart.proofs.event.last_mark.Given as goal

abbrev pub invariant-marks : goal.invariant-marks
invariant-marks l = last_mark l.last (drop l.mark-index l.marks) ≡ last_mark l.first l.marks
