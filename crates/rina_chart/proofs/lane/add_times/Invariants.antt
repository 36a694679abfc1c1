use Rattle.std.proofs.Common.{◌≡◌, ◌++◌, replicate}
use Rattle.rina_chart.proofs.lane.add_times.Given as goal

abbrev pub invariant-bytes : goal.invariant-bytes
invariant-bytes l = l.text ≡ l.initial.text ++ replicate l._place l.byte
