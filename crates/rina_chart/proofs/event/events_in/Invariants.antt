use Rattle.std.proofs.Common.{◌≡◌, ◌≤◌, ◌-◌, ◌++◌}
use Rattle.std.specs.List.{flat_map, range_with_len}
use Rattle.rina_chart.specs.Events.{events_at}
use Rattle.rina_chart.proofs.event.events_in.Given as goal

abbrev pub invariant-ticks : goal.invariant-ticks
invariant-ticks l = record {
  within : l.at ≤ l.end;
  made : l.events ++ flat_map (events_at l.marks l.sdus) (range_with_len l.at (l.end - l.at)) ≡ flat_map (events_at l.marks l.sdus) (range_with_len 0 l.end);
}

abbrev pub decreases-ticks : goal.decreases-ticks
decreases-ticks l = l.end - l.at
