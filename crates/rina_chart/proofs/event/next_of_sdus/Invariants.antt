use Rattle.std.proofs.Common.{◌≡◌, ℕ, ◌≤◌, ◌<◌, [], take}
use Rattle.std.specs.List.{filter_map}
use Rattle.rina_chart.specs.Events.{event_at}
use Rattle.rina_chart.proofs.event.next_of_sdus.Given as goal

abbrev pub invariant-sdus : goal.invariant-sdus
invariant-sdus l = record {
  later : l.at ≤ l.next;
  within : l.next ≤ l.end;
  silent : (k : ℕ) → l.at ≤ k → k < l.next → filter_map (event_at k) (take l.sdu-index l.sdus) ≡ [];
}
