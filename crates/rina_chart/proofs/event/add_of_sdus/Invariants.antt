use Rattle.std.proofs.Common.{◌≡◌, ◌++◌, drop}
use Rattle.std.specs.List.{filter_map}
use Rattle.rina_chart.specs.Events.{event_at}
use Rattle.rina_chart.proofs.event.add_of_sdus.Given as goal

abbrev pub invariant-sdus : goal.invariant-sdus
invariant-sdus l = l.events ++ filter_map (event_at l.at) (drop l.sdu-index l.sdus) ≡ l.initial.events ++ filter_map (event_at l.at) l.sdus
