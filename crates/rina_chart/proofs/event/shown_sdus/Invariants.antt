use Rattle.std.proofs.Common.{◌≡◌, ◌++◌, drop}
use Rattle.std.specs.List.{filter}
use Rattle.rina_chart.specs.Events.{is_shown}
use Rattle.rina_chart.proofs.event.shown_sdus.Given as goal

abbrev pub invariant-sdus : goal.invariant-sdus
invariant-sdus l = l.shown ++ filter (is_shown l.window) (drop l.sdu-index l.sdus) ≡ filter (is_shown l.window) l.sdus
