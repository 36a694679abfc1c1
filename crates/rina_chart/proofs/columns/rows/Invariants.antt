use Rattle.std.proofs.Common.{◌≡◌, ◌++◌, drop}
use Rattle.std.specs.List.{flat_map}
use Rattle.rina_chart.specs.Columns.{row_text}
use Rattle.rina_chart.proofs.columns.rows.Given as goal

abbrev pub invariant-events : goal.invariant-events
invariant-events l = l.text ++ flat_map (row_text l.width l.nodes) (drop l.event-index l.events) ≡ l.initial.text ++ flat_map (row_text l.width l.nodes) l.events
