use Rattle.std.proofs.Common.{◌≡◌, map, drop}
use Rattle.rina_base.proofs.Loop.{with_front}
use Rattle.toml.specs.View.{view}
use Rattle.rina_table.specs.Values.{rows}
use Rattle.rina_table.proofs.rows.all_of.Given as goal

abbrev pub invariant-values : goal.invariant-values
invariant-values g l = with_front l.read (rows (g.T.Row.reads_as l.scope l.item) (drop l.value-index (map view l.values))) ≡ rows (g.T.Row.reads_as l.scope l.item) (map view l.values)
