use Rattle.std.proofs.Common.{◌≡◌, ◌+◌, map, drop}
use Rattle.rina_base.specs.Traverse.{traverse}
use Rattle.rina_base.proofs.Loop.{with_front}
use Rattle.toml.specs.View.{view}
use Rattle.rina_table.proofs.rows.items_from.Given as goal

abbrev pub invariant-values : goal.invariant-values
invariant-values g l = record {
  place : l.at ≡ l.first + l.value-index;
  read : with_front l.read (traverse (g.T.Row.reads_as l.scope) l.at (drop l.value-index (map view l.values))) ≡ traverse (g.T.Row.reads_as l.scope) l.first (map view l.values);
}
