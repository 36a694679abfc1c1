use Rattle.std.proofs.Common.{sym, ◌∙◌}
use Rattle.std.proofs.lemmas.List.Folds.{list_all-map}
use Rattle.toml.specs.View.{view}
use Rattle.rina_table.specs.Values.{is_table}
use Rattle.rina_table.proofs.value.are_tables.Goals as goal

pub returns : goal.returns
returns c = c.are_tables_here.ensures ∙ sym (list_all-map is_table view c.args.values.now)
