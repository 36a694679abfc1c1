use Rattle.std.proofs.Common.{sym, ◌∙◌}
use Rattle.toml.specs.View.{view}
use Rattle.rina_table.specs.Keys.{has_unlisted}
use Rattle.rina_table.proofs.Tables.{list_any_map}
use Rattle.rina_table.proofs.keys.any_has_unlisted.Goals as goal

pub returns : goal.returns
returns c = c.any_value_has_unlisted.ensures ∙ sym (list_any_map (has_unlisted c.args.of) view c.args.values.now)
