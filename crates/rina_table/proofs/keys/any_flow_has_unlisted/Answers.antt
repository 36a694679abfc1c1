use Rattle.std.proofs.Common.{sym, ◌∙◌}
use Rattle.toml.specs.View.{view}
use Rattle.rina_table.specs.Keys.{flow_has_unlisted}
use Rattle.rina_table.proofs.Tables.{list_any_map}
use Rattle.rina_table.proofs.keys.any_flow_has_unlisted.Goals as goal

pub returns : goal.returns
returns c = c.any_flow_value_has_unlisted.ensures ∙ sym (list_any_map flow_has_unlisted view c.args.values.now)
