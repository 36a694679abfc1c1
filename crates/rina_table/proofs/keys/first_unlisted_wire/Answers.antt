use Rattle.std.proofs.Common.{sym, ◌∙◌}
use Rattle.toml.specs.View.{view}
use Rattle.rina_table.specs.Keys.{wire_has_unlisted}
use Rattle.rina_table.proofs.Tables.{position_map}
use Rattle.rina_table.proofs.keys.first_unlisted_wire.Goals as goal

pub returns-clause-place : goal.returns-clause-place
returns-clause-place c = c.first_value_of_unlisted_wire.ensures.place ∙ sym (position_map wire_has_unlisted view c.args.values.now)
