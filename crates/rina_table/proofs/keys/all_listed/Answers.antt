use Rattle.std.proofs.Common.{◌∙◌}
use Rattle.rina_table.specs.Keys.{is_key}
use Rattle.rina_table.proofs.Tables.{keys_all}
use Rattle.rina_table.proofs.keys.all_listed.Goals as goal

pub returns : goal.returns
returns c = c.each_is_listed.ensures ∙ keys_all (is_key c.args.of) c.args.table.now.entries
