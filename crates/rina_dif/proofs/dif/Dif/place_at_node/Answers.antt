use Rattle.std.proofs.Common.{◌∙◌}
use Rattle.rina_dif.proofs.Keeping.{home_is}
use Rattle.rina_dif.proofs.dif.Dif.place_at_node.Goals as goal

pub returns-clause-place : goal.returns-clause-place
returns-clause-place c = rw c.as_slice.ensures at c.place.ensures.place ∙ home_is c.args.node c.args.self.now.settings.members
