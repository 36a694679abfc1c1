use Rattle.std.proofs.Common.{◌∙◌, Some, sym}
use Rattle.rina_ids.proofs.Drawing.{free_within}
use Rattle.rina_ids.proofs.members.draw_next.Goals as goal

pub known-was-requires : goal.known-was-requires
known-was-requires c = (free_within c.args.ids.now.0 c.args.now c.args.ids.now.1 c.in-Some.next (sym c.free.ensures ∙ c.in-Some.is)).0
