use Rattle.std.proofs.Common.{◌∙◌}
use Rattle.rina_rib.proofs.Seen.{child-seen}
use Rattle.rina_rib.proofs.objects.has_children.Goals as goal

pub returns : goal.returns
returns c = c.any_child.ensures ∙ child-seen c.args.objects.now.entries c.args.name.now
