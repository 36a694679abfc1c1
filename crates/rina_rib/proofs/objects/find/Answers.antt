use Rattle.std.proofs.Common.{◌∙◌}
use Rattle.rina_rib.proofs.Seen.{lookup-seen}
use Rattle.rina_rib.proofs.objects.find.Goals as goal

pub returns : goal.returns
returns c = c.get.ensures.value ∙ lookup-seen c.args.objects.now.entries c.args.name.now
