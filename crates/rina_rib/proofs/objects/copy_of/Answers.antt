use Rattle.rina_rib.proofs.Seen.{if_copied}
use Rattle.rina_rib.proofs.objects.copy_of.Goals as goal

pub returns : goal.returns
returns c = if_copied c.clone.result c.args.objects.now.entries _ c.clone.ensures.cases
