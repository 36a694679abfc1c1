use Rattle.std.proofs.Common.{◌∙◌, ap}
use Rattle.rina_rib.specs.Objects.{seen}
use Rattle.rina_rib.proofs.Seen.{Entries, remove-seen}
use Rattle.rina_rib.proofs.objects.take_out.Goals as goal

pub returns : goal.returns
returns c = ap (λ (es : Entries). seen es) c.remove.ensures.entries ∙ remove-seen c.args.objects.now.entries c.args.name.now
