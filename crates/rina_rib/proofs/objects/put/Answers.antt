use Rattle.std.proofs.Common.{◌∙◌, ap}
use Rattle.rina_rib.specs.Objects.{seen}
use Rattle.rina_rib.proofs.Seen.{Entries, insert-seen}
use Rattle.rina_rib.proofs.objects.put.Goals as goal

pub returns-in-Ok-clause-ok : goal.returns-in-Ok-clause-ok
returns-in-Ok-clause-ok c = ap (λ (es : Entries). seen es) c.in-Ok.ensures.entries ∙ insert-seen c.args.objects.now.entries c.args.name c.args.kept
