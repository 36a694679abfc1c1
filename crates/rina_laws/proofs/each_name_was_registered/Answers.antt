-- Names of DIFs were registered by lines.
use Rattle.rina_laws.proofs.NamedRun.{names_are_registered}
use Rattle.rina_laws.proofs.each_name_was_registered.Goals as goal

pub returns : goal.returns
returns c = names_are_registered
