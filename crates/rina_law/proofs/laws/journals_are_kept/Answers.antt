use Rattle.rina_law.proofs.Suffices.{journals_kept}
use Rattle.rina_law.proofs.laws.journals_are_kept.Goals as goal

pub returns : goal.returns
returns c = journals_kept
