use Rattle.rina_law.proofs.Reusing.{bounds_suffice}
use Rattle.rina_law.proofs.counterexamples.delta_t_suffices.Goals as goal

pub returns : goal.returns
returns c = bounds_suffice
