use Rattle.rina_law.proofs.Broken.{false_flag}
use Rattle.rina_law.proofs.counterexamples.flag_must_be_true.Goals as goal

pub returns : goal.returns
returns c = false_flag
