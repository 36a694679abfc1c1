use Rattle.rina_rest.proofs.Broken.{old_ask_breaks}
use Rattle.rina_rest.proofs.counterexamples.old_ask_must_make_no_far_end.Goals as goal

pub returns : goal.returns
returns c = old_ask_breaks
