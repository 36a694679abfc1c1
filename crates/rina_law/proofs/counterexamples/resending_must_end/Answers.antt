use Rattle.rina_law.proofs.Broken.{late_resending, late_resending_long}
use Rattle.rina_law.proofs.counterexamples.resending_must_end.Goals as goal

pub returns : goal.returns
returns c = record { next = late_resending; promise = late_resending_long }
