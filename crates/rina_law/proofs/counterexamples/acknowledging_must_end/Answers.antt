use Rattle.rina_law.proofs.Broken.{late_ack, late_ack_first}
use Rattle.rina_law.proofs.counterexamples.acknowledging_must_end.Goals as goal

pub returns : goal.returns
returns c = record { state = late_ack; first = late_ack_first }
