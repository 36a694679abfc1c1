use Rattle.rina_law.proofs.Broken.{early_beginning, early_beginning_last}
use Rattle.rina_law.proofs.counterexamples.sender_must_outlive_state.Goals as goal

pub returns : goal.returns
returns c = record { two = early_beginning; last = early_beginning_last }
