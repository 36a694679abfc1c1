use Rattle.rina_law.proofs.Broken.{early_end, early_end_last}
use Rattle.rina_law.proofs.counterexamples.state_must_outlive_copies.Goals as goal

pub returns : goal.returns
returns c = record { mpl = early_end; promise = early_end_last }
