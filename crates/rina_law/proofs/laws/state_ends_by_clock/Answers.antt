use Rattle.rina_law.proofs.Making.{spent_present}
use Rattle.rina_law.proofs.Suffices.{state_ends}
use Rattle.rina_law.proofs.laws.state_ends_by_clock.Goals as goal

pub returns : goal.returns
returns c = record { absent = state_ends; spent = spent_present }
