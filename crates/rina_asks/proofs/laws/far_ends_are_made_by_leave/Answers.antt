use Rattle.rina_asks.proofs.Making.{accepted_fresh, made_allowed}
use Rattle.rina_asks.proofs.laws.far_ends_are_made_by_leave.Goals as goal

pub returns : goal.returns
returns c = record { allowed = made_allowed; fresh = accepted_fresh }
