use Rattle.rina_asks.proofs.Owning.{bound_fresh, bound_alone}
use Rattle.rina_asks.proofs.laws.bound_ends_are_fresh.Goals as goal

pub returns : goal.returns
returns c = record { fresh = bound_fresh; alone = bound_alone }
