use Rattle.rina_law.proofs.Suffices.{acks_mean}
use Rattle.rina_law.proofs.laws.acks_mean_delivery.Goals as goal

pub returns : goal.returns
returns c = acks_mean
