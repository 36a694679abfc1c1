use Rattle.rina_asks.proofs.Owning.{far_named, partners_named}
use Rattle.rina_asks.proofs.laws.partners_have_each_other.Goals as goal

pub returns : goal.returns
returns c = record { far = far_named; partners = partners_named }
