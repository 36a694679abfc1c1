use Rattle.rina_law.proofs.Suffices.{arrivals_welcome}
use Rattle.rina_law.proofs.laws.arrivals_are_welcome.Goals as goal

pub returns : goal.returns
returns c = arrivals_welcome
