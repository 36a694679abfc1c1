use Rattle.rina_dif_law.proofs.Stepping.{can_go}
use Rattle.rina_dif_law.proofs.laws.what_stands_can_step.Goals as goal

pub returns : goal.returns
returns c = can_go
