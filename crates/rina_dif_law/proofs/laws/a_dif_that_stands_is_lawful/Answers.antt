use Rattle.rina_dif_law.proofs.Lawfully.{are_lawful}
use Rattle.rina_dif_law.proofs.laws.a_dif_that_stands_is_lawful.Goals as goal

pub returns : goal.returns
returns c = are_lawful
