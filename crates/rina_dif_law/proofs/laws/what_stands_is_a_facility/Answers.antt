use Rattle.rina_dif_law.proofs.Keepers.{facility}
use Rattle.rina_dif_law.proofs.laws.what_stands_is_a_facility.Goals as goal

pub returns : goal.returns
returns c = facility
