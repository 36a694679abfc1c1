use Rattle.rina_known.proofs.Finds.{asks_find, knows_find, requests_find}
use Rattle.rina_known.proofs.laws.allocate_finds_registered_names.Goals as goal

pub returns : goal.returns
returns c = record { known = knows_find; asked = asks_find; requested = requests_find }
