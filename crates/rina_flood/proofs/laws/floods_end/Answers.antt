use Rattle.rina_flood.proofs.Settles.{only_made, flood_not_back}
use Rattle.rina_flood.proofs.laws.floods_end.Goals as goal

pub returns-clause-made : goal.returns-clause-made
returns-clause-made c = only_made

pub returns-clause-not_back : goal.returns-clause-not_back
returns-clause-not_back c = flood_not_back
