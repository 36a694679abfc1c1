use Rattle.rina_dif_law.proofs.Decided.{off_settles, relayed_settles}
use Rattle.rina_dif_law.proofs.laws.decisions_are_what_becomes.Goals as goal

pub returns-clause-relayed : goal.returns-clause-relayed
returns-clause-relayed c = relayed_settles

pub returns-clause-off : goal.returns-clause-off
returns-clause-off c = off_settles
