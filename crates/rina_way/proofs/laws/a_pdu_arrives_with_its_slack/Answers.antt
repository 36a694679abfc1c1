use Rattle.rina_way.proofs.Travelling.{foretold, foretold_nowhere}
use Rattle.rina_way.proofs.laws.a_pdu_arrives_with_its_slack.Goals as goal

pub returns-clause-nowhere : goal.returns-clause-nowhere
returns-clause-nowhere c = foretold_nowhere

pub returns-clause-waiting : goal.returns-clause-waiting
returns-clause-waiting c = foretold
