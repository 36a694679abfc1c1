use Rattle.rina_route.proofs.Written.{written_claims, written_item}
use Rattle.rina_route.proofs.laws.what_is_written_is_claimed.Goals as goal

pub returns-clause-value : goal.returns-clause-value
returns-clause-value c = written_claims

pub returns-clause-item : goal.returns-clause-item
returns-clause-item c = written_item
