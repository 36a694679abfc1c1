-- The law of any takes.
use Rattle.rina_newest.proofs.Takes.{newest, any_order}
use Rattle.rina_newest.proofs.law.newest_of_all_takes.Goals as goal

pub returns-clause-greatest : goal.returns-clause-greatest
returns-clause-greatest c = newest

pub returns-clause-any_order : goal.returns-clause-any_order
returns-clause-any_order c = any_order
