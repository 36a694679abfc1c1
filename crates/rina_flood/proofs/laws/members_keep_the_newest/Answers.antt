use Rattle.rina_flood.proofs.Settles.{newest_kept, order_is_nothing}
use Rattle.rina_flood.proofs.laws.members_keep_the_newest.Goals as goal

pub returns-clause-newest : goal.returns-clause-newest
returns-clause-newest c = newest_kept c.newest_of_all_takes.ensures.greatest

pub returns-clause-any_order : goal.returns-clause-any_order
returns-clause-any_order c = order_is_nothing c.newest_of_all_takes.ensures.any_order
