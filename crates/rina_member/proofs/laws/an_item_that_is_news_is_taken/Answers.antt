use Rattle.rina_member.proofs.Handled.{item_counts, takes_item}
use Rattle.rina_member.proofs.laws.an_item_that_is_news_is_taken.Goals as goal

pub returns-clause-takes : goal.returns-clause-takes
returns-clause-takes c = takes_item

pub returns-clause-counts : goal.returns-clause-counts
returns-clause-counts c = item_counts
