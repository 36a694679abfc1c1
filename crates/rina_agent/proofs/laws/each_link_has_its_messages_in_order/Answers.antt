use Rattle.rina_agent.proofs.Lists.{put_waits_last, lent_is_first, not_back}
use Rattle.rina_agent.proofs.laws.each_link_has_its_messages_in_order.Goals as goal

pub returns-clause-last : goal.returns-clause-last
returns-clause-last c = put_waits_last

pub returns-clause-first : goal.returns-clause-first
returns-clause-first c = lent_is_first

pub returns-clause-not_back : goal.returns-clause-not_back
returns-clause-not_back c = not_back
