use Rattle.rina_dif.proofs.Kept.{members_agree, members_keep}
use Rattle.rina_dif.proofs.agreement.members_keep_the_newest_and_agree.Goals as goal

pub returns-clause-newest : goal.returns-clause-newest
returns-clause-newest c = members_keep c.members_keep_the_newest.ensures.newest

pub returns-clause-agree : goal.returns-clause-agree
returns-clause-agree c = members_agree c.members_are_a_network.ensures.quiet
