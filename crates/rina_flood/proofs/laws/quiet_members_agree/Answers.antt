use Rattle.rina_flood.proofs.Settles.{directions_owe, quiet_equal}
use Rattle.rina_flood.proofs.laws.quiet_members_agree.Goals as goal

pub returns-clause-owed : goal.returns-clause-owed
returns-clause-owed c = directions_owe

pub returns-clause-equal : goal.returns-clause-equal
returns-clause-equal c = quiet_equal c.newest_of_all_takes.ensures.greatest
