use Rattle.rina_flood.proofs.Gone.{lost_is_gone}
use Rattle.rina_flood.proofs.Told.{quiet_tells}
use Rattle.rina_flood.proofs.laws.lost_links_are_told.Goals as goal

pub returns-clause-quiet : goal.returns-clause-quiet
returns-clause-quiet c = quiet_tells c.newest_of_all_takes.ensures.greatest

pub returns-clause-gone : goal.returns-clause-gone
returns-clause-gone c = lost_is_gone
