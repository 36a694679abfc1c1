use Rattle.rina_flood.proofs.Coming.{what_comes}
use Rattle.rina_flood.proofs.laws.what_comes_was_made_by_a_member.Goals as goal

pub returns : goal.returns
returns c = what_comes c.newest_of_all_takes.ensures.greatest
