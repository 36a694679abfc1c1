use Rattle.rina_enrolled.proofs.Enrolled.{both_have_link, none_is_lost}
use Rattle.rina_enrolled.proofs.an_enrolled_joiner_has_all.Goals as goal

pub returns-clause-none_is_lost : goal.returns-clause-none_is_lost
returns-clause-none_is_lost c = none_is_lost

pub returns-clause-both_have_link : goal.returns-clause-both_have_link
returns-clause-both_have_link c = both_have_link
