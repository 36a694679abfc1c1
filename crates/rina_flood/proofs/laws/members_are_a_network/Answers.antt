use Rattle.rina_flood.proofs.Members.{start_run, goes_on_run, loses_run, makes_run, takes_run, offers_run, joins_run, claims_link_run}
use Rattle.rina_flood.proofs.Handled.{handles_run, passes_run}
use Rattle.rina_flood.proofs.Posted.{draws_run, posts_run}
use Rattle.rina_flood.proofs.Claiming.{quiet_claims}
use Rattle.rina_flood.proofs.Quiet.{quiet_agree}
use Rattle.rina_flood.proofs.laws.members_are_a_network.Goals as goal

pub returns-clause-start : goal.returns-clause-start
returns-clause-start c = start_run c.newest_of_all_takes.ensures.greatest

pub returns-clause-goes_on : goal.returns-clause-goes_on
returns-clause-goes_on c = goes_on_run

pub returns-clause-loses : goal.returns-clause-loses
returns-clause-loses c = loses_run

pub returns-clause-makes : goal.returns-clause-makes
returns-clause-makes c = makes_run

pub returns-clause-takes : goal.returns-clause-takes
returns-clause-takes c = takes_run

pub returns-clause-offers : goal.returns-clause-offers
returns-clause-offers c = offers_run

pub returns-clause-handles : goal.returns-clause-handles
returns-clause-handles c = handles_run

pub returns-clause-passes : goal.returns-clause-passes
returns-clause-passes c = passes_run

pub returns-clause-posts : goal.returns-clause-posts
returns-clause-posts c = posts_run

pub returns-clause-draws : goal.returns-clause-draws
returns-clause-draws c = draws_run

pub returns-clause-joins : goal.returns-clause-joins
returns-clause-joins c = joins_run

pub returns-clause-claims_link : goal.returns-clause-claims_link
returns-clause-claims_link c = claims_link_run

pub returns-clause-quiet : goal.returns-clause-quiet
returns-clause-quiet c = quiet_agree c.newest_of_all_takes.ensures.greatest

pub returns-clause-claims : goal.returns-clause-claims
returns-clause-claims c = quiet_claims c.newest_of_all_takes.ensures.greatest
