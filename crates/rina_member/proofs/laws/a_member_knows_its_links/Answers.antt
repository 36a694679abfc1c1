use Rattle.rina_member.proofs.Entering.{enters, makes_knowing}
use Rattle.rina_member.proofs.Knowing.{claims_knowing, joins_knowing, knows_count, knows_later, knows_live, knows_routes, sends_knowing, starts_knowing}
use Rattle.rina_member.proofs.Learning.{handles_knowing}
use Rattle.rina_member.proofs.Losing.{loses}
use Rattle.rina_member.proofs.laws.a_member_knows_its_links.Goals as goal

pub returns-clause-starts : goal.returns-clause-starts
returns-clause-starts c = starts_knowing

pub returns-clause-passes : goal.returns-clause-passes
returns-clause-passes c = knows_later

pub returns-clause-enters : goal.returns-clause-enters
returns-clause-enters c = enters

pub returns-clause-makes : goal.returns-clause-makes
returns-clause-makes c = makes_knowing

pub returns-clause-joins : goal.returns-clause-joins
returns-clause-joins c = λ now m links g link member node free live h. joins_knowing now m links g link free live h member node

pub returns-clause-claims : goal.returns-clause-claims
returns-clause-claims c = claims_knowing

pub returns-clause-loses : goal.returns-clause-loses
returns-clause-loses c = λ now m links g g' k link h stands live was. loses now m links g k link h stands live g' was

pub returns-clause-sends : goal.returns-clause-sends
returns-clause-sends c = sends_knowing

pub returns-clause-handles : goal.returns-clause-handles
returns-clause-handles c = handles_knowing

pub returns-clause-routes : goal.returns-clause-routes
returns-clause-routes c = knows_routes

pub returns-clause-live : goal.returns-clause-live
returns-clause-live c = knows_live

pub returns-clause-count : goal.returns-clause-count
returns-clause-count c = knows_count
