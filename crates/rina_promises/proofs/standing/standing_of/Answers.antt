use Rattle.rina_promises.proofs.Standings.{standing_there, standing_valid}
use Rattle.rina_promises.proofs.standing.standing_of.Goals as goal

pub returns-clause-stands : goal.returns-clause-stands
returns-clause-stands c = standing_there c.args.tower.now c.args.r c.args.fac c.in_ok-rank.rank.now c.top_standing.result c.in_ok-rank.ensures c.top_standing.ensures

pub returns-clause-below : goal.returns-clause-below
returns-clause-below c = standing_valid c.args.tower.now c.args.r c.args.fac c.in_ok-rank.rank.now c.top_standing.result c.requires c.in_ok-rank.ensures c.top_standing.ensures
