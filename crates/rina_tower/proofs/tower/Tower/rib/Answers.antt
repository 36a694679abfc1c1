use Rattle.rina_tower.proofs.Shows.{shows_there}
use Rattle.rina_tower.proofs.Owned.{dif_there, member_there, own_valid, rank_valid}
use Rattle.rina_tower.proofs.tower.Tower.rib.Goals as goal

pub rib-requires-clause-valid : goal.rib-requires-clause-valid
rib-requires-clause-valid c =
    let t = c.in-Some.rank.now in
    own_valid t c.args.dif c.in-Some-top_dif.dif.now (rank_valid c.args.self.now c.args.r t c.requires.tower c.in-Some.ensures) c.in-Some-top_dif.ensures

pub returns-clause-does : goal.returns-clause-does
returns-clause-does c =
    let d = c.in-Some-top_dif.dif.now in
    let there = dif_there c.args.self.now c.args.r c.args.dif c.in-Some.rank.now d c.in-Some.ensures c.in-Some-top_dif.ensures in
    let member = member_there c.args.self.now c.args.r c.args.dif c.args.node d there in
    shows_there c.args.self.now c.args.r c.args.dif c.args.node c.args.under.now d c.rib.result there member c.rib.ensures
