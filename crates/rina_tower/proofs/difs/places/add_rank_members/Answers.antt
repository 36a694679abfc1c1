use Rattle.rina_tower.proofs.Listing.{member_added, members_added, its_number}
use Rattle.rina_tower.proofs.difs.places.add_rank_members.Goals as goal

pub loop-dif-preserved : goal.loop-dif-preserved
loop-dif-preserved c = member_added c.args.rank c.loop-dif.dif-index c.args.difs.now c.dif-item.result c.dif-item.result c.args.places.now c.loop-dif.places c.add_dif_members.new.places c.loop-dif-test.true c.dif-item.is (its_number c.args.difs.now c.loop-dif.dif-index c.dif-item.result c.loop-dif-test.true c.dif-item.is c.requires) c.in_ok-add_dif_members.ensures c.loop-dif.invariant

pub returns : goal.returns
returns c = members_added c.args.rank c.loop-dif.dif-index c.args.difs.now c.args.places.now c.loop-dif.places c.loop-dif-test.false c.loop-dif.invariant
