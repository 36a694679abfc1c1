use Rattle.rina_dif.proofs.GivenBack.{rests_at, rests_limits}
use Rattle.rina_dif.proofs.dif.Dif.rest_at.Goals as goal

pub delta-requires : goal.delta-requires
delta-requires c = rests_limits c.args.self.now c.requires.valid.0 c.args.at c.at.result.now c.requires.valid.1 c.at.ensures

pub returns : goal.returns
returns c = rests_at c.args.self.now c.requires.valid.0 c.args.at c.at.result.now c.delta.result c.requires.valid.1 c.at.ensures c.delta.ensures
