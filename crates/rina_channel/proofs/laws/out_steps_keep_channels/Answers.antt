use Rattle.rina_channel.proofs.Going.{outs_stand}
use Rattle.rina_channel.proofs.laws.out_steps_keep_channels.Goals as goal

pub returns : goal.returns
returns c = outs_stand
