use Rattle.rina_asked.specs.Single.{AreSingle}
use Rattle.rina_asked.proofs.Calls.{out_keeps, time_keeps}
use Rattle.rina_asked.proofs.Clocks.{clock_keeps}
use Rattle.rina_asked.proofs.Ins.{in_keeps_single}
use Rattle.rina_asked.proofs.Once.{single_lasts}
use Rattle.rina_asked.proofs.laws.steps_keep_messages_single.Goals as goal

pub returns : goal.returns
returns c = record { coming = in_keeps_single; going = out_keeps AreSingle single_lasts; clock = clock_keeps AreSingle single_lasts; time = time_keeps AreSingle single_lasts }
