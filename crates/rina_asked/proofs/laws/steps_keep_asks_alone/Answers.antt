use Rattle.rina_asked.specs.Alone.{AreAlone}
use Rattle.rina_asked.proofs.Calls.{out_keeps, time_keeps}
use Rattle.rina_asked.proofs.Clocks.{clock_keeps}
use Rattle.rina_asked.proofs.Ins.{in_keeps_alone}
use Rattle.rina_asked.proofs.Quiet.{alone_lasts}
use Rattle.rina_asked.proofs.laws.steps_keep_asks_alone.Goals as goal

pub returns : goal.returns
returns c = record { coming = in_keeps_alone; going = out_keeps AreAlone alone_lasts; clock = clock_keeps AreAlone alone_lasts; time = time_keeps AreAlone alone_lasts }
