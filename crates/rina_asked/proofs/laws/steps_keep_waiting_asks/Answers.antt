use Rattle.rina_asked.proofs.Awaits.{out_awaited, time_awaited}
use Rattle.rina_asked.proofs.OwnIns.{clock_awaited, in_awaited}
use Rattle.rina_asked.proofs.laws.steps_keep_waiting_asks.Goals as goal

pub returns : goal.returns
returns c = record { coming = in_awaited; going = out_awaited; clock = clock_awaited; time = time_awaited }
