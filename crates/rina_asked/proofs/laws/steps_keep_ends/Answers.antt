use Rattle.rina_asked.specs.Ends.{HaveEnds}
use Rattle.rina_asked.proofs.Calls.{out_keeps, time_keeps}
use Rattle.rina_asked.proofs.Clocks.{clock_keeps}
use Rattle.rina_asked.proofs.Ins.{in_keeps_ends}
use Rattle.rina_asked.proofs.Quiet.{ends_last}
use Rattle.rina_asked.proofs.laws.steps_keep_ends.Goals as goal

pub returns : goal.returns
returns c = record { coming = in_keeps_ends; going = out_keeps HaveEnds ends_last; clock = clock_keeps HaveEnds ends_last; time = time_keeps HaveEnds ends_last }
