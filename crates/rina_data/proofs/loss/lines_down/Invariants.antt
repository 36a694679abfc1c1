use Rattle.std.proofs.Common.{◌≡◌, take}
use Rattle.rina_data.proofs.Downed.{LinesOf}
use Rattle.rina_data.proofs.loss.lines_down.Given as goal

abbrev pub invariant-loop-queue : goal.invariant-loop-queue
invariant-loop-queue l = l.lines.items ≡ LinesOf l.link (take l.queue-index l.queues)
