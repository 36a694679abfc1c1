use Rattle.std.proofs.Common.{◌≡◌, ◌++◌, map, take, drop}
use Rattle.rina_queue.specs.Queues.{emptied}
use Rattle.rina_queue.proofs.queues.empty_all.Given as goal

abbrev pub invariant-loop-queue : goal.invariant-loop-queue
invariant-loop-queue l = l.queue-items ≡ map (emptied l.link) (take l.queue-index l.initial.queue-items) ++ drop l.queue-index l.initial.queue-items
