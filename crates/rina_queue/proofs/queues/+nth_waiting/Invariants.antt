-- The queues grow fewer.
use Rattle.std.proofs.Common.{length}
use Rattle.rina_queue.proofs.queues.+nth_waiting.Given as goal

abbrev pub decreases-nth_waiting : goal.decreases-nth_waiting
decreases-nth_waiting l = length l.queues.now
