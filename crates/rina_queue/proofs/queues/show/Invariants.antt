-- The heads of the queues so far are shown.
use Rattle.rina_queue.specs.Queues.{waits, head_of}
use Rattle.rina_queue.proofs.Shown.{IsShown}
use Rattle.rina_queue.proofs.queues.show.Given as goal

abbrev pub invariant-loop-queue : goal.invariant-loop-queue
invariant-loop-queue l = IsShown (waits l.link) head_of l.queues l.heads l.most l.count l.queue-index
