-- The queues of the cubes so far are made.
use Rattle.std.proofs.Common.{◌≡◌, take}
use Rattle.rina_queue.specs.Queues.{no_queues}
use Rattle.rina_queue.proofs.queues.make.Given as goal

abbrev pub invariant-loop-qos : goal.invariant-loop-qos
invariant-loop-qos l = l.queues.items ≡ no_queues l.cap l.link (take l.qos-index l.cubes)
