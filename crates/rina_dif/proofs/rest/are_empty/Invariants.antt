use Rattle.std.proofs.Common.{◌≡◌, []}
use Rattle.rina_queue.specs.declared.queue.Queue.{Queue}
use Rattle.rina_dif.proofs.Rested.{SoFar}
use Rattle.rina_dif.proofs.rest.are_empty.Given as goal

abbrev pub invariant-loop-place : goal.invariant-loop-place
invariant-loop-place l = SoFar (λ (q : Queue). q.ring.items ≡ []) l.queues l.place
