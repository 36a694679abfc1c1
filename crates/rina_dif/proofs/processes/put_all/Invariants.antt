-- The PDUs so far are put, and the rest are left.
use Rattle.std.proofs.Common.{◌≡◌, ◌++◌}
use Rattle.rina_queue.specs.declared.queue.Queue.{Queue}
use Rattle.rina_queue.specs.Queues.{Changes, with_items}
use Rattle.rina_dif.specs.Sending.{queued}
use Rattle.rina_dif.proofs.processes.put_all.Given as goal

abbrev pub invariant-loop-pdu : goal.invariant-loop-pdu
invariant-loop-pdu l = record {
  put : Changes l.qos l.link (λ (q : Queue). with_items (q.ring.items ++ queued l.left l.since l.yielded) q) l.fn.queues.queues.items l.queues.queues.items;
  all : l.yielded ++ l.pdu-iterator.rest.items ≡ l.fn.pdus.items;
  cap : l.queues.cap ≡ l.fn.queues.cap;
  cubes : l.queues.cubes ≡ l.fn.queues.cubes;
}
