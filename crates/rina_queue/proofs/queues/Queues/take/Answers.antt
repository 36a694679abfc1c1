-- The queue that is taken from keeps its room, its link and its id.
use Rattle.std.proofs.Common.{ap}
use Rattle.rina_queue.proofs.Cubes.{own_taken}
use Rattle.rina_queue.proofs.Rises.{rise_put}
use Rattle.rina_queue.proofs.Rooms.{room_put}
use Rattle.rina_queue.proofs.queues.Queues.take.Goals as goal

pub invariant_of-self : goal.invariant_of-self
invariant_of-self c = record { caps = room_put c.args.self.now.cap c.args.self.now.queues.items c.in-Some.at c.index_mut.result.now c.take.new.self c.args.self.now.caps (rw c.as_slice.ensures.value at c.in-Some.ensures.within) c.index_mut.ensures.value (ap (λ q. q.ring.capacity) c.take.ensures.rest); ids = c.args.self.now.ids; rising = rise_put c.args.self.now.queues.items c.in-Some.at c.index_mut.result.now c.take.new.self c.args.self.now.rising (rw c.as_slice.ensures.value at c.in-Some.ensures.within) c.index_mut.ensures.value (ap (λ q. q.link) c.take.ensures.rest) (ap (λ q. q.qos) c.take.ensures.rest); own = own_taken c.args.self.now.queues.items c.in-Some.at c.index_mut.result.now c.take.new.self c.args.self.now.own (rw c.as_slice.ensures.value at c.in-Some.ensures.within) c.index_mut.ensures.value c.take.ensures.rest }
