-- The queue that is pushed to keeps its room, its link and its id.
use Rattle.rina_queue.proofs.Cubes.{own_pushed}
use Rattle.rina_queue.proofs.Rises.{rise_put}
use Rattle.rina_queue.proofs.Rooms.{room_put}
use Rattle.rina_queue.proofs.queues.Queues.push.Goals as goal

pub invariant_of-self : goal.invariant_of-self
invariant_of-self c = record { caps = room_put c.args.self.now.cap c.args.self.now.queues.items c.in-Some.at c.index_mut.result.now c.push.new.self c.args.self.now.caps (rw c.as_slice.ensures.value at c.in-Some.ensures.within) c.index_mut.ensures.value c.push.ensures.capacity; ids = c.args.self.now.ids; rising = rise_put c.args.self.now.queues.items c.in-Some.at c.index_mut.result.now c.push.new.self c.args.self.now.rising (rw c.as_slice.ensures.value at c.in-Some.ensures.within) c.index_mut.ensures.value c.push.ensures.link c.push.ensures.qos; own = own_pushed c.push.result c.args.self.now.queues.items c.as_slice.result.now c.args.qos c.args.link c.in-Some.at c.index_mut.result.now c.push.new.self c.args.item c.args.self.now.own c.as_slice.ensures.value c.in-Some.ensures.place (rw c.as_slice.ensures.value at c.in-Some.ensures.within) c.index_mut.ensures.value c.requires.cube c.push.ensures.ok c.push.ensures.err }
