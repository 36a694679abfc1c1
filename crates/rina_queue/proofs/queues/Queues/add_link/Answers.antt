-- The queues that are made have the same room as the others, and their ids rise.
use Rattle.std.specs.Result.{is_ok}
use Rattle.std.proofs.Common.{sym, subst, ◌∙◌}
use Rattle.std.specs.List.Sorted.{IsStrictlyIncreasing}
use Rattle.rina_queue.proofs.Cubes.{own_added}
use Rattle.rina_queue.proofs.Rises.{rise_added}
use Rattle.rina_queue.proofs.Rooms.{room_added}
use Rattle.rina_queue.proofs.queues.Queues.add_link.Goals as goal

pub invariant_of-self : goal.invariant_of-self
invariant_of-self c = record { caps = room_added (is_ok c.append.result) c.args.self.now.cap c.args.link c.as_slice-2.result.now c.args.self.now.queues.items c.in_ok-made.made.items c.append.new.self.items c.args.self.now.caps c.in_ok-made.ensures c.append.ensures.items; ids = c.args.self.now.ids; rising = rise_added (is_ok c.append.result) c.args.self.now.cap c.args.link c.as_slice-2.result.now c.args.self.now.queues.items c.as_slice.result.now c.in_ok-made.made.items c.append.new.self.items c.args.self.now.rising (subst IsStrictlyIncreasing (sym c.as_slice-2.ensures) c.args.self.now.ids) c.as_slice.ensures.value (sym c.has_link.ensures ∙ c.if-has_link.false) c.in_ok-made.ensures c.append.ensures.items; own = own_added (is_ok c.append.result) c.args.self.now.cap c.args.link c.as_slice-2.result.now c.args.self.now.queues.items c.in_ok-made.made.items c.append.new.self.items c.args.self.now.own c.in_ok-made.ensures c.append.ensures.items }
