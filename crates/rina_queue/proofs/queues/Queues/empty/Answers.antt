-- The queues that are emptied keep their room, their links and their ids.
use Rattle.std.proofs.Common.{sym, subst}
use Rattle.rina_queue.specs.Queues.{AllOfCubes, HaveRoom, IdsRise}
use Rattle.rina_queue.proofs.Emptied.{own_emptied, rise_emptied, room_emptied}
use Rattle.rina_queue.proofs.queues.Queues.empty.Goals as goal

pub invariant_of-self : goal.invariant_of-self
invariant_of-self c =
    let was = c.args.self.now in
    let is = sym c.empty_all.ensures in
    record {
      caps = subst (HaveRoom was.cap) is (room_emptied was.cap c.args.link was.queues.items was.caps);
      ids = was.ids;
      rising = subst IdsRise is (rise_emptied c.args.link was.queues.items was.rising);
      own = subst AllOfCubes is (own_emptied c.args.link was.queues.items was.own);
    }
