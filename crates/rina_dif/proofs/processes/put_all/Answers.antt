use Rattle.std.proofs.Common.{rules, ◌∙◌, refl}
use Rattle.std.proofs.lemmas.Bool.{false≢true}
use Rattle.rina_dif.specs.Sending.{queued}
use Rattle.rina_dif.proofs.Putting.{fuller, of_cube, put_next, put_none, rest_of, still_room}
use Rattle.rina_dif.proofs.processes.put_all.Goals as goal

pub loop-pdu-init : goal.loop-pdu-init
loop-pdu-init c = record { put = put_none c.args.qos c.args.link c.args.queues.now.queues.items c.requires.there; all = search rules; cap = refl; cubes = refl }

pub push-requires-clause-there : goal.push-requires-clause-there
push-requires-clause-there c = (fuller c.args.qos c.args.link c.args.queues.now.queues.items c.loop-pdu.queues.queues.items (queued c.args.left c.args.since c.loop-pdu.yielded) c.loop-pdu.invariant.put).there

pub push-requires-clause-cube : goal.push-requires-clause-cube
push-requires-clause-cube c = of_cube c.args.qos c.args.pdus.items c.loop-pdu.yielded c.loop-pdu.pdu-iterator.rest.items c.next.new.self.rest.items c.in-Some.pdu c.requires.cube c.loop-pdu.invariant.all c.in-Some.ensures.steps.0

pub loop-pdu-preserved : goal.loop-pdu-preserved
loop-pdu-preserved c = record {
  put = put_next c.args.qos c.args.link c.args.left c.args.since c.args.queues.now.queues.items c.loop-pdu.queues.queues.items c.push.new.self.queues.items c.loop-pdu.yielded c.in-Some.pdu c.loop-pdu.invariant.put c.in-Ok.ensures.ok;
  all = rest_of c.args.pdus.items c.loop-pdu.yielded c.loop-pdu.pdu-iterator.rest.items c.next.new.self.rest.items c.in-Some.pdu c.loop-pdu.invariant.all c.in-Some.ensures.steps.0;
  cap = c.push.ensures.same.0 ∙ c.loop-pdu.invariant.cap;
  cubes = c.push.ensures.same.1 ∙ c.loop-pdu.invariant.cubes;
}

pub unreachable-requires : goal.unreachable-requires
unreachable-requires c =
    let room = still_room c.args.qos c.args.link c.args.left c.args.since c.args.queues.now.cap c.args.queues.now.queues.items c.loop-pdu.queues.queues.items c.args.pdus.items c.loop-pdu.yielded c.loop-pdu.pdu-iterator.rest.items c.next.new.self.rest.items c.in-Some.pdu c.loop-pdu.invariant.put c.loop-pdu.invariant.all c.in-Some.ensures.steps.0 c.requires.room in
    absurd (false≢true (c.in-Err.ensures.full.1 (rw c.loop-pdu.invariant.cap room)))
