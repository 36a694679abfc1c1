use Rattle.std.proofs.Common.{refl, arith}
use Rattle.rina_data.specs.Hops.{hop_of}
use Rattle.rina_data.proofs.Plain.{full_at, passed_on}
use Rattle.rina_data.proofs.process.IpcProcess.queue.Goals as goal

pub returns-then-room-eq0-clause-does : goal.returns-then-room-eq0-clause-does
returns-then-room-eq0-clause-does c = (refl, full_at c.args.self.now (hop_of c.args.hop.now) c.args.link c.room.result c.requires.next c.requires.there c.room.ensures.room c.room.ensures.within c.if-room-eq0.true, c.in_ok-write_off.ensures.ok)

pub returns-clause-does : goal.returns-clause-does
returns-clause-does c =
    let some = c.if-room-eq0.false in
    passed_on c.args.self.now (hop_of c.args.hop.now) c.args.link c.room.result c.args.came c.in_ok-pdu.pdu c.push.new.self.queues.items c.requires.next c.room.ensures.room (omega arith) c.in_ok-pdu.ensures c.in-Ok.ensures.ok
