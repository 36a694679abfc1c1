use Rattle.std.proofs.Common.{refl, arith}
use Rattle.rina_data.specs.Deciding.{process_of}
use Rattle.rina_data.specs.Hops.{hop_of}
use Rattle.rina_dif.proofs.Posting.{full_for, put_for}
use Rattle.rina_dif.proofs.processes.post.Goals as goal

pub returns-then-room-eq0-clause-does : goal.returns-then-room-eq0-clause-does
returns-then-room-eq0-clause-does c = (refl, full_for c.args.process.now c.args.link c.room.result (hop_of c.args.hop.now).pdu (process_of c.write_off.new.self) c.requires.there c.room.ensures.room c.room.ensures.within c.if-room-eq0.true c.in_ok-write_off.ensures.ok)

pub returns-clause-does : goal.returns-clause-does
returns-clause-does c =
    let some = c.if-room-eq0.false in
    put_for c.args.process.now (hop_of c.args.hop.now) c.args.link c.room.result c.args.now c.in_ok-keep.field-0 c.push.new.self.queues.items c.room.ensures.room (omega arith) c.in_ok-keep.ensures c.in-Ok.ensures.ok
