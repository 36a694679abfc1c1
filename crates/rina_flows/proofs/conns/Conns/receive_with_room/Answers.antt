use Rattle.std.proofs.Common.{ap, slice_get, arith}
use Rattle.std.specs.Vec.{vec_capacity}
use Rattle.rina_base.specs.Pdus.{pdu_of}
use Rattle.rina_flows.proofs.Landed.{landed, same_at}
use Rattle.rina_flows.proofs.conns.Conns.receive_with_room.Goals as goal

pub returns : goal.returns
returns c = λ k h.
    let b = c.receive-verdict.ensures.becomes k h in
    let wide = c.in_ok-make_room.ensures.room_got in
    let room = c.in_ok-make_room.ensures.room_lines in
    let count = c.len.ensures in
    let whole = c.args.bodies.ok.0 in
    (b.0, landed c.args.now (pdu_of c.args.pdu.now) c.args.unpassed c.args.bodies.items c.args.notes.now.got.items c.make_room.new.self.got.items c.args.notes.now.lines.items c.make_room.new.self.lines.items (vec_capacity c.make_room.new.self.got) (vec_capacity c.make_room.new.self.lines) (vec_capacity c.receive-verdict.new.notes.lines) c.kept-kept.result c.receive-verdict.result k c.at.result.now b.0 c.receive-verdict.new.notes.got.items c.write.new.self.got.items c.receive-verdict.new.notes.lines.items c.write.new.self.lines.items c.cause_of-cause.result c.make_room.ensures.got c.make_room.ensures.lines b.1 (omega arith) room c.kept-kept.ensures.count (same_at (slice_get c.args.self.now c.args.at) c.at.result.now k c.at.ensures h) c.cause_of-cause.ensures (ap (λ n. n.items) c.write.ensures.got) c.receive-verdict.ensures.capacity c.write.ensures.lines, b.2)
