use Rattle.std.proofs.Common.{arith, rules}
use Rattle.std.specs.Vec.{vec_capacity, vec_len}
use Rattle.rina_flows.proofs.Writing.{writing_more, writes_all}
use Rattle.rina_flows.proofs.arrival.write_off.Goals as goal

pub loop-key-preserved : goal.loop-key-preserved
loop-key-preserved c = record {
  writing = writing_more c.args.now c.args.rx.now c.args.lines.now.items (vec_capacity c.args.lines.now) c.loop-key.rx c.dropped.new.self c.loop-key.lines.items c.push.new.self.items (vec_capacity c.loop-key.lines) (vec_len c.loop-key.lines) c.in-Some.key c.in-Some.cause c.push.result c.loop-key.invariant.writing c.loop-key.invariant.capacity c.in-Some.ensures.taken c.dropped.ensures.stands c.dropped.ensures.kept c.dropped.ensures.whole c.push.ensures.items (omega arith) c.push.ensures.full;
  capacity = search rules;
}

pub returns-clause-writes : goal.returns-clause-writes
returns-clause-writes c = writes_all c.args.now c.args.rx.now c.args.lines.now.items (vec_capacity c.args.lines.now) c.loop-key.rx c.dropped.new.self c.loop-key.lines.items c.loop-key.invariant.writing c.in_default.ensures.taken c.dropped.ensures.stands c.dropped.ensures.kept c.dropped.ensures.whole
