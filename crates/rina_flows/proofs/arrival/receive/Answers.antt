use Rattle.std.proofs.Common.{refl}
use Rattle.std.specs.Vec.{vec_capacity}
use Rattle.rina_flows.proofs.Received.{wide_enough}
use Rattle.rina_flows.proofs.arrival.receive.Goals as goal

pub returns-clause-receives : goal.returns-clause-receives
returns-clause-receives c = record {
  ready = c.write_off.new.rx;
  between = c.write_off.new.lines.items;
  before = c.write_off.ensures.writes;
  heard = c.on_data-verdict.new.self;
  row = c.on_data-verdict.ensures.arrives;
  marks = c.on_data-verdict.ensures.marks;
  hears = c.on_data-verdict.ensures.receives;
  sending = c.on_data-verdict.ensures.same;
  passed_on = c.deliver.new.conn;
  delivers = c.deliver.ensures;
  last = c.write_off-2.new.rx;
  after = wide_enough c.args.now c.deliver.new.conn.rx c.write_off.new.lines.items (vec_capacity c.args.notes.now.lines) (vec_capacity c.write_off.new.lines) c.write_off-2.new.rx c.write_off-2.new.lines.items c.write_off.ensures.capacity c.write_off-2.ensures.writes;
  new_is = refl;
}
