-- The SDUs with the bytes so far are delivered.
use Rattle.std.proofs.Common.{◌≡◌, ◌≤◌, ◌++◌}
use Rattle.std.specs.Vec.{vec_capacity}
use Rattle.rina_dtp.specs.Joins.{bytes_of}
use Rattle.rina_flows.specs.Delivering.{IsDelivering}
use Rattle.rina_flows.proofs.arrival.deliver.Given as goal

abbrev pub invariant-loop-bytes : goal.invariant-loop-bytes
invariant-loop-bytes l = record {
  delivering : l.fn.bodies.items ≡ bytes_of l.fn.conn.rx.join.whole → IsDelivering l.now l.fn.conn l.fn.got.items (vec_capacity l.fn.got) l.yielded l.conn l.got.items;
  all : l.yielded ++ l.bytes-iterator.rest.items ≡ l.fn.bodies.items;
  capacity : vec_capacity l.fn.got ≤ vec_capacity l.got;
}
