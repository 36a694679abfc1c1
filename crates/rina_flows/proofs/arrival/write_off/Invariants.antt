-- What was fetched so far is noted, and the rest is left.
use Rattle.std.proofs.Common.{◌≤◌, length}
use Rattle.std.specs.Vec.{vec_capacity}
use Rattle.rina_dtp.specs.Receiving.{drops}
use Rattle.rina_flows.specs.Delivering.{IsWriting}
use Rattle.rina_flows.proofs.arrival.write_off.Given as goal

abbrev pub invariant-loop-key : goal.invariant-loop-key
invariant-loop-key l = record {
  writing : IsWriting l.now l.fn.rx l.fn.lines.items (vec_capacity l.fn.lines) l.rx l.lines.items;
  capacity : vec_capacity l.fn.lines ≤ vec_capacity l.lines;
}

abbrev pub decreases-loop-key : goal.decreases-loop-key
decreases-loop-key l = length (drops l.now l.rx)
