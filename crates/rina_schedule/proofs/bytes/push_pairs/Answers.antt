use Rattle.std.proofs.Common.{◌+◌, ◌<◌, length, arith}
use Rattle.rina_schedule.proofs.Hex.{pair_there, pair_read}
use Rattle.rina_schedule.proofs.bytes.push_pairs.Goals as goal

pub pairs-preserved : goal.pairs-preserved
pairs-preserved c =
    let text = c.args.text.now in
    let at = c.pairs.at in
    let lt : at + 1 < length text = c.in-Some.ensures.within in
    record {
      within = omega (arith, lt);
      read = rw c.in_ok-push.ensures.ok (pair_read text c.pairs.bytes at c.in-Some.byte _ lt (pair_there text at c.in-Some.byte lt c.in-Some.ensures.pair) c.pairs.invariant.read);
    }
