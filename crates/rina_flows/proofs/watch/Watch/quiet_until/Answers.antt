use Rattle.std.proofs.Common.{arith}
use Rattle.rina_flows.proofs.Rested.{next_asked, next_beyond, none_left}
use Rattle.rina_flows.proofs.watch.Watch.quiet_until.Goals as goal
use Rattle.rina_flows.proofs.watch.Watch.quiet_until.Goals.{then-at-conns, else-at-conns}

pub loop-place-preserved : goal.loop-place-preserved
loop-place-preserved c =
    let places = c.args.self.now.places.items in
    let conns = c.args.conns.now in
    let test = c.loop-place-test.true in
    let count = c.len-place-end.ensures in
    elim c.if-at-conns.branch [
      | then-at-conns w ↦
          let least = w.min-until.ensures in
          rw w.until-is (next_asked places c.loop-place.place c.index-at.result.now c.loop-place.until w.quiet_until.result w.min-until.result conns w.index-conns-at.result (omega (arith, test, count)) c.index-at.ensures w.index-conns-at.is w.quiet_until.ensures.before (omega (arith, least)) (omega (arith, least)) c.loop-place.invariant)
      | else-at-conns w ↦ rw w.until-is (next_beyond places c.loop-place.place c.index-at.result.now c.loop-place.until conns (omega (arith, test, count)) c.index-at.ensures w.if-at-conns.false c.loop-place.invariant)
    ]

pub returns : goal.returns
returns c =
    let after = c.loop-place-test.false in
    let count = c.len-place-end.ensures in
    none_left c.args.self.now.places.items c.loop-place.place c.loop-place.until c.args.conns.now (omega (arith, after, count)) c.loop-place.invariant
