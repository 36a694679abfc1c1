use Rattle.std.proofs.Common.{arith, get_or, refl}
use Rattle.rina_dif.proofs.Clocked.{quiet_all, quiet_next}
use Rattle.rina_dif.proofs.dif.Dif.are_quiet_at.Goals as goal

pub loop-place-preserved : goal.loop-place-preserved
loop-place-preserved c =
    let places = c.args.places.now in
    let n = c.loop-place.place in
    quiet_next c.args.self.now c.args.node n (get_or places n 0) places c.loop-place-test.true refl c.loop-place.invariant (c.is_quiet_at.ensures c.if-not-is_quiet_at.false)

pub returns : goal.returns
returns c = λ told.
    let after = c.loop-place-test.false in
    let within = c.loop-place.auto.place-end in
    quiet_all c.args.self.now c.args.node c.loop-place.place c.args.places.now c.requires (omega (arith, after, within)) c.loop-place.invariant
