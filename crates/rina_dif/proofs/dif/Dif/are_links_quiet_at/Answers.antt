use Rattle.std.proofs.Common.{arith, get_or, refl}
use Rattle.rina_dif.proofs.LinkFirst.{quiet_all, quiet_next}
use Rattle.rina_dif.proofs.dif.Dif.are_links_quiet_at.Goals as goal

pub loop-n-preserved : goal.loop-n-preserved
loop-n-preserved c =
    let places = c.args.places.now in
    let n = c.loop-n.n in
    quiet_next c.args.self.now n (get_or places n 0) places c.loop-n-test.true refl c.loop-n.invariant (c.is_link_quiet.ensures c.if-not-is_link_quiet.false)

pub returns : goal.returns
returns c = λ told.
    let after = c.loop-n-test.false in
    let within = c.loop-n.auto.n-end in
    quiet_all c.args.self.now c.loop-n.n c.args.places.now c.requires (omega (arith, after, within)) c.loop-n.invariant
