use Rattle.std.proofs.Common.{arith}
use Rattle.std.proofs.lemmas.Option.{slice_get_within}
use Rattle.rina_wire.proofs.Rested.{next_claimed}
use Rattle.rina_wire.proofs.wires.rest.none_waits.Goals as goal

pub loop-fac-preserved : goal.loop-fac-preserved
loop-fac-preserved c = next_claimed c.args.wires.now c.loop-fac.fac c.index-wires-fac.result c.index-wires-fac.is (c.none_waits.ensures c.if-not-none_waits.false) c.loop-fac.invariant

pub returns : goal.returns
returns c = λ e at w stands.
    let within = slice_get_within c.args.wires.now at w stands in
    let after = c.loop-fac-test.false in
    c.loop-fac.invariant at w (omega (arith, within, after)) stands
