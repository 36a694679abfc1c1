use Rattle.std.proofs.Common.{arith}
use Rattle.std.proofs.lemmas.Option.{slice_get_within}
use Rattle.rina_wire.proofs.Rested.{next_line, last_line}
use Rattle.rina_wire.proofs.wires.rest.quiet_until.Goals as goal

pub loop-fac-init : goal.loop-fac-init
loop-fac-init c = record {
  quiet = λ at w lt stands. absurd (omega (arith, lt));
  last = λ later small quiet. omega (arith, small);
}

pub loop-fac-preserved : goal.loop-fac-preserved
loop-fac-preserved c =
    let least = c.min-until.ensures in
    record {
      quiet = next_line c.args.wires.now c.loop-fac.fac c.loop-fac.until c.quiet_until.result c.min-until.result c.index-wires-fac.result c.index-wires-fac.is (omega (arith, least)) (omega (arith, least)) c.quiet_until.ensures.quiet c.loop-fac.invariant.quiet;
      last = last_line c.args.wires.now c.loop-fac.fac c.loop-fac.until c.quiet_until.result c.min-until.result c.index-wires-fac.result (omega arith) c.index-wires-fac.is c.quiet_until.ensures.last (λ later a b. omega (arith, least, a, b)) c.loop-fac.invariant.last;
    }

pub returns-clause-quiet : goal.returns-clause-quiet
returns-clause-quiet c = λ at w stands.
    let within = slice_get_within c.args.wires.now at w stands in
    let after = c.loop-fac-test.false in
    let end = c.loop-fac.auto.fac-end in
    c.loop-fac.invariant.quiet at w (omega (arith, within, after)) stands

pub returns-clause-last : goal.returns-clause-last
returns-clause-last c = c.loop-fac.invariant.last
