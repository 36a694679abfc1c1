use Rattle.std.proofs.Common.{◌<◌, length, arith, rules}
use Rattle.std.proofs.lemmas.Grind.{common_steps}
use Rattle.rina_wire.proofs.Ticks.{tears, ticks_on}
use Rattle.rina_wire.proofs.wires.tick.tick_all.Goals as goal

pub returns-in_err-tick-clause-err : goal.returns-in_err-tick-clause-err
returns-in_err-tick-clause-err c =
    let within : c.loop-at.at < length c.args.wires.now.items = omega (arith, c.loop-at-test.true, c.loop-at.invariant.size, c.loop-at.auto.at-end, c.len-at-end.ensures) in
    let torn = tears c.args.clock c.loop-at.at c.args.wires.now.items c.loop-at.wires.items c.index_mut-wire.result.now c.tick.new.self within c.loop-at.invariant.wires c.index_mut-wire.ensures.value c.in_err-tick.ensures.err in
    search (rules, torn)

pub loop-at-preserved : goal.loop-at-preserved
loop-at-preserved c =
    let within : c.loop-at.at < length c.args.wires.now.items = omega (arith, c.loop-at-test.true, c.loop-at.invariant.size, c.loop-at.auto.at-end, c.len-at-end.ensures) in
    record {
      wires = ticks_on c.args.clock c.loop-at.at c.args.wires.now.items c.loop-at.wires.items c.index_mut-wire.result.now c.tick.new.self within c.loop-at.invariant.wires c.index_mut-wire.ensures.value c.in_ok-tick.ensures.ok;
      size = grind (arith, common_steps, c.loop-at.invariant.size);
    }
