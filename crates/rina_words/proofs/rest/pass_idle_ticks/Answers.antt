use Rattle.std.proofs.Common.{arith}
use Rattle.rina_words.proofs.Idle.{passed, wires_needed}
use Rattle.rina_words.proofs.rest.pass_idle_ticks.Goals as goal

pub rest_to-requires-clause-rests : goal.rest_to-requires-clause-rests
rest_to-requires-clause-rests c =
    let least = c.min-count.ensures in
    let late = c.saturating_sub.ensures in
    wires_needed c.args.rounds c.tick_of-now.result c.rests_until-until.result c.min-count.result c.args.tower.now c.tick_of-now.ensures (omega (arith, least, late)) (omega (arith, c.if-count-gt0.true)) c.rests_until-until.ensures

pub returns-then-count-gt0-clause-passes : goal.returns-then-count-gt0-clause-passes
returns-then-count-gt0-clause-passes c =
    let least = c.min-count.ensures in
    let late = c.saturating_sub.ensures in
    let clock = c.requires.clock in
    passed c.args.rounds c.tick_of-now.result c.rests_until-until.result c.min-count.result c.args.tower.now c.rest_to.new.self c.requires.tower c.tick_of-now.ensures (omega (arith, least, clock)) (omega (arith, least, late)) (omega (arith, c.if-count-gt0.true)) c.rests_until-until.ensures c.rest_to.ensures.exact
