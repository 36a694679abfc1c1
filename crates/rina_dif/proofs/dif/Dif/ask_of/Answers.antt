use Rattle.std.proofs.Common.{arith}
use Rattle.rina_dif.proofs.AnswersIn.{first_ask_is, next_ask, no_ask}
use Rattle.rina_dif.proofs.dif.Dif.ask_of.Goals as goal

pub returns-then-is_ask_of : goal.returns-then-is_ask_of
returns-then-is_ask_of c =
    let within = c.loop-which-test.true in
    let count = c.len-which-end.ensures in
    first_ask_is c.args.self.now c.args.at c.args.invoke c.loop-which.which c.index.result.now c.is_ask_of.result (omega (arith, within, count)) c.index.ensures c.is_ask_of.ensures c.if-is_ask_of.true c.loop-which.invariant

pub loop-which-preserved : goal.loop-which-preserved
loop-which-preserved c =
    let within = c.loop-which-test.true in
    let count = c.len-which-end.ensures in
    next_ask c.args.self.now c.args.at c.args.invoke c.loop-which.which c.index.result.now c.is_ask_of.result (omega (arith, within, count)) c.index.ensures c.is_ask_of.ensures c.if-is_ask_of.false c.loop-which.invariant

pub returns : goal.returns
returns c =
    let after = c.loop-which-test.false in
    no_ask c.args.self.now c.args.at c.args.invoke c.loop-which.which (omega (arith, after)) c.loop-which.invariant
