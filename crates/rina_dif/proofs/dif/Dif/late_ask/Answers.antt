use Rattle.std.proofs.Common.{arith}
use Rattle.rina_dif.proofs.LateAsks.{first_late, late_next, none_late}
use Rattle.rina_dif.proofs.dif.Dif.late_ask.Goals as goal

pub returns-then-has_waited : goal.returns-then-has_waited
returns-then-has_waited c =
    let within = c.loop-which-test.true in
    let count = c.len-which-end.ensures in
    first_late c.args.self.now c.args.node c.loop-which.which c.index.result.now c.has_waited.result (omega (arith, within, count)) c.index.ensures c.has_waited.ensures c.if-has_waited.true c.loop-which.invariant

pub loop-which-preserved : goal.loop-which-preserved
loop-which-preserved c =
    let within = c.loop-which-test.true in
    let count = c.len-which-end.ensures in
    late_next c.args.self.now c.args.node c.loop-which.which c.index.result.now c.has_waited.result (omega (arith, within, count)) c.index.ensures c.has_waited.ensures c.if-has_waited.false c.loop-which.invariant

pub returns : goal.returns
returns c =
    let after = c.loop-which-test.false in
    none_late c.args.self.now c.args.node c.loop-which.which (omega (arith, after)) c.loop-which.invariant
