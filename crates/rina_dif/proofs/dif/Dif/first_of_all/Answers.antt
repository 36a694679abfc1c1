use Rattle.std.proofs.Common.{◌<◌, length, arith}
use Rattle.rina_dif.proofs.Clocked.{found_all, found_here, found_not_here}
use Rattle.rina_dif.proofs.dif.Dif.first_of_all.Goals as goal
use Rattle.rina_dif.proofs.dif.Dif.first_of_all.Goals.{else-is_due_at, then-is_due_at}

pub loop-at-preserved : goal.loop-at-preserved
loop-at-preserved c =
    let d = c.args.self.now in
    let at = c.loop-at.at in
    let count = c.len-at-end.ensures in
    let before = c.loop-at-test.true in
    let lt : at < length d.flows.conns = omega (arith, count, before) in
    elim c.if-is_due_at.branch [
      | then-is_due_at w ↦ rw (w.first-is, w.earlier.ensures) (found_here c.args.item d c.args.node at c.loop-at.first w.turn.result c.is_due_at.result c.loop-at.invariant c.is_due_at.ensures w.if-is_due_at.true lt w.turn.ensures)
      | else-is_due_at w ↦ rw w.first-is (found_not_here c.args.item d c.args.node at c.loop-at.first c.is_due_at.result c.loop-at.invariant c.is_due_at.ensures w.if-is_due_at.false)
    ]

pub returns : goal.returns
returns c =
    let count = c.len-at-end.ensures in
    let after = c.loop-at-test.false in
    found_all c.args.item c.args.self.now c.args.node c.loop-at.at c.loop-at.first (omega (arith, count, after)) c.loop-at.invariant
