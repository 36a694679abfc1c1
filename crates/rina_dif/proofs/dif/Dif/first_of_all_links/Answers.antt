use Rattle.std.proofs.Common.{arith}
use Rattle.rina_dif.proofs.LinkFirst.{before_all, before_here, before_not}
use Rattle.rina_dif.proofs.dif.Dif.first_of_all_links.Goals as goal
use Rattle.rina_dif.proofs.dif.Dif.first_of_all_links.Goals.{in-Some, in_default}

pub returns : goal.returns
returns c =
    let count = c.len-place-end.ensures in
    let after = c.loop-place-test.false in
    before_all c.args.item c.args.self.now c.args.at c.loop-place.place c.loop-place.first (omega (arith, count, after)) c.loop-place.invariant

pub loop-place-preserved : goal.loop-place-preserved
loop-place-preserved c =
    let d = c.args.self.now in
    elim c.match-link_due_at.branch [
      | in-Some w ↦ rw (w.first-is, w.lesser.ensures) (before_here c.args.item d c.args.at c.loop-place.place w.in-Some.number c.loop-place.first c.loop-place.invariant w.in-Some.ensures)
      | in_default w ↦ rw w.first-is (before_not c.args.item d c.args.at c.loop-place.place c.loop-place.first c.loop-place.invariant w.in_default.ensures)
    ]
