use Rattle.std.proofs.Common.{arith, get_or, refl}
use Rattle.rina_dif.proofs.LinkFirst.{among_all, among_here, among_not}
use Rattle.rina_dif.proofs.dif.Dif.first_link_among.Goals as goal
use Rattle.rina_dif.proofs.dif.Dif.first_link_among.Goals.{in-Some, in_default}

pub returns : goal.returns
returns c =
    let after = c.loop-n-test.false in
    let within = c.loop-n.auto.n-end in
    among_all c.args.item c.args.self.now c.args.at c.loop-n.n c.args.places.now c.loop-n.first c.requires (omega (arith, after, within)) c.loop-n.invariant

pub loop-n-preserved : goal.loop-n-preserved
loop-n-preserved c =
    let d = c.args.self.now in
    let places = c.args.places.now in
    let place = get_or places c.loop-n.n 0 in
    elim c.match-link_due_at.branch [
      | in-Some w ↦ rw (w.first-is, w.lesser.ensures) (among_here c.args.item d c.args.at c.loop-n.n place w.in-Some.number places c.loop-n.first c.loop-n-test.true refl c.loop-n.invariant w.in-Some.ensures)
      | in_default w ↦ rw w.first-is (among_not c.args.item d c.args.at c.loop-n.n place places c.loop-n.first c.loop-n-test.true refl c.loop-n.invariant w.in_default.ensures)
    ]
