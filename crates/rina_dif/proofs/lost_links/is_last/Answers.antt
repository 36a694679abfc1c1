use Rattle.rina_dif.proofs.Lastly.{all_read, more_lost, more_not, one_read}
use Rattle.rina_dif.proofs.lost_links.is_last.Goals as goal
use Rattle.rina_dif.proofs.lost_links.is_last.Goals.{else-place-lost-via-else-place-lost, else-place-lost-via-then-place-lost+else-links-place}

pub returns-then-links-place : goal.returns-then-links-place
returns-then-links-place c = one_read c.args.links.now c.args.lost c.loop-place.place _ c.loop-place-test.true c.if-place-lost.true c.if-links-place.true

pub loop-place-preserved : goal.loop-place-preserved
loop-place-preserved c = elim c.else-place-lost.branch [
  | else-place-lost-via-then-place-lost+else-links-place w ↦ more_not c.args.links.now c.args.lost c.loop-place.place _ c.loop-place-test.true c.loop-place.invariant w.if-links-place.false
  | else-place-lost-via-else-place-lost w ↦ more_lost c.args.links.now c.args.lost c.loop-place.place c.loop-place.invariant w.if-place-lost.false
]

pub returns : goal.returns
returns c = all_read c.args.links.now c.args.lost c.loop-place.place c.loop-place-test.false c.loop-place.invariant
