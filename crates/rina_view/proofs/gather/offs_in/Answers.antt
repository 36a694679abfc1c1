use Rattle.rina_view.proofs.Shows.{off_on}
use Rattle.rina_view.proofs.gather.offs_in.Goals as goal

pub notes-preserved : goal.notes-preserved
notes-preserved c = rw c.in_ok-add.ensures (off_on c.args.notes.now c.notes.note-index c.note-item.result c.in_ok-off.off c.notes.offs _ c.notes-test.true c.note-item.is c.in_ok-off.ensures c.notes.invariant)
