use Rattle.std.proofs.Common.{arith}
use Rattle.rina_notes.proofs.Looking.{shown_on}
use Rattle.rina_notes.proofs.label_note.skip_shown.Goals as goal

pub labels-preserved : goal.labels-preserved
labels-preserved c =
    let row = c.args.row.now in
    let label = rw c.as_slice.ensures at c.index-as_slice-at.is in
    shown_on row.rank row.fac row.ends.now c.args.labels.now c.args.from c.labels.at c.index-as_slice-at.result c.labels.invariant (omega (arith, c.labels-test.true, c.len-at-end.ensures)) label (c.is_shown_in.ensures c.if-not-is_shown_in.false)
