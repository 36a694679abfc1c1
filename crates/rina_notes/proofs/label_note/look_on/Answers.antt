use Rattle.std.proofs.Common.{arith}
use Rattle.rina_notes.proofs.Looking.{told_in, told_more, told_size, told_to}
use Rattle.rina_notes.proofs.label_note.look_on.Goals as goal

pub returns-then-next-at-clause-tells : goal.returns-then-next-at-clause-tells
returns-then-next-at-clause-tells c = λ ls start told.
    let line = c.args.line.now in
    let row = c.args.row.now in
    let skip = c.skip_shown-next.ensures in
    told_to line.plan.now line.number c.args.tower.now ls start c.args.at c.skip_shown-next.result c.args.labels.now c.args.trace.now skip.on skip.within (λ k l ge lt at. told_in line.plan.now line.number c.args.tower.now row.rank row.fac row.ends.now l c.requires.sound c.requires.row (skip.shown k l ge lt at)) told

pub returns-clause-tells : goal.returns-clause-tells
returns-clause-tells c = λ ls start told.
    let line = c.args.line.now in
    let size = told_size line.plan.now line.number c.args.tower.now ls start c.args.at c.args.labels.now c.args.trace.now told in
    let place = c.requires.place in
    let looked = c.in_ok-look_up_label.ensures in
    told_more line.plan.now line.number c.args.tower.now ls start c.args.at c.args.labels.now c.look_up_label.new.labels c.args.trace.now c.look_up_label.new.trace (omega (arith, size, place)) looked.notes looked.labels told
