use Rattle.std.proofs.Common.{◌<◌, arith, length}
use Rattle.rina_notes.proofs.Looking.{on_err, some_note, told_size}
use Rattle.rina_notes.proofs.label_note.tell_labels.Goals as goal

pub returns-in_err-at-clause-memory : goal.returns-in_err-at-clause-memory
returns-in_err-at-clause-memory c =
    let told = c.labels.invariant.told in
    let within : c.labels.at < length c.labels.labels = omega (arith, c.labels-test.true, c.len.ensures) in
    on_err _ c.from_residual.result (some_note c.args.line.now.plan.now c.args.line.now.number c.args.tower.now c.args.labels.now c.args.trace.now c.labels.at c.labels.labels c.labels.trace within told c.in_err-at.ensures.memory)

pub labels-smaller : goal.labels-smaller
labels-smaller c =
    let line = c.args.line.now in
    let told = c.labels.invariant.told in
    let before = told_size line.plan.now line.number c.args.tower.now c.args.labels.now c.args.trace.now c.labels.at c.labels.labels c.labels.trace told in
    let on = c.in_ok-at.ensures.tells c.args.labels.now c.args.trace.now told in
    let after = told_size line.plan.now line.number c.args.tower.now c.args.labels.now c.args.trace.now c.in_ok-at.at c.look_on.new.labels c.look_on.new.trace on in
    omega (arith, before, after, c.in_ok-at.ensures.on, c.labels-test.true, c.len.ensures)
