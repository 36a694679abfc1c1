use Rattle.std.proofs.Common.{◌≡◌, ◌∙◌, false, sym, ap}
use Rattle.rina_notes.specs.Look.{same_drawn, state_at}
use Rattle.rina_notes.proofs.Looking.{has_note, on_err}
use Rattle.rina_notes.proofs.label_note.tell_label.Goals as goal

pub returns-in_err-says-clause-memory : goal.returns-in_err-says-clause-memory
returns-in_err-says-clause-memory c =
    let plan = c.args.line.now.plan.now in
    let t = c.args.tower.now in
    let l = c.args.label.now in
    let differs : false ≡ same_drawn (state_at t l.rank l.port) l.shown = sym c.if-is_same.false ∙ c.is_same.ensures ∙ ap (λ o. same_drawn o l.shown) c.requires in
    on_err _ c.from_residual.result (has_note plan c.args.line.now.number t l differs (rw c.requires at c.in_err-says.ensures.memory))
