-- One SDU more is handled.
use Rattle.std.proofs.Common.{◌∙◌, Option, Result, Err, ap, subst, sym}
use Rattle.std.proofs.lemmas.Result.{err_from_is_err_and}
use Rattle.rina_agent.specs.declared.state.AgentError.{AgentError}
use Rattle.rina_law.specs.declared.entry.Entry.{Entry}
use Rattle.rina_member.specs.declared.management.Management.{Management}
use Rattle.rina_dif.specs.Flooding.{texts_of}
use Rattle.rina_dif.specs.Handling.{AnswersInTurn, or_same}
use Rattle.rina_dif.proofs.Turns.{turn_next, turn_stops}
use Rattle.rina_dif.proofs.messages_in.after_all.Goals as goal

pub loop-entry-preserved : goal.loop-entry-preserved
loop-entry-preserved c =
    turn_next c.args.now c.args.number c.args.came.now c.loop-entry.entry-index _ c.as_slice-sdu.result.now c.args.management.now (or_same c.args.management.now c.loop-entry.after) (or_same c.args.management.now c.in_ok-after.after) c.loop-entry-test.true (c.as_slice-sdu.ensures ∙ ap (λ (x : Entry). x.bytes) c.entry-item.is) c.loop-entry.invariant c.in_ok-after.ensures

pub returns-in_err-after : goal.returns-in_err-after
returns-in_err-after c =
    let err = err_from_is_err_and c.from_residual.result c.from_residual.ensures.1 in
    subst (λ (r : Result (Option Management) AgentError). AnswersInTurn c.args.now c.args.number (texts_of c.args.came.now) c.args.management.now c.args.management.now r) (sym (err.1 ∙ ap (λ (e : AgentError). Err e) err.2))
    (turn_stops c.args.now c.args.number c.args.came.now c.loop-entry.entry-index _ c.as_slice-sdu.result.now c.args.management.now c.args.management.now (or_same c.args.management.now c.loop-entry.after) c.in_err-after.field-0.0 c.loop-entry-test.true (c.as_slice-sdu.ensures ∙ ap (λ (x : Entry). x.bytes) c.entry-item.is) c.loop-entry.invariant c.in_err-after.ensures)
