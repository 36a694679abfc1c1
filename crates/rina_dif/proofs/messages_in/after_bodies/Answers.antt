-- One body more is handled.
use Rattle.std.proofs.Common.{◌∙◌, Option, Result, Err, ap, subst, sym}
use Rattle.std.proofs.lemmas.Result.{err_from_is_err_and}
use Rattle.rina_agent.specs.declared.state.AgentError.{AgentError}
use Rattle.rina_member.specs.declared.management.Management.{Management}
use Rattle.rina_dif.specs.Handling.{AnswersInTurn, or_same}
use Rattle.rina_dif.proofs.Turns.{body_next, body_stops}
use Rattle.rina_dif.proofs.messages_in.after_bodies.Goals as goal

pub loop-body-preserved : goal.loop-body-preserved
loop-body-preserved c =
    body_next c.args.now c.args.number c.args.bodies.now c.loop-body.body-index _ c.as_slice.result.now (or_same c.args.before.now c.args.after) (or_same c.args.before.now c.loop-body.after) (or_same c.args.before.now c.in_ok-after.after) c.loop-body-test.true (c.as_slice.ensures ∙ c.body-item.is) c.loop-body.invariant c.in_ok-after.ensures

pub returns-in_err-after : goal.returns-in_err-after
returns-in_err-after c =
    let err = err_from_is_err_and c.from_residual.result c.from_residual.ensures.1 in
    subst (λ (r : Result (Option Management) AgentError). AnswersInTurn c.args.now c.args.number c.args.bodies.now c.args.before.now (or_same c.args.before.now c.args.after) r) (sym (err.1 ∙ ap (λ (e : AgentError). Err e) err.2))
    (body_stops c.args.now c.args.number c.args.bodies.now c.loop-body.body-index _ c.as_slice.result.now c.args.before.now (or_same c.args.before.now c.args.after) (or_same c.args.before.now c.loop-body.after) c.in_err-after.field-0.0 c.loop-body-test.true (c.as_slice.ensures ∙ c.body-item.is) c.loop-body.invariant c.in_err-after.ensures)
