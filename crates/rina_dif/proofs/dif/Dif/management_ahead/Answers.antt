-- What waits is handled, and what comes after it.
use Rattle.std.proofs.Common.{◌∙◌, List, ℕ, Option, Result, Err, ap, subst, sym}
use Rattle.std.proofs.lemmas.Result.{err_from_is_err_and}
use Rattle.rina_agent.specs.declared.state.AgentError.{AgentError}
use Rattle.rina_base.specs.Pdus.{pdu_of}
use Rattle.rina_member.specs.declared.management.Management.{Management}
use Rattle.rina_dif.specs.Handling.{AnswersAhead, IsToldAhead}
use Rattle.rina_dif.proofs.HandledAhead.{ahead_first, ahead_then}
use Rattle.rina_dif.proofs.dif.Dif.management_ahead.Goals as goal

pub returns-in_err-after : goal.returns-in_err-after
returns-in_err-after c =
    let d = c.args.self.now in
    let err = err_from_is_err_and c.from_residual-in_err-after.result c.from_residual-in_err-after.ensures.1 in
    subst (λ (r : Result (Option Management) AgentError). AnswersAhead d c.args.at c.args.place c.args.number (pdu_of c.args.pdu.now) r) (sym (err.1 ∙ ap (λ (e : AgentError). Err e) err.2))
    (ahead_first d c.args.at c.args.place c.args.number (pdu_of c.args.pdu.now) c.in_ok-bodies.bodies c.in_err-after.field-0.0 c.in_ok-bodies.ensures c.in_err-after.ensures)

pub returns : goal.returns
returns c =
    let d = c.args.self.now in
    let bodies = c.as_slice.result.now in
    let told : IsToldAhead d c.args.place (pdu_of c.args.pdu.now) bodies = subst (λ (bs : List (List ℕ)). IsToldAhead d c.args.place (pdu_of c.args.pdu.now) bs) (sym c.as_slice.ensures) c.in_ok-bodies.ensures in
    ahead_then d c.args.at c.args.place c.args.number (pdu_of c.args.pdu.now) bodies c.in-Some.before.now c.in-Some.ensures c.in_ok-after.after told c.in_ok-after.ensures c.after_bodies.result c.after_bodies.ensures
