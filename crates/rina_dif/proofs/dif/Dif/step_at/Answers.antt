use Rattle.std.proofs.Common.{◌∙◌, Result, Err, ap, subst, sym}
use Rattle.std.proofs.lemmas.Result.{err_from_is_err_and}
use Rattle.rina_iface.specs.Free.{FreesAsSeen}
use Rattle.rina_data.specs.declared.step.ClockStep.{ClockStep}
use Rattle.rina_data.specs.declared.step.StepError.{StepError}
use Rattle.rina_dif.specs.declared.dif.Dif.{Dif}
use Rattle.rina_dif.specs.Clocking.{StepsHere}
use Rattle.rina_dif.specs.Lower.{name_of}
use Rattle.rina_dif.proofs.ClaimedFirst.{claimed_first, clocks_none}
use Rattle.rina_dif.proofs.Clocked.{link_first, loss_refused, none_first}
use Rattle.rina_dif.proofs.KeptAsks.{none_keeps, same_keeps}
use Rattle.rina_dif.proofs.Unlinked.{has_agent}
use Rattle.rina_dif.proofs.dif.Dif.step_at.Goals as goal

pub returns-in_ok-lose_at-in-Some-clause-does : goal.returns-in_ok-lose_at-in-Some-clause-does
returns-in_ok-lose_at-in-Some-clause-does g c = λ lines h.
    let below = g.F.Facility.seen c.args.below.now in
    link_first c.args.self.now lines below c.args.node c.args.at c.in-Some.lost c.lose_at.new.self c.requires.home (c.in_ok-lose_at-in-Some.ensures.does lines h)

pub returns-in-None-clause-does : goal.returns-in-None-clause-does
returns-in-None-clause-does g c = λ lines h.
    let below = g.F.Facility.seen c.args.below.now in
    claimed_first c.args.self.now lines below c.args.node c.claim_or_serve.result c.claim_or_serve.new.self (g.F.Facility.seen c.claim_or_serve.new.below) (none_first c.args.self.now below c.args.node c.args.at c.requires.home c.in-None.ensures) (c.claim_or_serve.ensures.does lines h)

pub returns-in_err-lose_at-in-Some-clause-lower : goal.returns-in_err-lose_at-in-Some-clause-lower
returns-in_err-lose_at-in-Some-clause-lower g c =
    let err = err_from_is_err_and c.from_residual-in_err-lose_at-in-Some.result c.from_residual-in_err-lose_at-in-Some.ensures.1 in
    clocks_none (λ x fac answer y. g.F.Facility.does_incoming x fac c.args.node (name_of c.args.self.now c.args.at) answer y) (FreesAsSeen g.F.Facility.seen g.F.Facility.frees_both g.F.Facility.does_free) c.args.below.now c.from_residual-in_err-lose_at-in-Some.result err.0 err.1

pub returns-in_err-after-in-Some-clause-does : goal.returns-in_err-after-in-Some-clause-does
returns-in_err-after-in-Some-clause-does g c = λ lines h.
    let d = c.args.self.now in
    let below = g.F.Facility.seen c.args.below.now in
    let m = has_agent d lines below c.args.at c.requires.at h in
    let err = err_from_is_err_and c.from_residual.result c.from_residual.ensures.1 in
    subst (λ (z : Result ClockStep StepError). StepsHere d lines below c.args.node z d below) (sym (err.1 ∙ ap (λ (x : StepError). Err x) err.2))
    (loss_refused d lines below c.args.node c.args.at c.in-Some.lost m.0 _ c.requires.home c.in-Some.ensures m.1 (c.in_err-after-in-Some.ensures m.0 m.1) h)

pub returns-in_err-after-in-Some-clause-lower : goal.returns-in_err-after-in-Some-clause-lower
returns-in_err-after-in-Some-clause-lower g c =
    let err = err_from_is_err_and c.from_residual.result c.from_residual.ensures.1 in
    clocks_none (λ x fac answer y. g.F.Facility.does_incoming x fac c.args.node (name_of c.args.self.now c.args.at) answer y) (FreesAsSeen g.F.Facility.seen g.F.Facility.frees_both g.F.Facility.does_free) c.args.below.now c.from_residual.result err.0 err.1

pub returns-in_ok-lose_at-in-Some-clause-keeps : goal.returns-in_ok-lose_at-in-Some-clause-keeps
returns-in_ok-lose_at-in-Some-clause-keeps g c = ap (λ (z : Dif). z.asks) c.in_ok-lose_at-in-Some.ensures.whole

pub returns-in_err-lose_at-in-Some-clause-keeps : goal.returns-in_err-lose_at-in-Some-clause-keeps
returns-in_err-lose_at-in-Some-clause-keeps g c =
    let err = err_from_is_err_and c.from_residual-in_err-lose_at-in-Some.result c.from_residual-in_err-lose_at-in-Some.ensures.1 in
    none_keeps c.args.self.now c.args.node c.from_residual-in_err-lose_at-in-Some.result err.0 c.lose_at.new.self err.2 err.1 (ap (λ (z : Dif). z.asks) c.in_err-lose_at-in-Some.ensures.whole)

pub returns-in_err-after-in-Some-clause-keeps : goal.returns-in_err-after-in-Some-clause-keeps
returns-in_err-after-in-Some-clause-keeps g c =
    let err = err_from_is_err_and c.from_residual.result c.from_residual.ensures.1 in
    same_keeps c.args.self.now c.args.node c.from_residual.result err.0 err.1
