use Rattle.std.proofs.Common.{◌∙◌, ℕ, Err, Ok, Option, Result, Some, ap, subst, sym}
use Rattle.std.proofs.lemmas.Result.{err_from_is_err_and}
use Rattle.rina_iface.proofs.LaterOn.{later_on}
use Rattle.rina_iface.specs.Free.{FreesAsSeen}
use Rattle.rina_data.specs.declared.step.ClockStep.{ClockStep}
use Rattle.rina_data.specs.declared.step.StepError.{StepError}
use Rattle.rina_dif.specs.declared.dif.Dif.{Dif}
use Rattle.rina_dif.specs.FlowEnds.{ManagesStep}
use Rattle.rina_dif.specs.Claiming.{ClaimsHere}
use Rattle.rina_dif.specs.Clocking.{ClaimsOrServes, ServesAnyHere}
use Rattle.rina_dif.specs.Elsewhere.{ChangesOnly, MayClock}
use Rattle.rina_dif.specs.Holding.{Holds}
use Rattle.rina_dif.specs.Lower.{ClaimsLower, name_of}
use Rattle.rina_dif.specs.WaitingAsks.{KeepsStep}
use Rattle.rina_dif.proofs.ClaimedFirst.{clocks_err, manages_over, serves_behind, tells_no_link, then_clocks}
use Rattle.rina_dif.proofs.KeptAsks.{none_keeps}
use Rattle.rina_dif.proofs.dif.Dif.claim_or_serve.Goals as goal

pub returns-in_err-link-clause-does : goal.returns-in_err-link-clause-does
returns-in_err-link-clause-does g c = λ lines h.
    let err = err_from_is_err_and c.from_residual.result c.from_residual.ensures.1 in
    subst (λ (r : Result ClockStep StepError). ClaimsOrServes c.args.self.now lines (g.F.Facility.seen c.args.below.now) c.args.node r c.claim_at.new.self (g.F.Facility.seen c.claim_at.new.below)) (sym (err.1 ∙ ap (λ (e : StepError). Err e) err.2)) (c.in_err-link.ensures.does lines h)

pub returns-in_err-link-clause-lower : goal.returns-in_err-link-clause-lower
returns-in_err-link-clause-lower g c =
    let err = err_from_is_err_and c.from_residual.result c.from_residual.ensures.1 in
    clocks_err (λ x fac answer y. g.F.Facility.does_incoming x fac c.args.node (name_of c.args.self.now c.args.at) answer y) (FreesAsSeen g.F.Facility.seen g.F.Facility.frees_both g.F.Facility.does_free) c.args.below.now c.claim_at.new.below c.from_residual.result err.0 err.2 err.1 c.in_err-link.ensures.lower

pub returns-in-Some-clause-does : goal.returns-in-Some-clause-does
returns-in-Some-clause-does g c = λ lines h.
    subst (λ (o : Option ℕ). ClaimsHere c.args.self.now lines (g.F.Facility.seen c.args.below.now) c.args.node (Ok o) c.claim_at.new.self (g.F.Facility.seen c.claim_at.new.below)) c.in-Some.is (c.in_ok-link.ensures.does lines h)

pub returns-in-None-clause-later : goal.returns-in-None-clause-later
returns-in-None-clause-later g c = later_on (g.F.Facility.seen c.args.below.now) (g.F.Facility.seen c.claim_at.new.below) (g.F.Facility.seen c.serve_any.new.below) c.in_ok-link.ensures.later c.serve_any.ensures.later

pub returns-in-None-clause-does : goal.returns-in-None-clause-does
returns-in-None-clause-does g c = λ lines h.
    let d = c.args.self.now in
    let below = g.F.Facility.seen c.args.below.now in
    let mid = g.F.Facility.seen c.claim_at.new.below in
    let below' = g.F.Facility.seen c.serve_any.new.below in
    let here = subst (λ (o : Option ℕ). ClaimsHere d lines below c.args.node (Ok o) c.claim_at.new.self mid) c.in-None.is (c.in_ok-link.ensures.does lines h) in
    let serves = subst (λ (z : Dif). ServesAnyHere z lines mid c.args.node c.serve_any.result c.serve_any.new.self below') here.1 (c.serve_any.ensures.does lines (subst (λ (z : Dif). Holds z lines mid) (sym here.1) here.2)) in
    serves_behind d lines below c.args.node mid here.2 here.0 c.serve_any.result c.serve_any.new.self below' serves

pub returns-in-None-clause-lower : goal.returns-in-None-clause-lower
returns-in-None-clause-lower g c =
    let d = c.args.self.now in
    let st = c.requires.stands in
    let below = g.F.Facility.seen c.args.below.now in
    let mid = g.F.Facility.seen c.claim_at.new.below in
    let below' = g.F.Facility.seen c.serve_any.new.below in
    let here = subst (λ (o : Option ℕ). ClaimsHere d st.0 below c.args.node (Ok o) c.claim_at.new.self mid) c.in-None.is (c.in_ok-link.ensures.does st.0 st.1) in
    let serves = subst (λ (z : Dif). ServesAnyHere z st.0 mid c.args.node c.serve_any.result c.serve_any.new.self below') here.1 (c.serve_any.ensures.does st.0 (subst (λ (z : Dif). Holds z st.0 mid) (sym here.1) here.2)) in
    then_clocks (λ x fac answer y. g.F.Facility.does_incoming x fac c.args.node (name_of d c.args.at) answer y) (FreesAsSeen g.F.Facility.seen g.F.Facility.frees_both g.F.Facility.does_free) c.args.below.now c.claim_at.new.below c.serve_any.new.below c.serve_any.result
    (tells_no_link d st.0 mid c.args.node c.serve_any.result c.serve_any.new.self below' here.2.connected serves)
    (subst (λ (o : Option ℕ). ClaimsLower (λ x fac answer y. g.F.Facility.does_incoming x fac c.args.node (name_of d c.args.at) answer y) c.args.below.now (Ok o) c.claim_at.new.below) c.in-None.is c.in_ok-link.ensures.lower)
    c.serve_any.ensures.lower

pub returns-in-None-clause-manages : goal.returns-in-None-clause-manages
returns-in-None-clause-manages g c =
    let d = c.args.self.now in
    let st = c.requires.stands in
    let below = g.F.Facility.seen c.args.below.now in
    let mid = g.F.Facility.seen c.claim_at.new.below in
    let below' = g.F.Facility.seen c.serve_any.new.below in
    let here = subst (λ (o : Option ℕ). ClaimsHere d st.0 below c.args.node (Ok o) c.claim_at.new.self mid) c.in-None.is (c.in_ok-link.ensures.does st.0 st.1) in
    let serves = subst (λ (z : Dif). ServesAnyHere z st.0 mid c.args.node c.serve_any.result c.serve_any.new.self below') here.1 (c.serve_any.ensures.does st.0 (subst (λ (z : Dif). Holds z st.0 mid) (sym here.1) here.2)) in
    manages_over c.serve_any.result c.args.at d below mid c.args.node c.serve_any.new.self.managements
    (tells_no_link d st.0 mid c.args.node c.serve_any.result c.serve_any.new.self below' here.2.connected serves)
    (subst (λ (z : Dif). ManagesStep c.serve_any.result (Some c.args.at) z mid c.args.node c.serve_any.new.self.managements) here.1 c.serve_any.ensures.manages)

pub returns-in-None-clause-leaves : goal.returns-in-None-clause-leaves
returns-in-None-clause-leaves g c =
    let d = c.args.self.now in
    let st = c.requires.stands in
    let here = subst (λ (o : Option ℕ). ClaimsHere d st.0 (g.F.Facility.seen c.args.below.now) c.args.node (Ok o) c.claim_at.new.self (g.F.Facility.seen c.claim_at.new.below)) c.in-None.is (c.in_ok-link.ensures.does st.0 st.1) in
    subst (λ (z : Dif). ChangesOnly (MayClock c.serve_any.result z (Some c.args.at)) (Some c.args.at) z c.serve_any.new.self) here.1 c.serve_any.ensures.leaves

pub returns-in_err-link-clause-keeps : goal.returns-in_err-link-clause-keeps
returns-in_err-link-clause-keeps g c =
    let err = err_from_is_err_and c.from_residual.result c.from_residual.ensures.1 in
    none_keeps c.args.self.now c.args.node c.from_residual.result err.0 c.claim_at.new.self err.2 err.1 (ap (λ (z : Dif). z.asks) c.in_err-link.ensures.whole)

pub returns-in-Some-clause-keeps : goal.returns-in-Some-clause-keeps
returns-in-Some-clause-keeps g c = ap (λ (z : Dif). z.asks) c.in_ok-link.ensures.whole

pub returns-in-None-clause-keeps : goal.returns-in-None-clause-keeps
returns-in-None-clause-keeps g c =
    let d = c.args.self.now in
    let st = c.requires.stands in
    let here = subst (λ (o : Option ℕ). ClaimsHere d st.0 (g.F.Facility.seen c.args.below.now) c.args.node (Ok o) c.claim_at.new.self (g.F.Facility.seen c.claim_at.new.below)) c.in-None.is (c.in_ok-link.ensures.does st.0 st.1) in
    subst (λ (z : Dif). KeepsStep c.serve_any.result z c.args.node c.serve_any.new.self) here.1 c.serve_any.ensures.keeps
