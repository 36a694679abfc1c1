-- Where an allocation fails, each member is as before or took the entry, and whether one of them shows the flow tells nothing of its agent.
use Rattle.std.proofs.Common.{◌≡◌, ◌∙◌, ap, refl}
use Rattle.std.proofs.lemmas.Result.{on_err_weaker}
use Rattle.rina_member.specs.Managements.{with_flow}
use Rattle.rina_dif.specs.Changing.{with_flow_at}
use Rattle.rina_dif.specs.Managing.{agents_of}
use Rattle.rina_dif.proofs.Drawing.{entered_within, far_took, near_within, ok_bind, other_within, shown_within}
use Rattle.rina_dif.proofs.Entered.{all_entered, on_err}
use Rattle.rina_dif.proofs.Managed.{changed_agents}
use Rattle.rina_dif.proofs.dif.Dif.manage_flow.Goals as goal

pub returns-in_err-enter_all-clause-err : goal.returns-in_err-enter_all-clause-err
returns-in_err-enter_all-clause-err c =
    let r = c.requires in
    on_err c.from_residual.result _ (far_took c.args.self.now c.args.fixed.now r.may c.args.near c.args.other r.near r.other c.enter_all.new.self c.in_err-enter_all.ensures.err)

pub returns-in_err-show_flow-clause-err : goal.returns-in_err-show_flow-clause-err
returns-in_err-show_flow-clause-err c =
    let d = c.args.self.now in
    let r = c.requires in
    let new = c.show_flow.new.self in
    let took = all_entered c.args.fixed.now.b_app c.args.other.addr d.managements new (ap agents_of (c.in_err-show_flow.ensures.err ∙ c.in_ok-enter_all.ensures.ok)) in
    on_err c.from_residual-in_err-show_flow.result _ (far_took d c.args.fixed.now r.may c.args.near c.args.other r.near r.other new took)

pub returns-clause-err : goal.returns-clause-err
returns-clause-err c =
    let d = c.args.self.now in
    let r = c.requires in
    let new = c.show_flow-2.new.self in
    let shown = ap agents_of c.in_ok-show_flow.ensures.ok ∙ changed_agents c.args.near.place (λ m. with_flow m c.args.near.cep) c.enter_all.new.self (λ m. refl) ∙ ap agents_of c.in_ok-enter_all.ensures.ok in
    on_err_weaker c.show_flow-2.result (λ (same : new ≡ c.show_flow.new.self).
    far_took d c.args.fixed.now r.may c.args.near c.args.other r.near r.other new (all_entered c.args.fixed.now.b_app c.args.other.addr d.managements new (ap agents_of same ∙ shown))) c.show_flow-2.ensures.err

pub show_flow-requires : goal.show_flow-requires
show_flow-requires c =
    let d = c.args.self.now in
    let r = c.requires in
    entered_within d r.valid c.args.fixed.now.b_app c.args.other.addr c.args.near.place c.enter_all.new.self c.in_ok-enter_all.ensures.ok (near_within d c.args.fixed.now r.may c.args.near c.args.other r.near r.other)

pub show_flow-requires-2 : goal.show_flow-requires-2
show_flow-requires-2 c =
    let d = c.args.self.now in
    let r = c.requires in
    shown_within d r.valid c.args.fixed.now.b_app c.args.other.addr c.args.near.place c.args.near.cep c.args.other.place c.enter_all.new.self c.show_flow.new.self c.in_ok-enter_all.ensures.ok c.in_ok-show_flow.ensures.ok (other_within d c.args.fixed.now r.may c.args.near c.args.other r.near r.other)

pub returns-clause-ok : goal.returns-clause-ok
returns-clause-ok c =
    let d = c.args.self.now in
    let r = c.requires in
    let before = c.in_ok-show_flow.ensures.ok ∙ ap (with_flow_at c.args.near.place c.args.near.cep) c.in_ok-enter_all.ensures.ok in
    ok_bind d c.args.fixed.now r.may c.args.near c.args.other r.near r.other c.show_flow-2.result c.show_flow.new.self c.show_flow-2.new.self before c.show_flow-2.ensures.ok
