use Rattle.std.proofs.Common.{◌≡◌, ◌∙◌, ℕ, ap, arith, refl, subst, sym}
use Rattle.std.proofs.lemmas.Result.{err_from_is_err_and}
use Rattle.rina_base.specs.declared.number.FlowName.{FlowName}
use Rattle.rina_conn.specs.declared.form.Peer.{Peer}
use Rattle.rina_iface.specs.Bind.{with_name_once}
use Rattle.rina_iface.specs.Ends.{drawn_at}
use Rattle.rina_dif_law.specs.Numbered.{asked_at}
use Rattle.rina_dif.specs.declared.dif.Dif.{Dif}
use Rattle.rina_dif.specs.Binding.{AddsFlow, HaveDrawn}
use Rattle.rina_dif.specs.Changing.{ManagesBind, MayHoldFar}
use Rattle.rina_dif.proofs.Bound.{asked_small, asker_is, binds, far_is, next_small}
use Rattle.rina_ids.specs.Members.{DrawsAt}
use Rattle.rina_dif.proofs.Drawing.{drawn_a, drawn_b, places_apart}
use Rattle.rina_dif.proofs.Entered.{bound_far, fails_managed, none_far, shown_agents}
use Rattle.rina_member.proofs.Lists.{is_there}
use Rattle.rina_dif.proofs.Showing.{binds_failed, binds_managed, binds_nothing}
use Rattle.rina_dif.proofs.dif.Dif.bind_flow.Goals as goal

pub overflow_cast-flow : goal.overflow_cast-flow
overflow_cast-flow c =
    let ends = c.args.self.now.flows.journal.ends in
    let node = c.args.fixed.now.a in
    let m = c.requires.may in
    let next = next_small c.args.self.now node (drawn_at node ends) c.requires.valid (m.of_a, m.at_a) refl in
    let less = asked_small node ends in
    let is = c.asked.ensures ∙ ap (asked_at node) c.as_slice.ensures in
    omega (arith, next, less, is)

pub returns-clause-does : goal.returns-clause-does
returns-clause-does c = λ lines below h.
    let d = c.args.self.now in
    let fixed = c.args.fixed.now in
    let near = c.draw-near.result in
    let other = c.draw-other.result in
    let count = c.asked.ensures ∙ ap (asked_at fixed.a) c.as_slice.ensures in
    let flow : FlowName = record { src = near.addr; tick = d.clock; count = c.asked.result } in
    let flow_is : flow ≡ record { src = near.addr; tick = d.clock; count = asked_at fixed.a d.flows.journal.ends } = ap (λ (k : ℕ). record { src = near.addr; tick = d.clock; count = k }) count in
    let peer : Peer = record { own = near.addr; far = other.addr; scep = near.cep; dcep = other.cep } in
    let asker = c.in_ok-asker.asker in
    let far = c.in_ok-far.far in
    let d1 = c.manage_flow.new.self in
    let d2 = c.add_drawn.new.self in
    let m = c.in_ok-manage_flow.ensures.ok in
    let whole = c.in_ok-manage_flow.ensures.whole in
    let names = with_name_once d.names far.port.node far.app in
    let added = subst (λ (z : Dif). AddsFlow z.settings asker.cube peer asker far z.flows d2.flows) whole c.in_ok-add_drawn.ensures.ok in
    let drew = subst (λ (z : Dif). HaveDrawn z.ids z.clock (near.place, other.place) peer d2.ids) whole c.in_ok-add_drawn.ensures.ids in
    let rest : d2 ≡ record d1 { flows = d2.flows; ids = d2.ids; names = names } = c.in_ok-add_drawn.ensures.rest ∙ ap (λ (z : Dif). record d1 { flows = d2.flows; ids = d2.ids; names = with_name_once z.names far.port.node far.app }) whole in
    binds_managed d d1 d2 lines below fixed (near.port, other.port) fixed.b_app m.far names c.is_formed.ensures (is_there d.settings.members m.b m.far m.is_far) whole rest
    (shown_agents fixed.b_app m.far.addr m.a m.scep m.b m.dcep d.managements d1.managements m.are)
    (binds d fixed c.requires.may near other c.draw-near.ensures c.draw-other.ensures asker far (record d { flows = d2.flows; ids = d2.ids; names = names })
    (c.in_ok-asker.ensures ∙ asker_is d fixed c.requires.may near other c.draw-near.ensures c.draw-other.ensures flow flow_is)
    (c.in_ok-far.ensures ∙ far_is d fixed c.requires.may near other c.draw-near.ensures c.draw-other.ensures flow flow_is)
    added drew refl lines below h)

pub returns-clause-manages : goal.returns-clause-manages
returns-clause-manages c =
    let same : c.add_drawn.new.self.managements ≡ c.manage_flow.new.self.managements = ap (λ (z : Dif). z.managements) c.in_ok-add_drawn.ensures.rest in
    subst (ManagesBind c.args.self.now c.args.fixed.now) (sym same) c.in_ok-manage_flow.ensures.ok

-- An allocation failed

pub returns-in_err-asker-clause-does : goal.returns-in_err-asker-clause-does
returns-in_err-asker-clause-does c =
    let err = err_from_is_err_and c.from_residual.result c.from_residual.ensures.1 in
    binds_nothing c.args.self.now c.args.fixed.now c.from_residual.result err.0 err.1 err.2

pub returns-in_err-far-clause-does : goal.returns-in_err-far-clause-does
returns-in_err-far-clause-does c =
    let err = err_from_is_err_and c.from_residual-in_err-far.result c.from_residual-in_err-far.ensures.1 in
    binds_nothing c.args.self.now c.args.fixed.now c.from_residual-in_err-far.result err.0 err.1 err.2

pub returns-in_err-asker-clause-manages : goal.returns-in_err-asker-clause-manages
returns-in_err-asker-clause-manages c =
    let err = err_from_is_err_and c.from_residual.result c.from_residual.ensures.1 in
    fails_managed c.args.self.now c.args.fixed.now c.from_residual.result err.0 c.args.self.now.managements err.1 (none_far c.args.self.now c.args.fixed.now)

pub returns-in_err-far-clause-manages : goal.returns-in_err-far-clause-manages
returns-in_err-far-clause-manages c =
    let err = err_from_is_err_and c.from_residual-in_err-far.result c.from_residual-in_err-far.ensures.1 in
    fails_managed c.args.self.now c.args.fixed.now c.from_residual-in_err-far.result err.0 c.args.self.now.managements err.1 (none_far c.args.self.now c.args.fixed.now)

pub returns-in_err-manage_flow-clause-does : goal.returns-in_err-manage_flow-clause-does
returns-in_err-manage_flow-clause-does c = λ lines below h.
    let err = err_from_is_err_and c.from_residual-in_err-manage_flow.result c.from_residual-in_err-manage_flow.ensures.1 in
    let d1 = c.manage_flow.new.self in
    binds_failed c.args.self.now d1 d1 c.args.fixed.now c.from_residual-in_err-manage_flow.result err.0 c.is_formed.ensures c.requires.may err.1 err.2 c.in_err-manage_flow.ensures.whole c.in_err-manage_flow.ensures.err refl lines below h

pub returns-in_err-manage_flow-clause-manages : goal.returns-in_err-manage_flow-clause-manages
returns-in_err-manage_flow-clause-manages c =
    let err = err_from_is_err_and c.from_residual-in_err-manage_flow.result c.from_residual-in_err-manage_flow.ensures.1 in
    fails_managed c.args.self.now c.args.fixed.now c.from_residual-in_err-manage_flow.result err.0 c.manage_flow.new.self.managements err.1 c.in_err-manage_flow.ensures.err

pub returns-in_err-add_drawn-clause-does : goal.returns-in_err-add_drawn-clause-does
returns-in_err-add_drawn-clause-does c = λ lines below h.
    let err = err_from_is_err_and c.from_residual-in_err-add_drawn.result c.from_residual-in_err-add_drawn.ensures.1 in
    let d = c.args.self.now in
    let fixed = c.args.fixed.now in
    let d1 = c.manage_flow.new.self in
    binds_failed d d1 c.add_drawn.new.self fixed c.from_residual-in_err-add_drawn.result err.0 c.is_formed.ensures c.requires.may err.1 err.2 c.in_ok-manage_flow.ensures.whole (bound_far d fixed d1.managements c.in_ok-manage_flow.ensures.ok) c.in_err-add_drawn.ensures.err lines below h

pub returns-in_err-add_drawn-clause-manages : goal.returns-in_err-add_drawn-clause-manages
returns-in_err-add_drawn-clause-manages c =
    let err = err_from_is_err_and c.from_residual-in_err-add_drawn.result c.from_residual-in_err-add_drawn.ensures.1 in
    let d = c.args.self.now in
    let fixed = c.args.fixed.now in
    let d1 = c.manage_flow.new.self in
    let same = ap (λ (z : Dif). z.managements) c.in_err-add_drawn.ensures.err in
    fails_managed d fixed c.from_residual-in_err-add_drawn.result err.0 c.add_drawn.new.self.managements err.1 (subst (MayHoldFar d fixed) (sym same) (bound_far d fixed d1.managements c.in_ok-manage_flow.ensures.ok))

-- What is drawn

pub add_drawn-requires-clause-apart : goal.add_drawn-requires-clause-apart
add_drawn-requires-clause-apart c = places_apart c.args.self.now c.args.fixed.now c.requires.may c.draw-near.result c.draw-other.result c.draw-near.ensures c.draw-other.ensures

pub add_drawn-requires-clause-a : goal.add_drawn-requires-clause-a
add_drawn-requires-clause-a c =
    let d = c.args.self.now in
    let drew = drawn_a d c.args.fixed.now c.requires.may c.draw-near.result c.draw-other.result c.draw-near.ensures c.draw-other.ensures in
    subst (λ (z : Dif). DrawsAt z.ids z.clock c.draw-near.result.place c.draw-near.result.cep) (sym c.in_ok-manage_flow.ensures.whole) drew

pub add_drawn-requires-clause-b : goal.add_drawn-requires-clause-b
add_drawn-requires-clause-b c =
    let d = c.args.self.now in
    let drew = drawn_b d c.args.fixed.now c.requires.may c.draw-near.result c.draw-other.result c.draw-near.ensures c.draw-other.ensures in
    subst (λ (z : Dif). DrawsAt z.ids z.clock c.draw-other.result.place c.draw-other.result.cep) (sym c.in_ok-manage_flow.ensures.whole) drew
