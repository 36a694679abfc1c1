use Rattle.std.proofs.Common.{◌∙◌, slice_set, refl, ap, slice_get, subst, ◌≡◌}
use Rattle.rina_iface.specs.declared.state.PortState.{PortState}
use Rattle.rina_iface.specs.State.{with_state}
use Rattle.rina_dif.proofs.Freed.{same_end, withdraws}
use Rattle.rina_iface.specs.declared.ends.End.{End}
use Rattle.rina_dif.specs.Elsewhere.{ChangesOnly, WhenOk, home_of}
use Rattle.rina_dif.proofs.Elsewhere.{withdrawn_at}
use Rattle.rina_dif.proofs.dif.Dif.free_at.Goals as goal

pub returns-in_default-state-clause-does : goal.returns-in_default-state-clause-does
returns-in_default-state-clause-does c =
    let d = c.args.self.now in
    let end = c.in-Some.end.now in
    let ends = c.set_state.ensures end c.in-Some.ensures ∙ ap (λ (s : PortState). slice_set d.flows.journal.ends c.args.at (with_state end s)) c.freed.ensures in
    withdraws d c.args.at end (record d.flows { journal = record { ends = c.set_state.new.self } }) c.in-Some.ensures c.in_default-state.not-Allocated c.in_default-state.not-Pending refl ends

pub returns-in-Allocated-clause-leaves : goal.returns-in-Allocated-clause-leaves
returns-in-Allocated-clause-leaves c = λ end is.
    let d = c.args.self.now in
    subst (λ (e : End). ChangesOnly (λ i. WhenOk c.give_up_flow.result (i ≡ c.args.at)) (home_of d e.port.node) d c.give_up_flow.new.self) (same_end (slice_get d.flows.journal.ends c.args.at) c.in-Some.end.now end c.in-Some.ensures is) c.give_up_flow.ensures.leaves

pub returns-in_default-state-clause-leaves : goal.returns-in_default-state-clause-leaves
returns-in_default-state-clause-leaves c = λ end is. withdrawn_at c.args.self.now c.args.at c.freed.result c.set_state.new.self (home_of c.args.self.now end.port.node) c.requires.at c.set_state.ensures
