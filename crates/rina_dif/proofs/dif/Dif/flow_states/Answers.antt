use Rattle.std.proofs.Common.{List, ap, arith, length, length-append, slice_get, subst, sym, ◌∙◌}
use Rattle.rina_dif.specs.declared.flow_state.FlowState.{FlowState}
use Rattle.rina_dif.proofs.Told.{AreSoFar, one_flow}
use Rattle.rina_dif.proofs.dif.Dif.flow_states.Goals as goal

pub loop-at-preserved : goal.loop-at-preserved
loop-at-preserved c =
    let d = c.args.self.now in
    let states = c.loop-at.states.items in
    let is = c.in_ok-push.ensures.items in
    let count = c.loop-at.invariant.count in
    record {
      count = omega (arith, count, simp length-append at (ap (λ (xs : List FlowState). length xs) is));
      each = subst (λ (xs : List FlowState). AreSoFar d.clock d.flows.journal.ends d.flows.conns xs) (sym is)
          (one_flow d.clock d.flows.journal.ends d.flows.conns states c.in-Some.end.now c.at-conn.result.now c.flow_state.result c.loop-at.invariant.each
          (ap (slice_get d.flows.journal.ends) count ∙ c.in-Some.ensures) (ap (slice_get d.flows.conns) count ∙ c.at-conn.ensures) c.flow_state.ensures);
    }
