use Rattle.std.proofs.Common.{sym, subst}
use Rattle.std.proofs.lemmas.Option.{slice_get_within}
use Rattle.rina_iface.specs.declared.ask.Fixed.{Fixed}
use Rattle.rina_iface.specs.Bind.{CanBind}
use Rattle.rina_dif.specs.Planned.{flow_fixed}
use Rattle.rina_tower.specs.BuildSteps.{HasBound}
use Rattle.rina_tower.specs.Ranks.{seen_of}
use Rattle.std.proofs.Common.{[], ◌∷◌}
use Rattle.rina_tower.proofs.FitBound.{can_next, flow_names, flow_nodes, has_next, has_none, item_at}
use Rattle.rina_tower.proofs.build.bind_flows.Goals as goal

pub loop-flow-init : goal.loop-flow-init
loop-flow-init c = has_none c.args.tower.now c.requires.valid

pub flow_fixed-requires-clause-place : goal.flow_fixed-requires-clause-place
flow_fixed-requires-clause-place c = slice_get_within c.args.plan.now.difs c.args.place c.args.dif.now c.requires.place

pub flow_fixed-requires-clause-from : goal.flow_fixed-requires-clause-from
flow_fixed-requires-clause-from c =
    let is = item_at c.as_slice-flow-items.result.now c.args.dif.now.flows c.loop-flow.flow-index c.flow-item.result c.as_slice-flow-items.ensures c.loop-flow-test.true c.flow-item.is in
    (flow_nodes c.args.plan.now c.args.place c.loop-flow.flow-index c.args.dif.now c.flow-item.result c.requires.plan c.requires.place is).0

pub flow_fixed-requires-clause-to : goal.flow_fixed-requires-clause-to
flow_fixed-requires-clause-to c =
    let is = item_at c.as_slice-flow-items.result.now c.args.dif.now.flows c.loop-flow.flow-index c.flow-item.result c.as_slice-flow-items.ensures c.loop-flow-test.true c.flow-item.is in
    (flow_nodes c.args.plan.now c.args.place c.loop-flow.flow-index c.args.dif.now c.flow-item.result c.requires.plan c.requires.place is).1

pub flow_fixed-requires-clause-names : goal.flow_fixed-requires-clause-names
flow_fixed-requires-clause-names c =
    let is = item_at c.as_slice-flow-items.result.now c.args.dif.now.flows c.loop-flow.flow-index c.flow-item.result c.as_slice-flow-items.ensures c.loop-flow-test.true c.flow-item.is in
    flow_names c.args.plan.now c.args.place c.loop-flow.flow-index c.args.dif.now c.flow-item.result c.requires.plan c.requires.place is

pub bind_flow-requires-clause-can : goal.bind_flow-requires-clause-can
bind_flow-requires-clause-can c =
    let is = item_at c.as_slice-flow-items.result.now c.args.dif.now.flows c.loop-flow.flow-index c.flow-item.result c.as_slice-flow-items.ensures c.loop-flow-test.true c.flow-item.is in
    let can = can_next (flow_fixed c.args.plan.now c.args.place) c.args.dif.now.flows c.loop-flow.flow-index c.flow-item.result (seen_of c.args.tower.now) (seen_of c.loop-flow.tower) is c.requires.can c.loop-flow.invariant.bound in
    subst (CanBind (seen_of c.loop-flow.tower)) (sym c.in_ok-fixed.ensures.exact) can

pub loop-flow-preserved : goal.loop-flow-preserved
loop-flow-preserved c =
    let is = item_at c.as_slice-flow-items.result.now c.args.dif.now.flows c.loop-flow.flow-index c.flow-item.result c.as_slice-flow-items.ensures c.loop-flow-test.true c.flow-item.is in
    let one = subst (λ (x : Fixed). HasBound c.loop-flow.tower (x ∷ []) c.bind_flow.new.tower) c.in_ok-fixed.ensures.exact c.in_ok-bind_flow.ensures in
    has_next (flow_fixed c.args.plan.now c.args.place) c.args.dif.now.flows c.loop-flow.flow-index c.flow-item.result c.args.tower.now c.loop-flow.tower c.bind_flow.new.tower is c.loop-flow.invariant one
