use Rattle.rina_tower.proofs.FitBound.{item_at}
use Rattle.rina_promises.specs.Promises.{IsFlowText}
use Rattle.rina_promises.proofs.Texts.{texts_more, texts_none}
use Rattle.rina_promises.proofs.table.add_flows.Goals as goal

pub flows-init : goal.flows-init
flows-init c = texts_none (IsFlowText c.args.plan.now c.args.tower.now c.args.at c.args.dif.now) c.args.text.now

pub add_flow-requires-clause-flow : goal.add_flow-requires-clause-flow
add_flow-requires-clause-flow c = record {
  dif = c.requires.dif;
  place = c.flows.flow-index;
  flow = item_at c.as_slice-flow-items.result.now c.args.dif.now.flows c.flows.flow-index c.flow-item.result c.as_slice-flow-items.ensures c.flows-test.true c.flow-item.is;
}

pub flows-preserved : goal.flows-preserved
flows-preserved c =
    let at = item_at c.as_slice-flow-items.result.now c.args.dif.now.flows c.flows.flow-index c.flow-item.result c.as_slice-flow-items.ensures c.flows-test.true c.flow-item.is in
    texts_more (IsFlowText c.args.plan.now c.args.tower.now c.args.at c.args.dif.now) c.args.dif.now.flows c.flows.flow-index c.flow-item.result c.args.text.now c.flows.text c.add_flow.new.text at c.flows.invariant c.in_ok-add_flow.ensures
