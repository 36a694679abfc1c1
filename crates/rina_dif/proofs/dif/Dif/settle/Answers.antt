use Rattle.std.proofs.Common.{◌∙◌, Some, ap, sym}
use Rattle.std.proofs.lemmas.Bool.{false≢true}
use Rattle.rina_base.specs.Pdus.{key_of}
use Rattle.rina_data.specs.Hops.{hop_of}
use Rattle.rina_dif.specs.declared.dif.Dif.{Dif}
use Rattle.rina_dif.specs.Elsewhere.{IsTaker, WhenOk}
use Rattle.rina_dif.proofs.Elsewhere.{lost_alone}
use Rattle.rina_dif.proofs.OnLinks.{flow_taken}
use Rattle.rina_dif.proofs.dif.Dif.settle.Goals as goal

pub route_or_deliver-requires-clause-flow : goal.route_or_deliver-requires-clause-flow
route_or_deliver-requires-clause-flow c = λ link. false≢true (sym c.if-is_for_link.false ∙ c.is_for_link.ensures.1 link)

pub returns-else-is_for_link-clause-does : goal.returns-else-is_for_link-clause-does
returns-else-is_for_link-clause-does c =
    let d = c.args.self.now in
    let at = c.args.at in
    let since = c.args.came.now.since in
    let port = c.args.port in
    let hop = hop_of c.args.came.now.hop in
    flow_taken d at since port hop c.route_or_deliver.result c.route_or_deliver.new.self (λ link. false≢true (sym c.if-is_for_link.false ∙ c.is_for_link.ensures.1 link)) (ap (λ (z : Dif). z.connections) c.route_or_deliver.ensures.whole) c.route_or_deliver.ensures.does

pub returns-then-is_for_link-clause-leaves : goal.returns-then-is_for_link-clause-leaves
returns-then-is_for_link-clause-leaves c =
    let d = c.args.self.now in
    let at = Some c.args.at in
    let key = key_of (hop_of c.args.came.now.hop).pdu in
    lost_alone d c.deliver_on_link.new.self at (λ i. WhenOk c.deliver_on_link.result (IsTaker d at key i)) c.deliver_on_link.ensures.leaves (ap (λ (z : Dif). z.flows) c.deliver_on_link.ensures.whole)
