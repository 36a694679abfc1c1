use Rattle.rina_dif.specs.declared.waiting_asks.WaitingAsk.{WaitingAsk}
use Rattle.rina_dif.proofs.Requested.{has_requested, pushed_items}
use Rattle.rina_dif.proofs.dif.Dif.request.Goals as goal

pub returns-clause-ok : goal.returns-clause-ok
returns-clause-ok c =
    let d = c.args.self.now in
    let flow = c.args.flow in
    let w = c.requires.wanted in
    let asks = c.push.new.self in
    let waiting : WaitingAsk = record { member = flow.near.place; invoke = c.next_invoke-invoke.result; place = c.len.result } in
    has_requested d c.args.ask.now flow w asks c.send_message.new.self c.send_message.result c.next_invoke-invoke.result c.len.result c.in_ok-message.message c.in_ok-message.ensures.is (c.next_invoke-invoke.ensures w.management w.is_management) c.len.ensures.value
    (pushed_items c.push.result d.asks.items asks.items waiting c.if-is_err.ensures.value c.push.ensures.items) c.send_message.ensures.ok
