-- One body more is read.
use Rattle.std.proofs.Common.{◌∙◌}
use Rattle.rina_dif.proofs.FlowMessages.{body_added, none_added}
use Rattle.rina_dif.proofs.flow_messages.add_bodies.Goals as goal

pub loop-body-init : goal.loop-body-init
loop-body-init c = none_added c.args.messages.now.items

pub loop-body-preserved : goal.loop-body-preserved
loop-body-preserved c =
    body_added c.args.bodies.now c.loop-body.body-index _ c.as_slice.result.now c.args.messages.now.items c.loop-body.messages.items c.add_message.new.messages.items c.loop-body-test.true (c.as_slice.ensures ∙ c.body-item.is) c.loop-body.invariant c.in_ok-add_message.ensures
