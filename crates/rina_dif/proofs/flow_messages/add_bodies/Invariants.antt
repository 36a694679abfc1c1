-- The messages among the SDUs so far were added.
use Rattle.std.proofs.Common.{take}
use Rattle.rina_dif.specs.FlowMessages.{AddsFlowMessages}
use Rattle.rina_dif.proofs.flow_messages.add_bodies.Given as goal

abbrev pub invariant-loop-body : goal.invariant-loop-body
invariant-loop-body l = AddsFlowMessages (take l.body-index l.bodies) l.fn.messages.items l.messages.items
