-- The messages among the SDUs so far were added.
use Rattle.std.proofs.Common.{take}
use Rattle.rina_dif.specs.Flooding.{texts_of}
use Rattle.rina_dif.specs.FlowMessages.{AddsFlowMessages}
use Rattle.rina_dif.proofs.flow_messages.add_came.Given as goal

abbrev pub invariant-loop-entry : goal.invariant-loop-entry
invariant-loop-entry l = AddsFlowMessages (texts_of (take l.entry-index l.came)) l.fn.messages.items l.messages.items
