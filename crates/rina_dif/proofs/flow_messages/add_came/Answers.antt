-- One SDU more is read.
use Rattle.std.proofs.Common.{◌∙◌, ap}
use Rattle.rina_law.specs.declared.entry.Entry.{Entry}
use Rattle.rina_dif.proofs.FlowMessages.{entry_added, none_added}
use Rattle.rina_dif.proofs.flow_messages.add_came.Goals as goal

pub loop-entry-init : goal.loop-entry-init
loop-entry-init c = none_added c.args.messages.now.items

pub loop-entry-preserved : goal.loop-entry-preserved
loop-entry-preserved c =
    entry_added c.args.came.now c.loop-entry.entry-index _ c.as_slice.result.now c.args.messages.now.items c.loop-entry.messages.items c.add_message.new.messages.items c.loop-entry-test.true (c.as_slice.ensures ∙ ap (λ (x : Entry). x.bytes) c.entry-item.is) c.loop-entry.invariant c.in_ok-add_message.ensures
