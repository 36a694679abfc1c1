-- The SDUs so far were handled.
use Rattle.std.proofs.Common.{take}
use Rattle.rina_dif.specs.Flooding.{texts_of}
use Rattle.rina_dif.specs.Handling.{HandlesInTurn, or_same}
use Rattle.rina_dif.proofs.messages_in.after_all.Given as goal

abbrev pub invariant-loop-entry : goal.invariant-loop-entry
invariant-loop-entry l = HandlesInTurn l.now l.number (texts_of (take l.entry-index l.came)) l.management (or_same l.management l.after)
