-- The messages so far were handled, and the rest are left.
use Rattle.std.proofs.Common.{◌≡◌, ◌++◌, List, Ok, Some}
use Rattle.rina_iface.specs.Seen.{Seen}
use Rattle.rina_law.specs.Direction.{Direction}
use Rattle.rina_dif.specs.Elsewhere.{ChangesOnly, IsEndHere}
use Rattle.rina_dif.specs.FlowMessages.{ChangesFlowParts, TakesFlows}
use Rattle.rina_dif.specs.Holding.{Holds}
use Rattle.rina_dif.proofs.dif.Dif.take_messages.Given as goal

abbrev pub invariant-loop-message : goal.invariant-loop-message
invariant-loop-message l = record {
  all : l.yielded ++ l.message-iterator.rest.items ≡ l.fn.messages.items;
  does : (lines : List Direction) (below : Seen) → Holds l.fn.self lines below → TakesFlows l.fn.self lines below l.at l.yielded (Ok tt) l.self;
  whole : ChangesFlowParts l.fn.self l.self;
  leaves : ChangesOnly (IsEndHere l.fn.self (Some l.at)) (Some l.at) l.fn.self l.self;
}
