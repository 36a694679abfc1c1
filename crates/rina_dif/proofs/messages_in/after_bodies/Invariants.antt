-- The bodies so far were handled.
use Rattle.std.proofs.Common.{take}
use Rattle.rina_dif.specs.Handling.{HandlesInTurn, or_same}
use Rattle.rina_dif.proofs.messages_in.after_bodies.Given as goal

abbrev pub invariant-loop-body : goal.invariant-loop-body
invariant-loop-body l = HandlesInTurn l.now l.number (take l.body-index l.bodies) (or_same l.before l.fn.after) (or_same l.before l.after)
