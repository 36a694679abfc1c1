-- The messages so far were copied.
use Rattle.std.proofs.Common.{◌≡◌, take}
use Rattle.rina_agent.proofs.agenda.copies.Given as goal

abbrev pub invariant-loop-w : goal.invariant-loop-w
invariant-loop-w l = l.copied.items ≡ take l.w-index l.waiting
