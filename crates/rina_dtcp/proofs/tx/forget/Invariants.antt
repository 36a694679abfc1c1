use Rattle.std.proofs.Common.{◌≡◌, drop}
use Rattle.rina_dtcp.proofs.tx.forget.Given as goal

abbrev pub invariant-loop : goal.invariant-loop
invariant-loop l = l.unacked.items ≡ drop l.counter l.fn.unacked.items
