use Rattle.std.proofs.Common.{◌≡◌, ℕ, ◌+◌, ◌<◌, ◌≤◌, false, leb, cond}
use Rattle.rina_dtp.specs.Ring.{bit}
use Rattle.rina_dtp.proofs.ring.clear_after.Given as goal

abbrev pub invariant-loop-i : goal.invariant-loop-i
invariant-loop-i l = (k : ℕ) → k ≤ l.top + l.i → l.top + l.i < k + 4096 → bit l.bits k ≡ cond (leb k l.top) (bit l.fn.bits k) false
