use Rattle.std.proofs.Common.{◌≡◌, ℕ, ◌<◌, get_or, false}
use Rattle.rina_dtp.proofs.ring.clear_all.Given as goal

abbrev pub invariant-loop-b : goal.invariant-loop-b
invariant-loop-b l = (k : ℕ) → k < l.b-index → get_or l.bits k false ≡ false
