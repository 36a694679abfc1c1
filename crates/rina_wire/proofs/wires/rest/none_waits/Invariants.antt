use Rattle.std.proofs.Common.{◌≡◌, ℕ, ◌<◌, [], slice_get, Some}
use Rattle.rina_wire.specs.Air.{Line}
use Rattle.rina_wire.proofs.wires.rest.none_waits.Given as goal

-- none waits at a wire that was looked at
abbrev pub invariant-loop-fac : goal.invariant-loop-fac
invariant-loop-fac l = (at : ℕ) (w : Line) → at < l.fac → slice_get l.wires at ≡ Some w → w.waiting ≡ []
