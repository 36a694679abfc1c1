use Rattle.std.proofs.Common.{◌≡◌, ℕ, ◌<◌, slice_get, Some}
use Rattle.rina_wire.specs.Air.{Line}
use Rattle.rina_wire.specs.Resting.{AreQuietLines, IsLast, IsQuietLine}
use Rattle.rina_wire.proofs.wires.rest.quiet_until.Given as goal

-- nothing arrives before on a wire that was looked at, and no later tick serves for all wires
abbrev pub invariant-loop-fac : goal.invariant-loop-fac
invariant-loop-fac l = record {
  quiet : (at : ℕ) (w : Line) → at < l.fac → slice_get l.wires at ≡ Some w → IsQuietLine l.until w;
  last : IsLast (λ u. AreQuietLines u l.wires) l.until;
}
