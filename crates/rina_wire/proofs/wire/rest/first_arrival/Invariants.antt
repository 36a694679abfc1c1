use Rattle.std.proofs.Common.{◌≡◌, ℕ, ◌<◌, ◌≤◌, slice_get, Some}
use Rattle.rina_wire.specs.declared.flight.Flight.{Flight}
use Rattle.rina_wire.specs.Resting.{AreQuietCopies, IsLast}
use Rattle.rina_wire.proofs.wire.rest.first_arrival.Given as goal

-- no copy that was looked at arrives before, and no later tick serves for all copies
abbrev pub invariant-loop-place : goal.invariant-loop-place
invariant-loop-place l = record {
  quiet : (at : ℕ) (f : Flight) → at < l.place → slice_get l.flights at ≡ Some f → l.until ≤ f.due;
  last : IsLast (λ u. AreQuietCopies u l.flights) l.until;
}
