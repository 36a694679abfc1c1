use Rattle.std.proofs.Common.{◌≡◌, ℕ, ◌<◌, ◌≤◌, false}
use Rattle.rina_dtp.specs.Shelf.{holds}
use Rattle.rina_dtp.proofs.shelf.Shelf.first_held.Given as goal

abbrev pub invariant-loop-number : goal.invariant-loop-number
invariant-loop-number l = (i : ℕ) → l.self.next ≤ i → i < l.number → holds l.self.places i ≡ false
