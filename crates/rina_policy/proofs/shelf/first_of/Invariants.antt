-- None of the places that were looked at has the name.
use Rattle.std.proofs.Common.{◌≡◌, ℕ, ◌<◌, false, Some, slice_get}
use Rattle.std.specs.Str.{bytes_eq}
use Rattle.rina_policy.proofs.shelf.first_of.Given as goal

abbrev pub invariant-loop-at : goal.invariant-loop-at
invariant-loop-at g l = (j : ℕ) (p : _) → j < l.at → slice_get l.places j ≡ Some p → bytes_eq p.name l.name ≡ false
