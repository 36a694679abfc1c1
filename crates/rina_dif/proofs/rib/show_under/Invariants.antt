-- What was shown so far, and what the walk has left.
use Rattle.std.proofs.Common.{◌≡◌, ◌++◌, map}
use Rattle.rina_rib.specs.Walks.{left_of, within}
use Rattle.rina_dif.specs.Objects.{shown_of}
use Rattle.rina_dif.proofs.rib.show_under.Given as goal

abbrev pub invariant-loop-name : goal.invariant-loop-name
invariant-loop-name l = l.objects ++ map shown_of (left_of l.name-iterator) ≡ map shown_of (within l.under l.rib.objects)
