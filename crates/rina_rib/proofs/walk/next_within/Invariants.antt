-- What was passed so far is not within.
use Rattle.std.proofs.Common.{◌≡◌, length}
use Rattle.rina_rib.specs.Objects.{seen}
use Rattle.rina_rib.specs.Walks.{within}
use Rattle.rina_rib.proofs.walk.next_within.Given as goal

abbrev pub invariant-objects : goal.invariant-objects
invariant-objects l = within l.under (seen l.rest) ≡ within l.under (seen l.initial.rest)

abbrev pub decreases-objects : goal.decreases-objects
decreases-objects l = length l.rest
