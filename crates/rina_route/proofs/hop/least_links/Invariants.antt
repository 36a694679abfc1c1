-- The least links so far.
use Rattle.std.proofs.Common.{take}
use Rattle.rina_route.specs.Weights.{AreLeastLinks}
use Rattle.rina_route.proofs.hop.least_links.Given as goal

abbrev pub invariant-loop-link : goal.invariant-loop-link
invariant-loop-link l = AreLeastLinks (take l.link-index l.links) l.least.entries
