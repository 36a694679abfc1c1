use Rattle.std.proofs.Common.{drop}
use Rattle.rina_tower.proofs.Listing.{IsAdding, to_links}
use Rattle.rina_tower.proofs.difs.places.add_live.Given as goal

-- the first live links were added
abbrev pub invariant-loop-one : goal.invariant-loop-one
invariant-loop-one l = IsAdding l.fn.places (to_links l.rank l.dif l.node l.links) l.places (to_links l.rank l.dif l.node (drop l.one-index l.links))
