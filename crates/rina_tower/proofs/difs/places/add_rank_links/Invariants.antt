use Rattle.std.proofs.Common.{drop}
use Rattle.rina_tower.specs.Rounds.{rank_links}
use Rattle.rina_tower.proofs.Listing.{IsAdding}
use Rattle.rina_tower.proofs.difs.places.add_rank_links.Given as goal

-- those of the first DIFs were added
abbrev pub invariant-loop-dif : goal.invariant-loop-dif
invariant-loop-dif l = IsAdding l.fn.places (rank_links l.rank 0 l.difs) l.places (rank_links l.rank l.dif-index (drop l.dif-index l.difs))
