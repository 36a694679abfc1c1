use Rattle.std.proofs.Common.{drop, length}
use Rattle.rina_tower.specs.Rounds.{dif_links}
use Rattle.rina_tower.proofs.Listing.{IsAdding}
use Rattle.rina_tower.proofs.difs.places.add_dif_links.Given as goal

-- those of the first IPC processes were added
abbrev pub invariant-loop-member : goal.invariant-loop-member
invariant-loop-member l = IsAdding l.fn.places (dif_links l.rank l.dif.settings.fac l.dif.settings.members l.dif.processes) l.places (dif_links l.rank l.dif.settings.fac (drop (length l.yielded) l.dif.settings.members) (drop (length l.yielded) l.dif.processes))
