use Rattle.rina_dif.proofs.LinkFirst.{Before, FoundOf}
use Rattle.rina_dif.proofs.dif.Dif.first_of_all_links.Given as goal

abbrev pub invariant-loop-place : goal.invariant-loop-place
invariant-loop-place l = FoundOf l.item l.self l.at (Before l.place) l.first
