use Rattle.rina_dif.proofs.LinkFirst.{Among, FoundOf}
use Rattle.rina_dif.proofs.dif.Dif.first_link_among.Given as goal

abbrev pub invariant-loop-n : goal.invariant-loop-n
invariant-loop-n l = FoundOf l.item l.self l.at (Among l.places l.n) l.first
