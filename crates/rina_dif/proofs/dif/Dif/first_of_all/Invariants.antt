use Rattle.rina_dif.proofs.Clocked.{Found}
use Rattle.rina_dif.proofs.dif.Dif.first_of_all.Given as goal

abbrev pub invariant-loop-at : goal.invariant-loop-at
invariant-loop-at l = Found l.item l.self l.node l.at l.first
